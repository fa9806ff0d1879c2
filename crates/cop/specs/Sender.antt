-- The sending machine (FOP-P).
use Rattle.std.specs.Prelude.{ℕ, ◌+◌, ◌-◌, ◌<◌, ◌≤◌, Bool, cond, ◌&&◌, Some, None, Option, nat_le, nat_lt}
use Rattle.cop.specs.Number.{width, number_after, distance}
use Rattle.cop.specs.declared.sender.Sender.{Sender}
use Rattle.cop.specs.declared.sending.Acknowledgement.{Acknowledgement}
use Rattle.cop.specs.declared.sending.Turn.{Turn}
use Rattle.cop.specs.declared.step.Step.{Step}
use Rattle.cop.specs.declared.step.Step.TheVariants as step

-- the number of each step of a sending turn
abbrev pub step_number : Step → ℕ
step_number step.Directive = 1
step_number step.Report = 2
step_number step.Expedited = 3
step_number step.Again = 4
step_number step.First = 5
step_number step.Oldest = 6
step_number step.Idle = 7

-- what holds of every sender: those that are out are in the queue and within the window, which is from 1 to 127, and the
-- next to send is one of them, or the first after them
pub record IsSender (s : Sender) : Type 0 where
  pub number : s.base < 256
  pub placed : s.at ≤ s.out
  pub allowed : s.out ≤ s.window
  pub queued : s.out ≤ s.count
  pub some : 1 ≤ s.window
  pub most : s.window ≤ 127

-- a sender of nothing yet
abbrev pub fresh_sender : ℕ → Sender
fresh_sender window = record { count = 0; base = 0; out = 0; at = 0; window = window; expedited = 0 }

-- the window is from 1 to 127
abbrev pub making_sender : ℕ → Option Sender
making_sender window = cond (nat_le 1 window && nat_le window 127) (Some (fresh_sender window)) None

-- one unit more in the sequence queue
abbrev pub one_added : Sender → Sender
one_added s = record s { count = s.count + 1 }

-- so many units out, and the next to send at this place
abbrev pub standing : Sender → ℕ → ℕ → Sender
standing s out at = record s { out = out; at = at }

-- after an expedited frame
abbrev pub expedited_sent : Sender → Sender
expedited_sent s = record s { expedited = number_after width s.expedited 1 }

-- a turn of the sending machine: the step, the place of the unit that goes, and the sender after it
abbrev pub goes : Step → ℕ → Sender → Option Turn
goes s k after = Some (record { step = s; place = k; after = after })

-- the first of these that applies: what was sent goes again, from `at` on; while the window and the queue allow it, one
-- more goes for the first time; all that may be out is out, so the oldest goes once more; nothing is out, and none goes
abbrev pub sender_turn : Sender → Option Turn
sender_turn s =
    cond (nat_lt s.at s.out) (goes step.Again s.at (standing s s.out (s.at + 1)))
    (cond (nat_lt s.out s.window && nat_lt s.out s.count) (goes step.First s.out (standing s (s.out + 1) (s.out + 1)))
    (cond (nat_lt 0 s.out) (goes step.Oldest 0 (standing s s.out 1)) None))

-- the number of the frame of the unit at a place
abbrev pub number_at : Sender → ℕ → ℕ
number_at s k = number_after width s.base k

-- how many units a report with this value acknowledges
abbrev pub freed_by : Sender → ℕ → ℕ
freed_by s value = distance width value s.base

-- the sender after such a report: these units leave, and the next to send moves up with the others, or is the oldest
-- where it left too or the report asks to start again
abbrev pub acknowledged_by : Sender → ℕ → Bool → Sender
acknowledged_by s value again =
    record s { count = s.count - freed_by s value; base = value; out = s.out - freed_by s value; at = cond again 0 (s.at - freed_by s value) }

-- what a report does: how many units it frees, and the sender after it; no report can acknowledge more than is out
abbrev pub acknowledging : Sender → ℕ → Bool → Option Acknowledgement
acknowledging s value again = cond (nat_le (freed_by s value) s.out) (Some (record { freed = freed_by s value; after = acknowledged_by s value again })) None
