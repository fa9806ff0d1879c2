-- What the rules of the two machines say in other words.
use Rattle.std.specs.Prelude.{◌≡◌, ℕ, ◌+◌, ◌<◌, ◌≤◌, ◌≢◌}
use Rattle.cop.specs.Number.{width, distance}
use Rattle.cop.specs.Sender.{number_at}
use Rattle.cop.specs.declared.sender.Sender.{Sender}
use Rattle.cop.specs.declared.sending.Acknowledgement.{Acknowledgement}
use Rattle.cop.specs.declared.sending.Turn.{Turn}
use Rattle.cop.specs.declared.step.Step.TheVariants as step

-- A turn sends a unit that is in the queue, with a number from the base on that the window allows, and a unit beyond
-- those that are out only as the very next one. No unit leaves the queue by it.
pub record InWindow (s : Sender) (t : Turn) : Type 0 where
  pub not_idle : t.step ≢ step.Idle
  pub number : distance width (number_at s t.place) s.base < s.window
  pub queued : t.place < s.count
  pub next : t.place ≤ s.out
  pub stays : t.after.count ≡ s.count

-- A report frees only units that are out, and those that stay keep their frame numbers.
pub record KeepsNumbers (s : Sender) (a : Acknowledgement) : Type 0 where
  pub out : a.freed ≤ s.out
  pub numbers : (k : ℕ) → number_at a.after k ≡ number_at s (a.freed + k)
