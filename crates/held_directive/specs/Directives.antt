-- What copying a directive out of a queue answers and leaves.
use Rattle.std.specs.Prelude.{◌≡◌, ℕ, ◌≤◌, min, true, cond, IfSome, List, length, is_ok, Some, None, Ok, Err, Option, Result, nat_le, slice_get}
use Rattle.bits.specs.Codec.{beginning}
use Rattle.ring.specs.Ring.{Numbers, queued}
use Rattle.queue.specs.Queue.{fitting}
use Rattle.queue.specs.declared.fault.QueueFault.{QueueFault}
use Rattle.queue.specs.declared.fault.QueueFault.TheVariants.{Table}

-- for how many octets a held directive stands: as many as it has, and they are 16 at most
abbrev pub directive_octets : List ℕ → ℕ
directive_octets o = min (length o) 16

-- what copying a directive out answers: how many octets it has, unless the buffer has no room for them; none of none
abbrev pub directive_answer : Option (List ℕ) → List ℕ → Result (Option ℕ) QueueFault
directive_answer None buffer = Ok None
directive_answer (Some o) buffer = cond (nat_le (length o) (length buffer)) (Ok (Some (length o))) (Err Table)

-- a buffer with the octets of a directive at its beginning, if there is one
abbrev pub directive_shown : Option (List ℕ) → List ℕ → List ℕ
directive_shown None buffer = buffer
directive_shown (Some o) buffer = beginning o buffer

-- copying the directive at a place out: its octets come first in the buffer, which has room for them, and how many they
-- are is answered; where there is no directive, none is answered, whatever the buffer; the rest of the buffer, and
-- without a directive or with a refusal all of it, is as it was. A buffer of sixteen octets has room for every directive
pub record CopiesDirective (g : Numbers) (entries : List (List ℕ)) (place : ℕ) (buffer buffer' : List ℕ) (r : Result (Option ℕ) QueueFault) : Type 0 where
  pub answer : r ≡ cond (fitting g entries) (directive_answer (slice_get (queued g entries) place) buffer) (Err Table)
  pub after : buffer' ≡ cond (is_ok r) (directive_shown (slice_get (queued g entries) place) buffer) buffer
  pub few : fitting g entries ≡ true → IfSome (slice_get (queued g entries) place) (λ o. length o ≤ 16)
