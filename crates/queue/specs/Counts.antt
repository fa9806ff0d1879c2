-- What a queue keeps.
use Rattle.std.specs.Prelude.{ℕ, ◌≤◌}
use Rattle.ring.specs.Ring.{Numbers, Sound, empty_ring}
use Rattle.queue.specs.Limits.{largest_table}

-- the numbers of a queue: those of its ring, and the octets of the queued elements together
pub record Counts : Type 0 where
  pub ring : Numbers
  pub total : ℕ

-- what holds of every queue: its ring is sound, and its table has not too many elements
pub record IsQueue (q : Counts) : Type 0 where
  pub sound : Sound q.ring
  pub small : q.ring.size ≤ largest_table

-- the queue of no element, over a table of this size
abbrev pub empty_queue : ℕ → Counts
empty_queue n = record { ring = empty_ring n; total = 0 }
