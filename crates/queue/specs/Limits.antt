-- The limits of a queue.
use Rattle.std.specs.Prelude.{ℕ}

-- how many elements the largest table has
abbrev pub largest_table : ℕ
largest_table = 256

-- how many octets an element stands for at most, which is what the largest frame has
abbrev pub most_octets : ℕ
most_octets = 2048
