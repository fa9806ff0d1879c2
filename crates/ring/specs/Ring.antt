-- The numbers of a ring, and what lies in its used places.
use Rattle.std.specs.Prelude.{ℕ, ◌+◌, ◌-◌, ◌^◌, ◌<◌, ◌≤◌, cond, ◌&&◌, List, ◌++◌, take, drop, Some, None, Option, nat_le, nat_lt}

-- so many places are used from the first on, of this many in all
pub record Numbers : Type 0 where
  pub first : ℕ
  pub count : ℕ
  pub size : ℕ

-- how many places the largest ring has
abbrev pub largest : ℕ
largest = 2 ^ 32

-- what holds of every ring: it has a place, but not too many, and no more are used than it has
pub record Sound (g : Numbers) : Type 0 where
  pub within : g.first < g.size
  pub most : g.count ≤ g.size
  pub small : g.size ≤ largest

-- the place that comes k after the first, round a ring of that size
abbrev pub place : ℕ → ℕ → ℕ → ℕ
place size first k = cond (nat_lt (first + k) size) (first + k) (first + k - size)

-- the place that comes k after a ring's first; the place after the last used one is the next to be used
abbrev pub index_of : Numbers → ℕ → ℕ
index_of g k = place g.size g.first k

-- what lies in the used places of a table, the first place first: the table begins again after its end
abbrev pub queued : {T : Type 0} → Numbers → List T → List T
queued g t = take g.count (drop g.first (t ++ t))

-- a ring of so many places, of which none is used
abbrev pub empty_ring : ℕ → Numbers
empty_ring n = record { first = 0; count = 0; size = n }

-- making: a ring of one place or more, and not too many
abbrev pub making : ℕ → Option Numbers
making n = cond (nat_lt 0 n && nat_le n largest) (Some (empty_ring n)) None

-- n places more are used, behind the others
abbrev pub grown : ℕ → Numbers → Numbers
grown n g = record { first = g.first; count = g.count + n; size = g.size }

-- the first n places are free, where as many are used
abbrev pub without : ℕ → Numbers → Numbers
without n g = record { first = index_of g n; count = g.count - n; size = g.size }
