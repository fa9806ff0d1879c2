-- Directives as a queue keeps them.
use Rattle.std.specs.Prelude.{◌≡◌, ℕ, ◌-◌, ◌≤◌, cond, List, ◌++◌, length, take, replicate, Some, None, Option, nat_le}

-- octets with zeros behind them, sixteen in all
abbrev pub padded : List ℕ → List ℕ
padded o = o ++ replicate (16 - length o) 0

-- so many of sixteen octets are a directive's, and those behind them are zero
pub record Padded (octets : List ℕ) (n : ℕ) : Type 0 where
  pub most : n ≤ 16
  pub count : length (take n octets) ≡ n
  pub zeros : octets ≡ padded (take n octets)

-- packing keeps any octets, unless they are more than the longest directive has
abbrev pub packing : List ℕ → Option (List ℕ)
packing o = cond (nat_le (length o) 16) (Some o) None
