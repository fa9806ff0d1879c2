-- Frame numbers w bits wide: after 2 ^ w - 1 they begin again at 0.
use Rattle.std.specs.Prelude.{◌≡◌, ℕ, ◌+◌, ◌-◌, ◌*◌, ◌%◌, ◌^◌, ◌<◌, ◌≤◌}

-- how wide the frame numbers of a version-3 frame are
abbrev pub width : ℕ
width = 8

-- the number that comes k after a number
abbrev pub number_after : ℕ → ℕ → ℕ → ℕ
number_after w n k = (n + k) % 2 ^ w

-- how far a number comes after another, going up and, past the last number, round
abbrev pub distance : ℕ → ℕ → ℕ → ℕ
distance w n m = (n + (2 ^ w - m)) % 2 ^ w

-- a number is as far from another as it comes after it
abbrev pub DistanceTellsPlace : Type 0
DistanceTellsPlace = (w n k : ℕ) → n < 2 ^ w → k < 2 ^ w → distance w (number_after w n k) n ≡ k

-- and comes after it as far as it is from it
abbrev pub PlaceTellsNumber : Type 0
PlaceTellsNumber = (w n m : ℕ) → n < 2 ^ w → m < 2 ^ w → number_after w m (distance w n m) ≡ n

-- so far after, and so far again, is as far as both together
abbrev pub PlacesAdd : Type 0
PlacesAdd = (w n j k : ℕ) → number_after w (number_after w n j) k ≡ number_after w n (j + k)

-- What a distance says of two frames that are counted without wrap, k and v: nothing is lost by the wrap as long as
-- they are less than half of all numbers apart.
pub record Tells (w k v d : ℕ) : Type 0 where
  pub same : k ≡ v → d ≡ 0
  pub later : v < k → 2 * (k - v) < 2 ^ w → (d ≡ k - v) × (2 * d < 2 ^ w)
  pub earlier : k < v → 2 * (v - k) ≤ 2 ^ w → 2 ^ w ≤ 2 * d

abbrev pub DistanceTellsOrder : Type 0
DistanceTellsOrder = (w k v : ℕ) → Tells w k v (distance w (k % 2 ^ w) (v % 2 ^ w))

-- the laws of frame numbers, for every width
pub record NumberLaws : Type 0 where
  pub place : DistanceTellsPlace
  pub number : PlaceTellsNumber
  pub sum : PlacesAdd
  pub order : DistanceTellsOrder
