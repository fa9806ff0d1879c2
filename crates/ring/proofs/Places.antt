-- Places in a ring.
use Rattle.std.proofs.Common.{◌≡◌, ℕ, ◌+◌, ◌-◌, ◌<◌, ◌≤◌, ltb, arith}
use Rattle.std.proofs.lemmas.Bool.{cond-true, cond-false, lt-ltb, le-ltb}
use Rattle.std.proofs.lemmas.Bool.Decides.{nat_tests}
use Rattle.ring.specs.Ring.{place}

-- every place lies in the ring
pub place_below : (size first k : ℕ) → first < size → k ≤ size → place size first k < size
place_below size first k a b = grind (arith, nat_tests)

-- places less than a turn apart are two places
pub place_other : (size first k n : ℕ) → first < size → k < n → n < size → place size first k ≡ place size first n → ⊥
place_other size first k n a b d e = grind (arith, nat_tests)

pub place_next : (size first k : ℕ) → first < size → k < size → place size (place size first 1) k ≡ place size first (k + 1)
place_next size first k a b = grind (arith, nat_tests)

-- before the ring's end, and round it
pub place_low : (size first k : ℕ) → first + k < size → place size first k ≡ first + k
place_low size first k h = cond-true (ltb (first + k) size) _ _ (lt-ltb (first + k) size h)

pub place_high : (size first k : ℕ) → size ≤ first + k → place size first k ≡ first + k - size
place_high size first k h = cond-false (ltb (first + k) size) _ _ (le-ltb (first + k) size h)

-- a place by way of another
pub place_on : (size first k i : ℕ) → first < size → k + i < size → place size (place size first k) i ≡ place size first (k + i)
place_on size first k i a b = grind (arith, nat_tests)

-- a place before another, nearly a turn after it
pub place_back : (size first used k : ℕ) → first < size → k < used → used < size → place size (place size first used) (size - used + k) ≡ place size first k
place_back size first used k a b d = grind (arith, nat_tests)
