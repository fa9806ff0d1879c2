-- The laws of frame numbers, at every modulus, and so at every width.
use Rattle.std.proofs.Common.{◌≡◌, ℕ, ◌+◌, ◌-◌, ◌*◌, ◌/◌, ◌%◌, ◌^◌, ◌<◌, mod-lt, mod-eq_of_lt, mul-add, arith, pow_pos}
use Rattle.std.proofs.Math.Nat.{add-mod-mod, add-mod_right, add-mul-mod_self_left, mod-add-div, mod-add-mod}
use Rattle.cop.specs.Number.{NumberLaws, Tells, distance}

module _ (M : ℕ) (pos : 0 < M) where
  -- the number that comes e after another is e away from it
  ahead : (v e : ℕ) → e < M → ((v + e) % M + (M - v % M)) % M ≡ e
  ahead v e h =
      let whole = mod-add-div v M in
      let below = mod-lt v pos in
      let turns : v + e + (M - v % M) ≡ e + M * (v / M + 1) = omega (arith, whole, mul-add M (v / M) 1) in
      rw (mod-add-mod, turns, add-mul-mod_self_left) (mod-eq_of_lt h)

  -- and the one that comes e before it is the rest of the round away
  behind : (k e : ℕ) → 0 < e → e < M → (k % M + (M - (k + e) % M)) % M ≡ M - e
  behind k e some h =
      let whole = mod-add-div (k + e) M in
      let below = mod-lt (k + e) pos in
      let turns : k + (M - (k + e) % M) ≡ M - e + M * ((k + e) / M) = omega (arith, whole) in
      rw (mod-add-mod, turns, add-mul-mod_self_left) (mod-eq_of_lt (omega arith))

  pub place : (n k : ℕ) → n < M → k < M → ((n + k) % M + (M - n)) % M ≡ k
  place n k near h = rw (mod-eq_of_lt near) at (ahead n k h)

  pub number : (n m : ℕ) → n < M → m < M → (m + (n + (M - m)) % M) % M ≡ n
  number n m h near =
      let sum : m + (n + (M - m)) ≡ n + M = omega arith in
      rw (add-mod-mod, sum, add-mod_right) (mod-eq_of_lt h)

  pub sum : (n j k : ℕ) → ((n + j) % M + k) % M ≡ (n + (j + k)) % M
  sum n j k = let e : n + j + k ≡ n + (j + k) = omega arith in rw (mod-add-mod, e)

  pub same : (k : ℕ) → (k % M + (M - k % M)) % M ≡ 0
  same k = grind (arith, ahead k 0 pos)

  pub later : (k v : ℕ) → v < k → k < v + M → (k % M + (M - v % M)) % M ≡ k - v
  later k v l near = let e : v + (k - v) ≡ k = omega arith in rw e at (ahead v (k - v) (omega arith))

  pub earlier : (k v : ℕ) → k < v → v < k + M → (k % M + (M - v % M)) % M ≡ M - (v - k)
  earlier k v l near = let e : k + (v - k) ≡ v = omega arith in rw e at (behind k (v - k) (omega arith) (omega arith))

pub tells : (w k v : ℕ) → Tells w k v (distance w (k % 2 ^ w) (v % 2 ^ w))
tells w k v =
    let pos = pow_pos w in
    record {
      same = λ e. rw e (same (2 ^ w) pos v);
      later = λ l near. let d = later (2 ^ w) pos k v l (omega arith) in (d, omega arith);
      earlier = λ l near. let d = earlier (2 ^ w) pos k v l (omega arith) in omega arith;
    }

pub number_laws : NumberLaws
number_laws = record {
  place = λ w n k. place (2 ^ w) (pow_pos w) n k;
  number = λ w n m. number (2 ^ w) (pow_pos w) n m;
  sum = λ w n j k. sum (2 ^ w) (pow_pos w) n j k;
  order = tells;
}
