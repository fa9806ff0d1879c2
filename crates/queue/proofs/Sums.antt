-- The octets of a ring's elements.
use Rattle.std.proofs.Common.{◌≡◌, ℕ, ◌+◌, ◌-◌, ◌<◌, ◌≤◌, min, List, ◌++◌, length, take, drop, sum_by, sym, ap, ◌∙◌, ⊎_elim, arith, length-drop}
use lib.Seq.{take-append-add}
use Rattle.std.proofs.lemmas.List.{take_all, take-take, take-append-le, drop-append-le}
use Rattle.std.proofs.lemmas.List.Sums.{sum_by-take-drop}
use Rattle.std.proofs.lemmas.Bool.{cases_lt}
use Rattle.ring.specs.Ring.{Numbers, Sound, queued}

-- the first n, met from the first place on, and round the table's end
pub first_queued : {T : Type 0} (g : Numbers) (t : List T) (n : ℕ) → g.first ≤ length t → n ≤ g.count → take n (drop g.first t ++ t) ≡ take n (queued g t)
first_queued g t n h few = ap (take n) (sym (drop-append-le g.first t t h)) ∙ sym (take-take n g.count (drop g.first (t ++ t)) few)

module _ {T : Type 0} (g : Numbers) (t : List T) (n : ℕ) (s : Sound g) (fit : length t ≡ g.size) (few : n ≤ g.count) where
  from_first : take n (queued g t) ≡ take n (drop g.first t ++ t)
  from_first = sym (first_queued g t n (omega (arith, s.within)) few)

  -- they lie in one part of the table,
  pub one_part : g.first + n ≤ g.size → take n (queued g t) ≡ take n (drop g.first t)
  one_part h =
      let room : n ≤ length (drop g.first t) = simp length-drop (omega arith) in
      from_first ∙ take-append-le n (drop g.first t) t room

  -- or in two
  pub two_parts : g.size < g.first + n → take n (queued g t) ≡ drop g.first t ++ take (g.first + n - g.size) t
  two_parts h =
      let within : g.first < g.size = s.within in
      let split : n ≡ length (drop g.first t) + (g.first + n - g.size) = simp length-drop (omega arith) in
      from_first ∙ ap (λ k. take k (drop g.first t ++ t)) split ∙ take-append-add (drop g.first t) t (g.first + n - g.size)

-- the first n, or all where there are fewer
take_most : {T : Type 0} (xs : List T) (n c : ℕ) → length xs ≡ c → take (min n c) xs ≡ take n xs
take_most xs n c e =
    ⊎_elim
    (λ (h : n < c). let m : min n c ≡ n = omega arith in ap (λ k. take k xs) m)
    (λ (h : c ≤ n). take_all (min n c) xs (omega arith) ∙ sym (take_all n xs (omega arith)))
    (cases_lt n c)

-- what is left has the octets of all but those of the elements that went
pub sum_left : {T : Type 0} (f : T → ℕ) (xs : List T) (n c : ℕ) → length xs ≡ c → sum_by f (drop n xs) ≡ sum_by f xs - sum_by f (take (min n c) xs)
sum_left f xs n c e = omega (arith, sum_by-take-drop f xs n, ap (sum_by f) (take_most xs n c e))
