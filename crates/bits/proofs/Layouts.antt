-- The two laws of layouts.
use Rattle.std.proofs.Common.{◌≡◌, ℕ, zero, suc, ◌+◌, ◌*◌, ◌/◌, ◌%◌, ◌^◌, ◌<◌, ◌≤◌, true, ltb, List, [], ◌∷◌, length, get_or, take, sym, refl, ap, ◌∙◌, mod-eq_of_lt, mul_assoc, arith, pow_pos, pow_mono, pow-add, shr-shr}
use native.Mathlib.Nat.{mul-add-div_right, mul-add-mod_self_right}
use lib.Pow.{high, mod-pow-add}
use Rattle.std.proofs.lemmas.List.{length-replicate}
use Rattle.std.proofs.lemmas.Nat.{mul-add-lt, mod_below}
use Rattle.std.proofs.lemmas.Bool.{and_parts, and_from, lt-ltb, ltb-true, true≢false}
use Rattle.bits.specs.Layout.{total, cut, join, fits, octets, number, CutUndoesJoin, JoinUndoesCut}

-- what a first value and the others that fit say of each
pub first_fits : (w v : ℕ) (ws vs : List ℕ) → fits (w ∷ ws) (v ∷ vs) ≡ true → v < 2 ^ w
first_fits w v ws vs h = ltb-true v (2 ^ w) (and_parts (ltb v (2 ^ w)) (fits ws vs) h).0

pub others_fit : (w v : ℕ) (ws vs : List ℕ) → fits (w ∷ ws) (v ∷ vs) ≡ true → fits ws vs ≡ true
others_fit w v ws vs h = (and_parts (ltb v (2 ^ w)) (fits ws vs) h).1

-- a number that is put together has no more bits than its layout
pub join_below : (ws vs : List ℕ) → fits ws vs ≡ true → join ws vs < 2 ^ total ws
join_below [] [] h = omega arith
join_below [] (v ∷ vs) h = absurd (true≢false (sym h))
join_below (w ∷ ws) [] h = absurd (true≢false (sym h))
join_below (w ∷ ws) (v ∷ vs) h =
    rw (pow-add 2 w (total ws)) (omega (arith, mul-add-lt v (2 ^ total ws) (join ws vs) (2 ^ w) (first_fits w v ws vs h) (join_below ws vs (others_fit w v ws vs h))))

-- bits above a layout change none of its fields
pub cut_low : (ws : List ℕ) (m n : ℕ) → cut ws (m * 2 ^ total ws + n) ≡ cut ws n
cut_low [] m n = refl
cut_low (w ∷ ws) m n =
    rw (pow-add 2 w (total ws), ← mul_assoc m (2 ^ w) (2 ^ total ws), mul-add-div_right (pow_pos (total ws)) (m * 2 ^ w) n, mul-add-mod_self_right m (2 ^ w) (n / 2 ^ total ws))
    (ap (λ vs. n / 2 ^ total ws % 2 ^ w ∷ vs) (cut_low ws (m * 2 ^ w) n))

pub cut_undoes_join : CutUndoesJoin
cut_undoes_join [] [] h = refl
cut_undoes_join [] (v ∷ vs) h = absurd (true≢false (sym h))
cut_undoes_join (w ∷ ws) [] h = absurd (true≢false (sym h))
cut_undoes_join (w ∷ ws) (v ∷ vs) h =
    let rest = others_fit w v ws vs h in
    rw (high v (total ws) (join_below ws vs rest), mod-eq_of_lt (first_fits w v ws vs h), cut_low ws v (join ws vs), cut_undoes_join ws vs rest)

-- the fields of a number, put together, are its low bits
pub join_low : (ws : List ℕ) (n : ℕ) → join ws (cut ws n) ≡ n % 2 ^ total ws
join_low [] n = omega arith
join_low (w ∷ ws) n = rw (join_low ws n) (sym (mod-pow-add n w (total ws)))

pub join_undoes_cut : JoinUndoesCut
join_undoes_cut ws n h = join_low ws n ∙ mod-eq_of_lt h

-- the fields of a number fit their layout
pub cut_fits : (ws : List ℕ) (n : ℕ) → fits ws (cut ws n) ≡ true
cut_fits [] n = refl
cut_fits (w ∷ ws) n = and_from (ltb (n / 2 ^ total ws % 2 ^ w) (2 ^ w)) (fits ws (cut ws n)) (lt-ltb (n / 2 ^ total ws % 2 ^ w) (2 ^ w) (mod_below (n / 2 ^ total ws) (2 ^ w) (pow_pos w))) (cut_fits ws n)

-- octets fit the layout of so many octets
pub octets_fit : (o : List ℕ) → ((i : ℕ) → get_or o i 0 < 256) → fits (octets (length o)) o ≡ true
octets_fit [] h = refl
octets_fit (x ∷ o) h = and_from (ltb x 256) (fits (octets (length o)) o) (lt-ltb x 256 (h 0)) (octets_fit o (λ i. h (suc i)))

-- the first so many octets are octets
pub front_octets : (n : ℕ) (o : List ℕ) → ((i : ℕ) → get_or o i 0 < 256) → (i : ℕ) → get_or (take n o) i 0 < 256
front_octets zero o h i = omega arith
front_octets (suc n) [] h i = omega arith
front_octets (suc n) (x ∷ o) h zero = h 0
front_octets (suc n) (x ∷ o) h (suc i) = front_octets n o (λ j. h (suc j)) i

total_octets : (n : ℕ) → total (octets n) ≡ 8 * n
total_octets zero = omega arith
total_octets (suc n) = omega (arith, total_octets n)

-- at most sixteen octets are a number of 128 bits
pub number_small : (o : List ℕ) → ((i : ℕ) → get_or o i 0 < 256) → length o ≤ 16 → number o % 2 ^ 128 ≡ number o
number_small o h few =
    let below : number o < 2 ^ total (octets (length o)) = join_below (octets (length o)) o (octets_fit o h) in
    mod-eq_of_lt (omega (arith, below, pow_mono {i = total (octets (length o))} {j = 128} (omega (arith, total_octets (length o)))))

-- a number has as many fields as its layout
pub length_cut : (ws : List ℕ) (n : ℕ) → length (cut ws n) ≡ length ws
length_cut [] n = refl
length_cut (w ∷ ws) n = ap suc (length_cut ws n)

-- the octets of a number are this number again
pub number_cut : (k n : ℕ) → n < 2 ^ total (octets k) → number (cut (octets k) n) ≡ n
number_cut k n h =
    ap (λ m. join (octets m) (cut (octets k) n)) (length_cut (octets k) n ∙ length-replicate k 8) ∙ join_undoes_cut (octets k) n h

-- a number of octets has these octets
pub cut_number : (o : List ℕ) → ((i : ℕ) → get_or o i 0 < 256) → cut (octets (length o)) (number o) ≡ o
cut_number o h = cut_undoes_join (octets (length o)) o (octets_fit o h)

pub number_octets : (o : List ℕ) → ((i : ℕ) → get_or o i 0 < 256) → number o < 2 ^ total (octets (length o))
number_octets o h = join_below (octets (length o)) o (octets_fit o h)

-- the first three bits of octets are those of the first one
pub first_bits : (x : ℕ) (o : List ℕ) (k : ℕ) → ((i : ℕ) → get_or (x ∷ o) i 0 < 256) → k ≡ 8 * length o + 5 → number (x ∷ o) / 2 ^ k % 2 ^ 3 ≡ x / 32
first_bits x o k h e =
    let t = total (octets (length o)) in
    let same : k ≡ t + 5 = omega (arith, e, total_octets (length o)) in
    let top : number (x ∷ o) / 2 ^ t ≡ x = high x t (join_below (octets (length o)) o (octets_fit o (λ i. h (suc i)))) in
    ap (λ j. number (x ∷ o) / 2 ^ j % 2 ^ 3) same
    ∙ ap (λ m. m % 2 ^ 3) (sym (shr-shr (number (x ∷ o)) t 5))
    ∙ ap (λ m. m / 2 ^ 5 % 2 ^ 3) top
    ∙ omega (arith, h 0)
