-- Shifts and masks as products, quotients and remainders, each over the width.
use Rattle.std.proofs.Common.{◌≡◌, ℕ, ◌+◌, ◌-◌, ◌*◌, ◌/◌, ◌%◌, ◌^◌, ◌<◌, ◌≤◌, Bool, true, false, cond, ◌&&◌, ltb, leb, ◌⊎◌, List, [], ◌∷◌, length, Some, None, Option, sym, ap, ◌∙◌, ⊎_elim, add-zero, mod-eq_of_lt, mul_assoc, add-mul, div-add-mod', mul_right_comm, arith, pow_pos, pow_mono, pow-add, shl_exact}
use native.Mathlib.Nat.{mul-add-mod_self_right, div-eq_of_lt}
use lib.Bits.{bit_or, or_shifted}
use lib.Pow.{mod-pow-add, shr_le, shl-shr, high, low}
use Rattle.std.proofs.lemmas.Nat.{mul-add-lt, mod_below}
use Rattle.std.proofs.lemmas.Bool.{cond-true, cond-false, cases_Bool}
use Rattle.std.proofs.lemmas.Bool.Decides.{nat_tests}
use Rattle.bits.specs.Layout.{total, join, fits, octets, number, widths, values, assembled}

-- a word of fewer bits than the shift leaves nothing
pub shifted_out : (w n s k : ℕ) → n < 2 ^ w → w ≤ s → 0 ≡ n / 2 ^ s % 2 ^ k
shifted_out w n s k h hs =
    let below : n < 2 ^ s = omega (arith, pow_mono {i = w} {j = s} hs) in
    rw (div-eq_of_lt below) (sym (mod-eq_of_lt (pow_pos k)))

-- a mask wider than the word takes nothing away
pub all_kept : (w n s k : ℕ) → n < 2 ^ w → w ≤ k → n / 2 ^ s ≡ n / 2 ^ s % 2 ^ k
all_kept w n s k h hk = sym (mod-eq_of_lt (omega (arith, pow_mono {i = w} {j = k} hk, shr_le n s)))

low_zero : (a k : ℕ) → a * 2 ^ k % 2 ^ k ≡ 0
low_zero a k = rw (← add-zero (a * 2 ^ k)) (low a k (pow_pos k))

-- a value of k bits put below a number, in a word of j + k bits
pub put_below : (j k a b : ℕ) → b < 2 ^ k → bit_or (a * 2 ^ k % 2 ^ (j + k)) b ≡ (a * 2 ^ k + b) % 2 ^ (j + k)
put_below j k a b h =
    let whole : a * 2 ^ k % 2 ^ (j + k) ≡ a % 2 ^ j * 2 ^ k = mod-pow-add (a * 2 ^ k) j k ∙ rw (shl-shr a k, low_zero a k) (omega arith) in
    let both : (a * 2 ^ k + b) % 2 ^ (j + k) ≡ a % 2 ^ j * 2 ^ k + b = mod-pow-add (a * 2 ^ k + b) j k ∙ rw (high a k h, low a k h) in
    rw (whole, both) (or_shifted (a % 2 ^ j) k b h)

-- the same where nothing is shifted out
pub put_below_whole : (j k a b w : ℕ) → a < 2 ^ j → b < 2 ^ k → j + k ≤ w → bit_or (a * 2 ^ k % 2 ^ w) b ≡ a * 2 ^ k + b
put_below_whole j k a b w ha hb hw = rw (shl_exact j k w ha hw) (or_shifted a k b hb)

-- what is assembled of fields that stand below a word of so many bits
abbrev pub assembled_after : ℕ → ℕ → List (ℕ × ℕ) → Option ℕ
assembled_after used word [] = Some word
assembled_after used word (f ∷ fs) =
    cond (leb f.0 (127 - used) && ltb f.1 (2 ^ f.0)) (assembled_after (used + f.0) (word * 2 ^ f.0 + f.1) fs) None

same_test : (used w v p t : ℕ) (rest : Bool) → used ≤ 127 → (leb w (127 - used) && ltb v p) ≡ true → (leb (used + w + t) 127 && rest) ≡ (leb (used + (w + t)) 127 && (ltb v p && rest))
same_test used w v p t rest h e = grind (arith, nat_tests)

failed_test : (used w v p t : ℕ) (rest : Bool) → used ≤ 127 → (leb w (127 - used) && ltb v p) ≡ false → (leb (used + (w + t)) 127 && (ltb v p && rest)) ≡ false
failed_test used w v p t rest h e = grind (arith, nat_tests)

same_number : (a w v t j : ℕ) → (a * 2 ^ w + v) * 2 ^ t + j ≡ a * 2 ^ (w + t) + (v * 2 ^ t + j)
same_number a w v t j = rw (pow-add 2 w t, add-mul (a * 2 ^ w) v (2 ^ t), mul_assoc a (2 ^ w) (2 ^ t)) (omega arith)

within : (used w v p : ℕ) → used ≤ 127 → (leb w (127 - used) && ltb v p) ≡ true → used + w ≤ 127
within used w v p h e = grind (arith, nat_tests)

-- assembling from the left gives the number of the whole layout
pub after_is : (used word : ℕ) (fs : List (ℕ × ℕ)) → used ≤ 127 → assembled_after used word fs ≡ cond (leb (used + total (widths fs)) 127 && fits (widths fs) (values fs)) (Some (word * 2 ^ total (widths fs) + join (widths fs) (values fs))) None
after_is used word [] h = grind (arith, nat_tests)
after_is used word (f ∷ fs) h =
    let t = leb f.0 (127 - used) && ltb f.1 (2 ^ f.0) in
    let ws = widths fs in
    let vs = values fs in
    ⊎_elim
    (λ yes.
    cond-true t (assembled_after (used + f.0) (word * 2 ^ f.0 + f.1) fs) None yes
    ∙ after_is (used + f.0) (word * 2 ^ f.0 + f.1) fs (within used f.0 f.1 (2 ^ f.0) h yes)
    ∙ ap (λ b. cond b (Some ((word * 2 ^ f.0 + f.1) * 2 ^ total ws + join ws vs)) None) (same_test used f.0 f.1 (2 ^ f.0) (total ws) (fits ws vs) h yes)
    ∙ ap (λ n. cond (leb (used + (f.0 + total ws)) 127 && (ltb f.1 (2 ^ f.0) && fits ws vs)) (Some n) None) (same_number word f.0 f.1 (total ws) (join ws vs)))
    (λ no.
    cond-false t (assembled_after (used + f.0) (word * 2 ^ f.0 + f.1) fs) None no
    ∙ sym (cond-false (leb (used + (f.0 + total ws)) 127 && (ltb f.1 (2 ^ f.0) && fits ws vs)) (Some (word * 2 ^ (f.0 + total ws) + (f.1 * 2 ^ total ws + join ws vs))) None (failed_test used f.0 f.1 (2 ^ f.0) (total ws) (fits ws vs) h no)))
    (cases_Bool t)

pub after_nothing : (fs : List (ℕ × ℕ)) → assembled_after 0 0 fs ≡ assembled fs
after_nothing fs =
    let ws = widths fs in
    let vs = values fs in
    let bits : 0 + total ws ≡ total ws = omega arith in
    let zeros : 0 * 2 ^ total ws + join ws vs ≡ join ws vs = omega arith in
    after_is 0 0 fs (omega arith)
    ∙ ap (λ n. cond (leb n 127 && fits ws vs) (Some (0 * 2 ^ total ws + join ws vs)) None) bits
    ∙ ap (λ n. cond (leb (total ws) 127 && fits ws vs) (Some n) None) zeros

-- a remainder may be taken before a product and a sum
mod_first : (m a t n : ℕ) → (a % m * t + n) % m ≡ (a * t + n) % m
mod_first m a t n =
    let split : a * t + n ≡ a / m * t * m + (a % m * t + n) =
    ap (λ x. x * t + n) (sym (div-add-mod' a m)) ∙ rw (add-mul (a / m * m) (a % m) t, mul_right_comm (a / m) m t) (omega arith)
    in
    sym (ap (λ x. x % m) split ∙ mul-add-mod_self_right (a / m * t) m (a % m * t + n))

-- one octet more below a word, in the low bits of both
pub octet_below : (m w x t n : ℕ) → ((w * 256 + x) % m * t + n) % m ≡ (w * (256 * t) + (x * t + n)) % m
octet_below m w x t n =
    let moved : (w * 256 + x) * t + n ≡ w * (256 * t) + (x * t + n) = rw (add-mul (w * 256) x t, mul_assoc w 256 t) (omega arith) in
    mod_first m (w * 256 + x) t n ∙ ap (λ k. k % m) moved

-- a field that does not fit ends the assembling
pub refuses : (used word : ℕ) (f : ℕ × ℕ) (fs : List (ℕ × ℕ)) → (127 - used < f.0) ⊎ (2 ^ f.0 ≤ f.1) → None ≡ assembled_after used word (f ∷ fs)
refuses used word f fs h = ⊎_elim (λ wide. grind (arith, nat_tests)) (λ much. grind (arith, nat_tests)) h

-- what holds between two fields
abbrev pub Assembling : ℕ → ℕ → List (ℕ × ℕ) → Option ℕ → Type 0
Assembling used word fs r = (used ≤ 127) × (word < 2 ^ used) × (assembled_after used word fs ≡ r)

pub goes_on : (used word : ℕ) (f : ℕ × ℕ) (fs : List (ℕ × ℕ)) (r : Option ℕ) → Assembling used word (f ∷ fs) r → f.0 ≤ 127 - used → f.1 < 2 ^ f.0 → Assembling (used + f.0) (bit_or (word * 2 ^ f.0 % 2 ^ 128) f.1) fs r
goes_on used word f fs r i hw hv =
    let put : bit_or (word * 2 ^ f.0 % 2 ^ 128) f.1 ≡ word * 2 ^ f.0 + f.1 = put_below_whole used f.0 word f.1 128 i.1 hv (omega arith) in
    let below : word * 2 ^ f.0 + f.1 < 2 ^ (used + f.0) = rw (pow-add 2 used f.0) (omega (arith, mul-add-lt word (2 ^ f.0) f.1 (2 ^ used) i.1 hv)) in
    let taken : (leb f.0 (127 - used) && ltb f.1 (2 ^ f.0)) ≡ true = grind (arith, nat_tests) in
    rw put
    (omega arith, below, sym (cond-true (leb f.0 (127 - used) && ltb f.1 (2 ^ f.0)) (assembled_after (used + f.0) (word * 2 ^ f.0 + f.1) fs) None taken) ∙ i.2)

-- what holds between two octets of a word
abbrev pub Gathering : ℕ → List ℕ → ℕ → Type 0
Gathering word o n = (word < 2 ^ 128) × ((word * 2 ^ total (octets (length o)) + number o) % 2 ^ 128 ≡ n)

pub gathers_on : (word x : ℕ) (o : List ℕ) (n : ℕ) → Gathering word (x ∷ o) n → x < 256 → Gathering (bit_or (word * 256 % 2 ^ 128) x) o n
gathers_on word x o n g h =
    let t = total (octets (length o)) in
    let put : bit_or (word * 256 % 2 ^ 128) x ≡ (word * 256 + x) % 2 ^ 128 = put_below 120 8 word x h in
    let wider : 2 ^ (8 + t) ≡ 256 * 2 ^ t = pow-add 2 8 t in (
      rw put (mod_below (word * 256 + x) (2 ^ 128) (omega arith)),
      ap (λ k. (k * 2 ^ t + number o) % 2 ^ 128) put
          ∙ octet_below (2 ^ 128) word x (2 ^ t) (number o)
          ∙ ap (λ p. (word * p + (x * 2 ^ t + number o)) % 2 ^ 128) (sym wider)
          ∙ g.1,
    )
