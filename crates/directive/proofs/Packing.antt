-- The octets of a word.
use Rattle.std.proofs.Common.{◌≡◌, ℕ, zero, suc, ◌+◌, ◌-◌, ◌≤◌, Bool, true, cond, List, length, take, drop, Some, None, Option, ap, ◌∙◌, arith}
use Rattle.std.proofs.lemmas.List.{length-replicate, take_all}
use Rattle.bits.specs.Layout.{cut, octets}
use Rattle.bits.proofs.Codecs.{some_tells}
use Rattle.bits.proofs.Layouts.{length_cut}

-- the last octets of a number are those of fewer
last : (k m j w : ℕ) → j ≡ k + m → drop k (cut (octets j) w) ≡ cut (octets m) w
last zero m j w e = ap (λ i. cut (octets i) w) (omega arith)
last (suc k) m zero w e = absurd (omega arith)
last (suc k) m (suc j) w e = last k m j w (omega arith)

-- the last octets of sixteen, as many as a value has, if the value fits its word
pub record Last (fit : Bool) (word size : ℕ) (r : Option ℕ) (count : ℕ) (all : List ℕ) : Type 0 where
  pub fits : fit ≡ true
  pub some : r ≡ Some word
  pub octets : take (16 - (16 - count)) (drop (16 - count) all) ≡ cut (octets size) word

pub last_octets : (fit : Bool) (size word : ℕ) (r : Option ℕ) (w count : ℕ) (all : List ℕ) → count ≤ 16 → r ≡ cond fit (Some word) None → r ≡ Some w → all ≡ cut (octets 16) w → count ≡ size → Last fit word size r count all
last_octets fit size word r w count all h some is ea ec =
    let told = some_tells fit word w (cc) in
    let own : drop (16 - size) (cut (octets 16) word) ≡ cut (octets size) word = last (16 - size) size 16 word (omega arith) in
    let few : length (cut (octets size) word) ≤ 16 - (16 - size) = omega (arith, length_cut (octets size) word ∙ length-replicate size 8) in
    record { fits = told.0; some = is ∙ ap Some told.1; octets = rw (ec, ea, told.1, own) (take_all (16 - (16 - size)) (cut (octets size) word) few) }
