-- The units that a table and a store stand for, and one slip and its octets written.
use Rattle.std.proofs.Common.{◌≡◌, ℕ, ◌+◌, ◌*◌, ◌<◌, ◌≤◌, List, length, get_or, take, drop, set, sym, ap, ◌∙◌, ⊎_elim, zero-add, arith}
use Rattle.std.specs.List.{enumerate_from}
use Rattle.std.proofs.lemmas.List.{same_lists, length-set, length-map, get_or-map, get_or-set_same, get_or-set_other, take-take}
use Rattle.std.proofs.lemmas.List.FromFn.{length-enumerate_from, get_or-enumerate_from}
use Rattle.std.proofs.lemmas.Bool.{cases_lt, cases_eq}
use Rattle.line.specs.Memory.{laid}
use Rattle.line.proofs.Laying.{laid_there, laid_before, laid_after}
use Rattle.unit.specs.Note.{Note}
use Rattle.unit.specs.Unit.{UnitValue, all_units, slot, unit_at}

pub length_all : (ss : List Note) (store : List ℕ) → length (all_units ss store) ≡ length ss
length_all ss store = simp (length-map, length-enumerate_from)

-- the unit at an index is that of the slip there
pub unit_there : (ss : List Note) (store : List ℕ) (k : ℕ) (d : UnitValue) (s : Note) → k < length ss → get_or (all_units ss store) k d ≡ unit_at store k (get_or ss k s)
unit_there ss store k d s h =
    get_or-map (λ p. unit_at store p.0 p.1) (enumerate_from 0 ss) k (0, s) d (omega (arith, length-enumerate_from 0 ss))
    ∙ ap (λ p. unit_at store p.0 p.1) (get_or-enumerate_from 0 ss k (0, s) h)
    ∙ ap (λ j. unit_at store j (get_or ss k s)) (zero-add k)

-- octets laid into a slot
module _ (store o : List ℕ) (j : ℕ) (room : 2048 * (j + 1) ≤ length store) (short : length o ≤ 2043) where
  -- are there,
  pub slot_laid : take (length o) (slot (laid store (2048 * j) o) j) ≡ o
  slot_laid = take-take (length o) 2043 (drop (2048 * j) (laid store (2048 * j) o)) short ∙ laid_there store o (2048 * j) (omega arith)

  -- and every other slot is as it was
  pub slot_kept : (k : ℕ) → (k ≡ j → ⊥) → slot (laid store (2048 * j) o) k ≡ slot store k
  slot_kept k ne =
      ⊎_elim
      (λ (b : k < j). laid_before store o (2048 * j) (2048 * k) 2043 (omega arith) (omega arith))
      (λ (b : j ≤ k). laid_after store o (2048 * j) (2048 * k) 2043 (omega arith) (let b' : j < k = grind arith in omega arith))
      (cases_lt k j)

-- one slip and its octets written
pub all_units_set : (store o : List ℕ) (ss : List Note) (j : ℕ) (x : Note) → j < length ss → length store ≡ 2048 * length ss → x.length ≡ length o → length o ≤ 2043
    → all_units (set ss j x) (laid store (2048 * j) o) ≡ set (all_units ss store) j (record { port = x.port; quality = x.quality; octets = o })
all_units_set store o ss j x near room long short =
    let u : UnitValue = record { port = x.port; quality = x.quality; octets = o } in
    let store' = laid store (2048 * j) o in
    let before = all_units ss store in
    let after = all_units (set ss j x) store' in
    let size : length after ≡ length ss = length_all (set ss j x) store' ∙ length-set ss j x in
    let size' : length (set before j u) ≡ length ss = length-set before j u ∙ length_all ss store in
    same_lists after (set before j u) (size ∙ sym size') (λ k d l.
    let m : k < length ss = omega (arith, size) in
    let there : get_or after k d ≡ unit_at store' k (get_or (set ss j x) k x) = unit_there (set ss j x) store' k d x (omega (arith, length-set ss j x)) in
    ⊎_elim
    (λ (e : k ≡ j).
    there
    ∙ ap (λ i. unit_at store' i (get_or (set ss j x) i x)) e
    ∙ ap (unit_at store' j) (get_or-set_same ss j x x near)
    ∙ ap (λ n. record { port = x.port; quality = x.quality; octets = take n (slot store' j) }) long
    ∙ ap (λ l. record { port = x.port; quality = x.quality; octets = l }) (slot_laid store o j (omega arith) short)
    ∙ sym (ap (λ i. get_or (set before j u) i d) e ∙ get_or-set_same before j u d (omega (arith, length_all ss store))))
    (λ (ne : k ≡ j → ⊥).
    let s = get_or ss k x in
    there
    ∙ ap (unit_at store' k) (get_or-set_other ss j k x x ne)
    ∙ ap (λ l. record { port = s.port; quality = s.quality; octets = take s.length l }) (slot_kept store o j (omega arith) short k ne)
    ∙ sym (get_or-set_other before j k u d ne ∙ unit_there ss store k d x m))
    (cases_eq k j))
