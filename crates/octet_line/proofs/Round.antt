-- Octets laid round a ring, behind the used ones.
use Rattle.std.proofs.Common.{◌≡◌, ℕ, ◌+◌, ◌-◌, ◌<◌, ◌≤◌, List, ◌++◌, length, get_or, take, drop, sym, ap, ◌∙◌, subst, ⊎_elim, zero-add, arith, rules}
use Rattle.std.proofs.lemmas.List.{length-append, get_or_append_left, get_or-append_right, take_all, drop_all, same_lists, places}
use Rattle.std.proofs.lemmas.Bool.{cases_lt}
use Rattle.line.specs.Memory.{laid}
use Rattle.line.proofs.Laying.{laid_room}
use Rattle.ring.specs.Ring.{Numbers, Sound, place, index_of, grown, queued}
use Rattle.ring.proofs.Places.{place_low, place_high, place_on, place_back}
use Rattle.ring.proofs.Rings.{index_within, counted, element}
use Rattle.octet_line.specs.Frames.{laid_round}

-- octets that were laid, and those before and behind them
module _ (s o : List ℕ) (a j d : ℕ) (h : a + length o ≤ length s) where
  pub laid_in : a ≤ j → j < a + length o → get_or (laid s a o) j d ≡ get_or o (j - a) d
  laid_in l m = ap (λ (z : List ℕ). get_or z j d) (laid_room s o a h) ∙ grind (arith, places)

  pub laid_left : j < a → get_or (laid s a o) j d ≡ get_or s j d
  laid_left l = ap (λ (z : List ℕ). get_or z j d) (laid_room s o a h) ∙ grind (arith, places)

  pub laid_right : a + length o ≤ j → get_or (laid s a o) j d ≡ get_or s j d
  laid_right l = ap (λ (z : List ℕ). get_or z j d) (laid_room s o a h) ∙ grind (arith, places)

module _ (r o : List ℕ) (a : ℕ) (h : a < length r) (l : length o ≤ length r) where
  round_is : laid_round r a o ≡ drop (length r - a) o ++ drop (length (drop (length r - a) o)) (take a r ++ (take (length r - a) o ++ drop (a + length (take (length r - a) o)) r))
  round_is =
      ap (λ z. laid z 0 (drop (length r - a) o)) (laid_room r (take (length r - a) o) a (search (rules, places)))
      ∙ laid_room (take a r ++ (take (length r - a) o ++ drop (a + length (take (length r - a) o)) r)) (drop (length r - a) o) 0 (search (rules, places))
      ∙ ap (λ j. drop (length r - a) o ++ drop j (take a r ++ (take (length r - a) o ++ drop (a + length (take (length r - a) o)) r))) (zero-add (length (drop (length r - a) o)))

  pub length_laid_round : length (laid_round r a o) ≡ length r
  length_laid_round = rw round_is (search (rules, places))

  pub round_in : (i d : ℕ) → i < length o → get_or (laid_round r a o) (place (length r) a i) d ≡ get_or o i d
  round_in i d m = rw round_is
      (⊎_elim
      (λ (y : i < length r - a). rw (place_low (length r) a i (omega arith)) (grind (arith, places)))
      (λ (y : length r - a ≤ i). rw (place_high (length r) a i (omega arith)) (grind (arith, places)))
      (cases_lt i (length r - a)))

  pub round_out : (i d : ℕ) → length o ≤ i → i < length r → get_or (laid_round r a o) (place (length r) a i) d ≡ get_or r (place (length r) a i) d
  round_out i d m n = rw round_is
      (⊎_elim
      (λ (y : i < length r - a). rw (place_low (length r) a i (omega arith), drop_all (length r - a) o (omega arith), take_all (length r - a) o (omega arith)) (grind (arith, places)))
      (λ (y : length r - a ≤ i). rw (place_high (length r) a i (omega arith)) (grind (arith, places)))
      (cases_lt i (length r - a)))

-- octets laid behind the used ones are used after them
pub queued_behind : (g : Numbers) (t o : List ℕ) → Sound g → length t ≡ g.size → g.count < g.size → g.count + length o ≤ g.size → queued (grown (length o) g) (laid_round t (index_of g g.count) o) ≡ queued g t ++ o
queued_behind g t o s fit less fits =
    let i = index_of g g.count in
    let u = laid_round t i o in
    let near : i < length t = omega (arith, index_within g g.count s (omega arith)) in
    let room : length o ≤ length t = omega arith in
    let s' : Sound (grown (length o) g) = record { within = s.within; most = fits; small = s.small } in
    let fit' : length u ≡ g.size = length_laid_round t o i near room ∙ fit in
    let long = counted (grown (length o) g) u s' fit' in
    let short = counted g t s fit in
    same_lists _ _
    (long ∙ sym (length-append (queued g t) o ∙ ap (λ n. n + length o) short))
    (λ k d l.
    let m : k < g.count + length o = omega (arith, long) in
    let there : get_or (queued (grown (length o) g) u) k d ≡ get_or u (index_of g k) d = element (grown (length o) g) u s' fit' k d m in
    ⊎_elim
    (λ (x : k < g.count).
    let e : place (length t) i (length t - g.count + k) ≡ index_of g k = rw fit (place_back g.size g.first g.count k s.within x (omega arith)) in
    there ∙ subst (λ j. get_or u j d ≡ get_or t j d) e (round_out t o i near room (length t - g.count + k) d (omega arith) (omega arith)) ∙ sym (element g t s fit k d x) ∙ sym (get_or_append_left (queued g t) o d k (omega (arith, short))))
    (λ (x : g.count ≤ k).
    let e : place (length t) i (k - g.count) ≡ index_of g k = rw fit (place_on g.size g.first g.count (k - g.count) s.within (omega arith) ∙ ap (index_of g) (let z : g.count + (k - g.count) ≡ k = omega arith in z)) in
    there ∙ subst (λ j. get_or u j d ≡ get_or o (k - g.count) d) e (round_in t o i near room (k - g.count) d (omega arith)) ∙ sym (get_or-append_right (queued g t) o g.count k d short x))
    (cases_lt k g.count))

pub queued_more : (g : Numbers) (t o : List ℕ) → Sound g → length t ≡ g.size → 1 ≤ length o → g.count + length o ≤ g.size → queued (grown (length o) g) (laid_round t (index_of g g.count) o) ≡ queued g t ++ o
queued_more g t o s fit some fits = queued_behind g t o s fit (omega (arith, some, fits)) fits
