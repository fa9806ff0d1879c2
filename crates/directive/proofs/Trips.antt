-- A directive survives both ways through its octets.
use Rattle.std.proofs.Common.{◌≡◌, ℕ, ◌/◌, ◌^◌, ◌<◌, Bool, true, false, cond, eqb, List, [], ◌∷◌, length, get_or, IfSome, IfOk, Some, None, Ok, Err, Option, Result, sym, refl, ap, ◌∙◌, arith}
use Rattle.std.proofs.lemmas.List.{take_all, length-replicate}
use Rattle.std.proofs.lemmas.Bool.{eq-eqb, eqb-true}
use Rattle.std.proofs.lemmas.Bool.Decides.{nat_tests}
use Rattle.bits.specs.Codec.{carry, encoding}
use Rattle.bits.specs.Layout.{total, cut, join, fits, octets, number}
use Rattle.bits.proofs.Codecs.{granted}
use Rattle.bits.proofs.Layouts.{join_below, cut_undoes_join, join_undoes_cut, cut_fits, length_cut, number_cut, cut_number, number_octets, first_bits}
use Rattle.directive.specs.Rule.{layout, judged}
use Rattle.directive.specs.Directive.{name_of, rules_of, size_of, fields_in, front, whole, read_directive, directive_of, name_for, fields_for, directive_fits, directive_word, directive_octets, encoded_directive}
use Rattle.directive.specs.declared.directive.Name.{Name}
use Rattle.directive.specs.declared.directive.Name.TheVariants as name
use Rattle.directive.specs.declared.directive.Directive.{Directive}
use Rattle.directive.specs.declared.directive.Directive.TheVariants as directive
use Rattle.directive.specs.declared.fault.SpduFault.{SpduFault}
use Rattle.directive.specs.declared.fault.SpduFault.TheVariants as fault
use Rattle.directive.proofs.Fronts.{through, front_judged, named_ok}
use Rattle.directive.proofs.Kept.{code, directive_back, fields_kept, name_kept}

-- a layout is as many octets as its directive has
pub whole_octets : (n : Name) → total (layout (rules_of n)) ≡ total (octets (size_of n))
whole_octets name.LinkEstablishment = refl
whole_octets name.ReportRequest = refl
whole_octets name.SetVr = refl
whole_octets name.SourceId = refl

-- the name stands in the first octet
first_octet : (n : Name) (w : ℕ) → get_or (cut (octets (size_of n)) w) 0 0 / 32 ≡ get_or (cut (layout (rules_of n)) w) 0 0
first_octet name.LinkEstablishment w = omega arith
first_octet name.ReportRequest w = omega arith
first_octet name.SetVr w = omega arith
first_octet name.SourceId w = omega arith

name_back : (n : Name) → name_of (code n) ≡ Some n
name_back name.LinkEstablishment = refl
name_back name.ReportRequest = refl
name_back name.SetVr = refl
name_back name.SourceId = refl

code_first : (d : Directive) → get_or (fields_for d) 0 0 ≡ code (name_for d)
code_first (directive.LinkEstablishment l) = refl
code_first (directive.ReportRequest r) = refl
code_first (directive.SetVr n) = refl
code_first (directive.SourceId i) = refl

some_octet : (n : Name) (w : ℕ) → 0 < length (cut (octets (size_of n)) w)
some_octet name.LinkEstablishment w = omega arith
some_octet name.ReportRequest w = omega arith
some_octet name.SetVr w = omega arith
some_octet name.SourceId w = omega arith

-- what reading answers at a directive's own octets
pub own_octets : (d : Directive) → directive_fits d ≡ true → read_directive (directive_octets d) ≡ carry (judged 0 (rules_of (name_for d)) (fields_for d)) (λ _. Ok d)
own_octets d h =
    let n = name_for d in
    let w = directive_word d in
    let o = directive_octets d in
    let rules = rules_of n in
    let size : length o ≡ size_of n = length_cut (octets (size_of n)) w ∙ length-replicate (size_of n) 8 in
    let below : w < 2 ^ total (octets (size_of n)) = rw (← whole_octets n) (join_below (layout rules) (fields_for d) h) in
    let again : number o ≡ w = number_cut (size_of n) w below in
    let fields : cut (layout rules) w ≡ fields_for d = cut_undoes_join (layout rules) (fields_for d) h in
    let first : Some n ≡ name_of (get_or o 0 0 / 32) = sym (ap name_of (first_octet n w ∙ ap (λ fs. get_or fs 0 0) fields ∙ code_first d) ∙ name_back n) in
    let values : fields_in n o ≡ fields_for d = ap (cut (layout rules)) again ∙ fields in
    let at_front : front 0 o ≡ carry (judged 0 rules (fields_for d)) (λ _. Ok (Some n)) =
    front_judged 0 o n (some_octet n w) first (omega (arith, size))
    ∙ ap (λ p. carry (judged 0 rules (fields_in n p)) (λ _. Ok (Some n))) (take_all (size_of n) o (omega (arith, size)))
    ∙ ap (λ fs. carry (judged 0 rules fs) (λ _. Ok (Some n))) values
    in
    let all : whole o (Some n) ≡ Ok d =
    ap (λ t. cond t (Ok (directive_of n (fields_in n o))) (Err fault.Length)) (eq-eqb (size_of n) (length o) (sym size))
    ∙ ap (λ fs. Ok (directive_of n fs)) values
    ∙ ap Ok (directive_back d)
    in
    ap (λ r. carry r (whole o)) at_front ∙ through (judged 0 rules (fields_for d)) (Some n) (whole o) ∙ ap (λ r. carry (judged 0 rules (fields_for d)) (λ _. r)) all

answers_ok : (d : Directive) (r : Result (Unit {0}) SpduFault) → ((e : SpduFault) → carry r (λ _. Ok d) ≡ Err e → ⊥) → carry r (λ _. Ok d) ≡ Ok d
answers_ok d (Ok u) h = refl
answers_ok d (Err e) h = absurd (h e refl)

-- reading undoes writing
pub reading_undoes : (d : Directive) (o : List ℕ) → encoded_directive d ≡ Ok o → read_directive o ≡ Ok d
reading_undoes d o h =
    let g = granted fault.TooWide (directive_fits d) (directive_octets d) (read_directive (directive_octets d)) o h in
    let own = own_octets d g.fits in
    ap read_directive (sym g.same) ∙ own ∙ answers_ok d (judged 0 (rules_of (name_for d)) (fields_for d)) (λ e q. g.readable e (own ∙ q))

-- reading a directive's own octets makes it, unless it refuses them
pub own_word : (d : Directive) (r : Option ℕ) → r ≡ cond (directive_fits d) (Some (directive_word d)) None → IfSome r (λ w. IfOk (read_directive (cut (octets (size_of (name_for d))) w)) (λ v. v ≡ d))
own_word d r e = rw e (by (directive_fits d) refl)
  where
    judges : (j : Result (Unit {0}) SpduFault) → IfOk (carry j (λ _. Ok d)) (λ v. v ≡ d)
    judges (Ok u) = refl
    judges (Err x) = tt

    by : (t : Bool) → directive_fits d ≡ t → IfSome (cond t (Some (directive_word d)) None) (λ w. IfOk (read_directive (cut (octets (size_of (name_for d))) w)) (λ v. v ≡ d))
    by true q = rw (own_octets d q) (judges (judged 0 (rules_of (name_for d)) (fields_for d)))
    by false q = tt

-- what a directive that was read says of its octets
record Taken (o : List ℕ) (d : Directive) : Type 0 where
  name : Name
  first : name_of (get_or o 0 0 / 32) ≡ Some name
  some : 0 < length o
  size : size_of name ≡ length o
  fine : judged 0 (rules_of name) (fields_in name o) ≡ Ok tt
  is : d ≡ directive_of name (fields_in name o)

whole_ok : (o : List ℕ) (k : Option Name) (d : Directive) → whole o k ≡ Ok d → (n : Name) × ((k ≡ Some n) × ((size_of n ≡ length o) × (d ≡ directive_of n (fields_in n o))))
whole_ok o None d e = cc
whole_ok o (Some n) d e = (n, (refl, fit (eqb (size_of n) (length o)) refl e))
  where
    fit : (t : Bool) → eqb (size_of n) (length o) ≡ t → cond t (Ok (directive_of n (fields_in n o))) (Err fault.Length) ≡ Ok d → (size_of n ≡ length o) × (d ≡ directive_of n (fields_in n o))
    fit true q r = (eqb-true (size_of n) (length o) q, cc)
    fit false q r = cc

taken_at : (o : List ℕ) (r : Result (Option Name) SpduFault) (d : Directive) → front 0 o ≡ r → carry r (whole o) ≡ Ok d → Taken o d
taken_at o (Err e) d f h = cc
taken_at [] (Ok k) d f h =
    let w = whole_ok [] k d h in
    cc (f, w.1.0)
taken_at (x ∷ o) (Ok k) d f h =
    let w = whole_ok (x ∷ o) k d h in
    let n = w.0 in
    let g = named_ok 0 (x ∷ o) (name_of (x / 32)) n (f ∙ ap Ok w.1.0) in
    record {
      name = n;
      first = g.name;
      some = omega arith;
      size = w.1.1.0;
      fine = ap (λ p. judged 0 (rules_of n) (fields_in n p)) (sym (take_all (size_of n) (x ∷ o) (omega (arith, w.1.1.0)))) ∙ g.fine 0;
      is = w.1.1.1;
    }

name_code : (k : ℕ) (n : Name) → name_of k ≡ Some n → k ≡ code n
name_code k n h = grind (arith, nat_tests)

-- the name's field of octets
name_field : (n : Name) (o : List ℕ) → ((i : ℕ) → get_or o i 0 < 256) → 0 < length o → size_of n ≡ length o → get_or (fields_in n o) 0 0 ≡ get_or o 0 0 / 32
name_field n [] t h s = absurd (omega arith)
name_field name.LinkEstablishment (x ∷ o) t h s = first_bits x o 93 t (omega (arith, s))
name_field name.ReportRequest (x ∷ o) t h s = first_bits x o 13 t (omega (arith, s))
name_field name.SetVr (x ∷ o) t h s = first_bits x o 13 t (omega (arith, s))
name_field name.SourceId (x ∷ o) t h s = first_bits x o 29 t (omega (arith, s))

-- writing undoes reading
pub writing_undoes : (o : List ℕ) (d : Directive) → ((i : ℕ) → get_or o i 0 < 256) → read_directive o ≡ Ok d → encoded_directive d ≡ Ok o
writing_undoes o d t r =
    let k = taken_at o (front 0 o) d refl r in
    let n = k.name in
    let rules = rules_of n in
    let w = number o in
    let name : name_for d ≡ n = ap name_for k.is ∙ name_kept n (fields_in n o) in
    let field : get_or (fields_in n o) 0 0 ≡ code n = name_field n o t k.some k.size ∙ name_code (get_or o 0 0 / 32) n k.first in
    let fields : fields_for d ≡ cut (layout rules) w = ap fields_for k.is ∙ fields_kept n w k.fine field in
    let below : w < 2 ^ total (layout rules) = rw (whole_octets n, k.size) (number_octets o t) in
    let word : directive_word d ≡ w = ap (λ m. join (layout (rules_of m)) (fields_for d)) name ∙ ap (join (layout rules)) fields ∙ join_undoes_cut (layout rules) w below in
    let fit : directive_fits d ≡ true = ap (λ m. fits (layout (rules_of m)) (fields_for d)) name ∙ ap (fits (layout rules)) fields ∙ cut_fits (layout rules) w in
    let all : directive_octets d ≡ o =
    ap (λ m. cut (octets (size_of m)) (directive_word d)) name ∙ ap (λ m. cut (octets m) (directive_word d)) k.size ∙ ap (cut (octets (length o))) word ∙ cut_number o t
    in
    ap (λ b. encoding fault.TooWide b (directive_octets d) (read_directive (directive_octets d))) fit
    ∙ ap (λ p. encoding fault.TooWide true p (read_directive p)) all
    ∙ ap (encoding fault.TooWide true o) r
