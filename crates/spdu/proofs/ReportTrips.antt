-- A report survives both ways through its octets.
use Rattle.std.proofs.Common.{◌≡◌, ℕ, ◌/◌, ◌%◌, ◌^◌, ◌<◌, Bool, true, false, cond, eqb, List, [], ◌∷◌, length, get_or, IfOk, Ok, Err, Result, sym, refl, ap, ◌∙◌, arith}
use Rattle.std.proofs.lemmas.Bool.{eq-eqb, eqb-true}
use Rattle.std.proofs.lemmas.Bool.Decides.{nat_tests}
use Rattle.bits.specs.Codec.{encoding}
use Rattle.bits.specs.Layout.{cut, join, fits, octets, number}
use Rattle.bits.proofs.Codecs.{granted}
use Rattle.bits.proofs.Layouts.{join_below, cut_undoes_join, join_undoes_cut, cut_fits, number_cut, cut_number, number_octets}
use Rattle.directive.proofs.Kept.{flag_back, flag_kept}
use Rattle.directive.specs.declared.fault.SpduFault.{SpduFault}
use Rattle.directive.specs.declared.fault.SpduFault.TheVariants as fault
use Rattle.spdu.specs.Report.{report_layout, report_fields, report_fits, report_word, report_of, report_with, read_report, report_octets, encoded_report}
use Rattle.spdu.specs.declared.report.Report.{Report}

-- two octets with bits 10 are judged by their fields
pub two_octets : (x y : ℕ) (r : Result Report SpduFault) → eqb (x / 64) 2 ≡ true → r ≡ report_with (cut report_layout (number (x ∷ y ∷ []))) → r ≡ read_report (x ∷ y ∷ [])
two_octets x y r h e = e ∙ sym (ap (λ t. cond t (report_with (cut report_layout (number (x ∷ y ∷ [])))) (Err fault.Kind)) h)

-- what reading answers at a report's own octets
pub own_octets : (r : Report) → report_fits r ≡ true → read_report (report_octets r) ≡ Ok r
own_octets r h =
    let w = report_word r in
    let fields : cut report_layout w ≡ report_fields r = cut_undoes_join report_layout (report_fields r) h in
    let kind : w / 2 ^ 14 % 2 ^ 2 ≡ 2 = ap (λ fs. get_or fs 0 0) fields in
    let first : eqb (w / 2 ^ 8 % 2 ^ 8 / 64) 2 ≡ true = eq-eqb (w / 2 ^ 8 % 2 ^ 8 / 64) 2 (omega (arith, kind)) in
    sym (two_octets (w / 2 ^ 8 % 2 ^ 8) (w / 1 % 2 ^ 8) (report_with (cut report_layout (number (report_octets r)))) first refl)
    ∙ ap (λ n. report_with (cut report_layout n)) (number_cut 2 w (join_below report_layout (report_fields r) h))
    ∙ ap report_with fields
    ∙ rw (flag_back r.retransmit)

-- reading undoes writing
pub reading_undoes : (r : Report) (o : List ℕ) → encoded_report r ≡ Ok o → read_report o ≡ Ok r
reading_undoes r o h =
    let g = granted fault.TooWide (report_fits r) (report_octets r) (read_report (report_octets r)) o h in
    ap read_report (sym g.same) ∙ own_octets r g.fits

-- what a report that was read says of its octets
record Taken (x y : ℕ) (r : Report) : Type 0 where
  kind : x / 64 ≡ 2
  spare : get_or (cut report_layout (number (x ∷ y ∷ []))) 3 0 ≡ 0
  is : r ≡ report_of (cut report_layout (number (x ∷ y ∷ [])))

with_ok : (fs : List ℕ) (t : Bool) (r : Report) → eqb (get_or fs 3 0) 0 ≡ t → cond t (Ok (report_of fs)) (Err (fault.Reserved 0)) ≡ Ok r → (get_or fs 3 0 ≡ 0) × (r ≡ report_of fs)
with_ok fs true r e h = (eqb-true (get_or fs 3 0) 0 e, cc)
with_ok fs false r e h = cc

taken : (x y : ℕ) (t : Bool) (r : Report) → eqb (x / 64) 2 ≡ t → cond t (report_with (cut report_layout (number (x ∷ y ∷ [])))) (Err fault.Kind) ≡ Ok r → Taken x y r
taken x y true r e h =
    let fs = cut report_layout (number (x ∷ y ∷ [])) in
    let g = with_ok fs (eqb (get_or fs 3 0) 0) r refl h in
    record { kind = eqb-true (x / 64) 2 e; spare = g.0; is = g.1 }
taken x y false r e h = cc

never : (x : ℕ) (a b : Result Report SpduFault) (t : Bool) (e f : SpduFault) (r : Report) → a ≡ Err e → b ≡ Err f → cond t a b ≡ Ok r → ⊥
never x a b true e f r p q h = cc
never x a b false e f r p q h = cc

-- writing undoes reading
pub writing_undoes : (o : List ℕ) (r : Report) → ((i : ℕ) → get_or o i 0 < 256) → read_report o ≡ Ok r → encoded_report r ≡ Ok o
writing_undoes [] r t h = cc
writing_undoes (x ∷ []) r t h = absurd (never x (Err fault.Length) (Err fault.Kind) (eqb (x / 64) 2) fault.Length fault.Kind r refl refl h)
writing_undoes (x ∷ y ∷ z ∷ o) r t h = absurd (never x (cond (eqb (length (y ∷ z ∷ o)) 1) (report_with (cut report_layout (number (x ∷ y ∷ z ∷ o)))) (Err fault.Length)) (Err fault.Kind) (eqb (x / 64) 2) fault.Length fault.Kind r (grind (arith, nat_tests)) refl h)
writing_undoes (x ∷ y ∷ []) r t h =
    let os : List ℕ = x ∷ y ∷ [] in
    let w = number os in
    let k = taken x y (eqb (x / 64) 2) r refl h in
    let fs = cut report_layout w in
    let kind : get_or fs 0 0 ≡ 2 = omega (arith, k.kind, t 0, t 1) in
    let kept : report_fields (report_of fs) ≡ fs = rw (flag_kept (get_or fs 1 0) (omega arith), kind, k.spare) in
    let same : report_fields r ≡ fs = ap report_fields k.is ∙ kept in
    let whole : report_octets r ≡ os = ap (λ v. cut (octets 2) (join report_layout v)) same ∙ ap (cut (octets 2)) (join_undoes_cut report_layout w (number_octets os t)) ∙ cut_number os t in
    ap (λ b. encoding fault.TooWide b (report_octets r) (read_report (report_octets r))) (ap (fits report_layout) same ∙ cut_fits report_layout w)
    ∙ ap (λ p. encoding fault.TooWide true p (read_report p)) whole
    ∙ ap (encoding fault.TooWide true os) h

-- what was read is encoded as it was
pub undone : (o : List ℕ) (r : Result Report SpduFault) → ((i : ℕ) → get_or o i 0 < 256) → r ≡ read_report o → IfOk r (λ p. encoded_report p ≡ Ok o)
undone o (Ok p) t e = writing_undoes o p t (sym e)
undone o (Err x) t e = tt

pub two_of : (o : List ℕ) → length o ≡ 2 → o ≡ get_or o 0 0 ∷ get_or o 1 0 ∷ []
two_of [] h = absurd (omega arith)
two_of (x ∷ []) h = absurd (omega arith)
two_of (x ∷ y ∷ []) h = refl
two_of (x ∷ y ∷ z ∷ o) h = absurd (omega arith)
