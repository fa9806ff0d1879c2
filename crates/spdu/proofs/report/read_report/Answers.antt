use Rattle.std.proofs.Common.{◌≡◌, ◌-◌, ◌/◌, [], ◌∷◌, length, get_or, take, drop, sym, ap, ◌∙◌, arith, rules}
use Rattle.std.proofs.lemmas.List.{get_or-drop}
use Rattle.std.proofs.lemmas.Slice.{between_to_end}
use Rattle.std.proofs.lemmas.Bool.{eq-eqb}
use Rattle.bits.specs.Layout.{cut, number}
use Rattle.spdu.specs.Report.{report_layout, report_with, read_report}
use Rattle.spdu.proofs.ReportTrips.{two_octets, two_of, undone}
use Rattle.spdu.proofs.report.read_report.Goals as goal

pub returns : goal.returns
returns c =
    let o = c.args.octets.now in
    let two : length o ≡ 2 = search rules in
    let x = get_or o 0 0 in
    let y = get_or o 1 0 in
    let kind : x / 64 ≡ 2 = search rules in
    let second : get_or (take (length o - 1) (drop 1 o)) 0 0 ≡ y = ap (λ l. get_or l 0 0) (between_to_end o 1 (length o) (omega arith)) ∙ get_or-drop 1 o 0 0 in
    let word : c.word.result ≡ number (x ∷ y ∷ []) = omega (arith, second, c.word.ensures, c.type_inv.octets 0, c.type_inv.octets 1) in
    let answer : c.report_of.result ≡ read_report o =
    two_octets x y c.report_of.result (eq-eqb (x / 64) 2 kind) (c.report_of.ensures ∙ ap (λ w. report_with (cut report_layout w)) word) ∙ ap read_report (sym (two_of o two))
    in
    record { answer = answer; undone = undone o c.report_of.result (λ i. omega (arith, c.type_inv.octets i)) answer }
