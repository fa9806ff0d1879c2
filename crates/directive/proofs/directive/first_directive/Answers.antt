use Rattle.std.proofs.Common.{◌≡◌, ◌/◌, ◌<◌, length, get_or, Some, Ok, Err, sym, ap, ◌∙◌, arith, rules}
use Rattle.std.proofs.lemmas.Result.{err_from_is_err_and}
use Rattle.bits.specs.Codec.{carry}
use Rattle.directive.specs.Directive.{name_of, first_directive}
use Rattle.directive.proofs.Fronts.{first_in}
use Rattle.directive.proofs.directive.first_directive.Goals as goal
use Rattle.directive.proofs.directive.first_directive.Goals.{After-directive_of}

-- what the directive with the first name answers is the answer
first : (c : After-directive_of) → first_directive c.args.octets.now ≡ carry c.directive_of.result (λ d. Ok (Some d))
first c =
    let o = c.args.octets.now in
    let some : 0 < length o = search rules in
    let named : Some c.in_ok-name.name ≡ name_of (get_or o 0 0 / 32) = grind arith in
    first_in o c.in_ok-name.name c.size-size.result c.word.result c.directive_of.result (λ i. omega (arith, c.type_inv.octets i)) some named c.size-size.ensures (omega (arith, c.if-octets-size.false)) c.word.ensures c.directive_of.ensures

pub returns-in_err-directive_of : goal.returns-in_err-directive_of
returns-in_err-directive_of c =
    let p = err_from_is_err_and c.from_residual-in_err-directive_of.result c.from_residual-in_err-directive_of.ensures.1 in
    p.1 ∙ ap Err p.2 ∙ sym (first (goal.at.returns-in_err-directive_of c).After-directive_of ∙ ap (λ r. carry r (λ d. Ok (Some d))) c.in_err-directive_of.was)

pub returns : goal.returns
returns c = sym (first (goal.at.returns c).After-directive_of ∙ ap (λ r. carry r (λ d. Ok (Some d))) c.in_ok-directive_of.was)
