use Rattle.std.proofs.Common.{◌≡◌, drop, Err, sym, ◌∙◌, arith}
use Rattle.std.proofs.lemmas.List.{take_rest}
use Rattle.std.proofs.lemmas.Grind.{common_steps}
use Rattle.std.specs.Option.{option_map}
use Rattle.directive.specs.Directive.{first_directive, name_for}
use Rattle.directive.proofs.Fronts.{front-first, first_near}
use Rattle.directive.proofs.directive.directive_at.Goals as goal

pub moved-requires : goal.moved-requires
moved-requires c =
    let o = drop c.args.at c.args.unit.now in
    let first : first_directive o ≡ Err c.in-Err.fault = rw (take_rest c.args.unit.now c.args.at) at (sym c.first_directive.ensures ∙ c.in-Err.is) in
    omega (arith, first_near o c.in-Err.fault first)

pub returns-in-Ok-clause-answer : goal.returns-in-Ok-clause-answer
returns-in-Ok-clause-answer c =
    let o = drop c.args.at c.args.unit.now in
    let named : c.map.result ≡ option_map name_for c.in-Ok.directive = grind (arith, common_steps) in
    grind (arith, take_rest c.args.unit.now c.args.at, front-first c.args.at o)

pub returns-in-Err-clause-answer : goal.returns-in-Err-clause-answer
returns-in-Err-clause-answer c =
    let o = drop c.args.at c.args.unit.now in
    grind (arith, take_rest c.args.unit.now c.args.at, front-first c.args.at o)
