use Rattle.std.proofs.Common.{◌≡◌, Some, Ok, sym, arith}
use Rattle.std.proofs.lemmas.Bool.Decides.{nat_tests}
use Rattle.directive.specs.Directive.{first_directive, read_directive}
use Rattle.directive.proofs.Fronts.{read-first}
use Rattle.directive.proofs.Trips.{writing_undoes}
use Rattle.directive.proofs.directive.read_directive.Goals as goal

pub returns-then-octets-size-clause-answer : goal.returns-then-octets-size-clause-answer
returns-then-octets-size-clause-answer c =
    let o = c.args.octets.now in
    let first : first_directive o ≡ Ok (Some c.in_ok-directive.directive) = grind arith in
    grind (arith, nat_tests, read-first o c.in_ok-directive.directive first)

pub returns : goal.returns
returns c =
    let o = c.args.octets.now in
    let d = c.in_ok-directive.directive in
    let first : first_directive o ≡ Ok (Some d) = grind arith in
    let read : read_directive o ≡ Ok d = grind (arith, nat_tests, read-first o d first) in
    record { answer = sym read; undone = writing_undoes o d (λ i. omega (arith, c.type_inv.octets i)) read }
