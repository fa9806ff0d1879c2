use Rattle.std.proofs.Common.{◌≡◌, ◌+◌, ◌-◌, ◌*◌, ◌/◌, ◌%◌, ◌^◌, ◌≤◌, arith, shl_exact}
use lib.Bits.{bit_and, and_mask}
use Rattle.std.proofs.lemmas.Bool.Decides.{nat_tests}
use Rattle.directive.proofs.rate.doubled_rate.Goals as goal

pub overflow_sub-result : goal.overflow_sub-result
overflow_sub-result c = grind (arith, nat_tests, and_mask (c.args.field / 2 ^ 10) 5)

pub returns : goal.returns
returns c =
    let f = c.args.field in
    let top : f ≤ 0x53d0 = grind (arith, nat_tests) in
    let e : bit_and (f / 2 ^ 10) 31 ≡ f / 2 ^ 10 % 2 ^ 5 = and_mask (f / 2 ^ 10) 5 in
    let m : bit_and f 1023 ≡ f % 2 ^ 10 = and_mask f 10 in
    let whole : (1024 + f % 2 ^ 10) * 2 ^ (f / 2 ^ 10 % 2 ^ 5 - 8) % 2 ^ 32 ≡ (1024 + f % 2 ^ 10) * 2 ^ (f / 2 ^ 10 % 2 ^ 5 - 8) = shl_exact 11 (f / 2 ^ 10 % 2 ^ 5 - 8) 32 (omega arith) (omega arith) in
    rw (c.from.ensures, e, m) (grind (arith, nat_tests, whole))
