use Rattle.std.proofs.Common.{◌+◌, ◌%◌, ◌^◌, [], ◌∷◌, get_or, drop, arith}
use Rattle.std.proofs.lemmas.List.{drop_more, drop_all}
use Rattle.bits.specs.Layout.{number}
use Rattle.bits.proofs.Words.{Gathering, gathers_on}
use Rattle.bits.proofs.word.Goals as goal

pub loop-octet-preserved : goal.loop-octet-preserved
loop-octet-preserved c =
    let o = c.args.octets.now in
    let i = c.loop-octet.octet-index in
    let n = number o % 2 ^ 128 in
    let here : Gathering c.loop-octet.word (get_or o i 0 ∷ drop (i + 1) o) n = rw (drop_more o i 0 c.loop-octet-test.true) at c.loop-octet.invariant in
    rw c.from.ensures (gathers_on c.loop-octet.word (get_or o i 0) (drop (i + 1) o) n here (omega (arith, c.type_inv.octets i)))

pub returns : goal.returns
returns c =
    let end : Gathering c.loop-octet.word [] (number c.args.octets.now % 2 ^ 128) = rw (drop_all c.loop-octet.octet-index c.args.octets.now c.loop-octet-test.false) at c.loop-octet.invariant in
    omega (arith, end.0, end.1)
