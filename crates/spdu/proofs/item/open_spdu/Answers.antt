use Rattle.std.proofs.Common.{◌-◌, ◌/◌, ◌%◌, ◌<◌, length, get_or, take, drop, sym, ap, ◌∙◌, arith, rules}
use lib.Bits.{and_mask}
use Rattle.std.proofs.lemmas.Slice.{between_to_end}
use Rattle.spdu.specs.Item.{opens_field, type_of}
use Rattle.spdu.proofs.Opened.{opens_variable}
use Rattle.spdu.proofs.item.open_spdu.Goals as goal

pub returns-in_default-2 : goal.returns-in_default-2
returns-in_default-2 c =
    let o = c.args.octets.now in
    let some : 0 < length o = search rules in
    let low : get_or o 0 0 / 64 < 2 = search rules in
    c.open_field.ensures
    ∙ ap (λ n. opens_field (type_of (get_or o 0 0 / 16)) n (take (length o - 1) (drop 1 o))) (and_mask (get_or o 0 0) 4)
    ∙ ap (opens_field (type_of (get_or o 0 0 / 16)) (get_or o 0 0 % 16)) (between_to_end o 1 (length o) (omega arith))
    ∙ sym (opens_variable o some low)
