use Rattle.std.proofs.Common.{◌≡◌, Ok, sym, ap, ◌∙◌, arith}
use Rattle.bits.specs.Codec.{carry}
use Rattle.spdu.specs.Item.{opened, reading, holds_field, content_seen}
use Rattle.spdu.specs.Spdu.{read_spdu, content_read, variable}
use Rattle.spdu.proofs.SpduTrips.{writing_undoes, few}
use Rattle.spdu.proofs.spdu.read_spdu.Goals as goal

pub returns-in-Field : goal.returns-in-Field
returns-in-Field c =
    let o = c.args.octets.now in
    let s = variable c.in-Field.kind c.in-Field.field.now in
    let opens : opened o ≡ Ok (holds_field c.in-Field.kind c.in-Field.field.now) =
    sym c.open_spdu.ensures ∙ ap content_seen (c.in_ok-octets.was ∙ ap Ok c.in-Field.is)
    in
    let ends : (reading o).ends ≡ Ok tt = sym c.check_spdu.ensures ∙ c.in_ok-check_spdu.was in
    let read : read_spdu o ≡ Ok s = ap (λ r. carry r (λ _. carry (opened o) content_read)) ends ∙ ap (λ k. carry k content_read) opens in
    record { answer = sym read; undone = writing_undoes o s (λ i. omega (arith, c.type_inv.octets i)) read; few = few o s read }
