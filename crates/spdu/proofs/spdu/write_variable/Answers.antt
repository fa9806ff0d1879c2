use Rattle.std.proofs.Common.{◌≡◌, ◌+◌, ◌-◌, ◌∷◌, length, take, Ok, Err, sym, ap, ◌∙◌, arith}
use Rattle.std.proofs.lemmas.Result.{err_from_is_err_and}
use Rattle.std.specs.Option.{ok_or}
use Rattle.bits.specs.Codec.{put, put_answer}
use Rattle.bits.specs.Layout.{join}
use Rattle.bits.proofs.Codecs.{some_tells, no_encoding, encodes, unreadable, puts_known}
use Rattle.directive.specs.declared.fault.SpduFault.TheVariants as fault
use Rattle.spdu.specs.Spdu.{variable, variable_layout, variable_fields, spdu_seen, spdu_value, spdu_fits, spdu_octets, read_spdu, encoded_spdu}
use Rattle.spdu.proofs.SpduTrips.{reading_undoes}
use Rattle.spdu.proofs.spdu.write_variable.Goals as goal

pub returns-in_err-read_spdu : goal.returns-in_err-read_spdu
returns-in_err-read_spdu c =
    let o = c.args.octets.now in
    let s = variable c.args.kind o in
    let told = some_tells (spdu_fits s) (join variable_layout (variable_fields c.args.kind (length o))) c.in_ok-header.header (grind arith) in
    let own : take (length o + 1 - 0) c.header_then-all.result ≡ spdu_octets s =
    ap (λ k. take k c.header_then-all.result) (omega arith) ∙ c.header_then-all.ensures ∙ ap (λ h. h ∷ o) told.1
    in
    let told_fault = c.in_err-read_spdu.field-0.0 in
    let read : read_spdu (spdu_octets s) ≡ Err told_fault = ap read_spdu (sym own) ∙ sym c.read_spdu.ensures.answer ∙ ap spdu_seen c.in_err-read_spdu.was in
    let p = err_from_is_err_and c.from_residual-in_err-read_spdu.result c.from_residual-in_err-read_spdu.ensures.1 in
    let r = no_encoding fault.Buffer told_fault (encoded_spdu s) c.args.buffer.now (unreadable fault.TooWide (spdu_fits s) (spdu_octets s) (read_spdu (spdu_octets s)) told_fault told.0 read) in
    rw (p.1 ∙ ap Err p.2) (record { answer = r.answer; after = r.after; undone = tt })

pub returns : goal.returns
returns c =
    let o = c.args.octets.now in
    let s = variable c.args.kind o in
    let told = some_tells (spdu_fits s) (join variable_layout (variable_fields c.args.kind (length o))) c.in_ok-header.header (grind arith) in
    let own : take (length o + 1 - 0) c.header_then-all.result ≡ spdu_octets s =
    ap (λ k. take k c.header_then-all.result) (omega arith) ∙ c.header_then-all.ensures ∙ ap (λ h. h ∷ o) told.1
    in
    let v = spdu_value c.in_ok-read_spdu.field-0 in
    let read : read_spdu (spdu_octets s) ≡ Ok v = ap read_spdu (sym own) ∙ sym c.read_spdu.ensures.answer ∙ ap spdu_seen c.in_ok-read_spdu.was in
    let encoded : encoded_spdu s ≡ Ok (spdu_octets s) = encodes fault.TooWide (spdu_fits s) (spdu_octets s) (read_spdu (spdu_octets s)) v told.0 read in
    let w = puts_known fault.Buffer (encoded_spdu s) read_spdu s (spdu_octets s) c.args.buffer.now c.ok_or-2.result c.put_first.new.buffer encoded (reading_undoes s (spdu_octets s) encoded)
    (c.ok_or-2.ensures.value ∙ ap (λ x. ok_or x fault.Buffer) c.put_first.ensures.answer ∙ ap (λ p. ok_or (put_answer p c.args.buffer.now) fault.Buffer) own)
    (c.put_first.ensures.after ∙ ap (λ p. put p c.args.buffer.now) own)
    in
    record { answer = w.answer; after = w.holds; undone = w.undone }
