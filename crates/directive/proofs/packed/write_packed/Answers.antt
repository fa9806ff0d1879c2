use Rattle.std.proofs.Common.{◌≡◌, Some, Ok, Err, sym, ap, ◌∙◌, arith}
use Rattle.std.proofs.lemmas.Result.{err_from_is_err_and}
use Rattle.std.specs.Option.{ok_or}
use Rattle.bits.specs.Layout.{cut, octets}
use Rattle.bits.specs.Codec.{put, put_answer}
use Rattle.bits.proofs.Codecs.{no_encoding, encodes, unreadable, puts_known}
use Rattle.directive.specs.Packed.{encoded_packed}
use Rattle.directive.specs.declared.fault.SpduFault.TheVariants as fault
use Rattle.directive.proofs.Packing.{last_octets}
use Rattle.directive.proofs.packed.write_packed.Goals as goal

pub returns-in_err-read : goal.returns-in_err-read
returns-in_err-read g c =
    let v = c.args.value in
    let fit = g.P.Packed.fits v in
    let size = g.P.Packed.size v in
    let word = g.P.Packed.word v in
    let read = g.P.Packed.read in
    let o = cut (octets size) word in
    let own = last_octets fit size word c.word.result c.in_ok-word.word c.size.result c.octets_of-all.result c.size.ensures.few c.word.ensures.word (grind arith) c.octets_of-all.ensures c.size.ensures.size in
    let p = err_from_is_err_and c.from_residual-in_err-read.result c.from_residual-in_err-read.ensures.1 in
    let e : read o ≡ Err c.in_err-read.field-0.0 = ap read (sym own.octets) ∙ sym c.read.ensures ∙ c.in_err-read.was in
    let r = no_encoding fault.Buffer c.in_err-read.field-0.0 (encoded_packed fit size word read) c.args.buffer.now (unreadable fault.TooWide fit o (read o) c.in_err-read.field-0.0 own.fits e) in
    rw (p.1 ∙ ap Err p.2) (record { answer = r.answer; after = r.after; undone = tt })

pub returns : goal.returns
returns g c =
    let v = c.args.value in
    let fit = g.P.Packed.fits v in
    let size = g.P.Packed.size v in
    let word = g.P.Packed.word v in
    let read = g.P.Packed.read in
    let o = cut (octets size) word in
    let own = last_octets fit size word c.word.result c.in_ok-word.word c.size.result c.octets_of-all.result c.size.ensures.few c.word.ensures.word (grind arith) c.octets_of-all.ensures c.size.ensures.size in
    let found = c.in_ok-read.field-0 in
    let taken : read o ≡ Ok found = ap read (sym own.octets) ∙ sym c.read.ensures ∙ c.in_ok-read.was in
    let encoded : encoded_packed fit size word read ≡ Ok o = encodes fault.TooWide fit o (read o) found own.fits taken in
    let is : c.word.result ≡ Some word = own.some in
    let same : found ≡ v = rw (is, taken) at c.word.ensures.undone in
    let back : read o ≡ Ok v = taken ∙ ap Ok same in
    let w = puts_known fault.Buffer (encoded_packed fit size word read) read v o c.args.buffer.now c.ok_or-2.result c.put_first.new.buffer encoded back
    (c.ok_or-2.ensures.value ∙ ap (λ x. ok_or x fault.Buffer) c.put_first.ensures.answer ∙ ap (λ p. ok_or (put_answer p c.args.buffer.now) fault.Buffer) own.octets)
    (c.put_first.ensures.after ∙ ap (λ p. put p c.args.buffer.now) own.octets)
    in
    record { answer = w.answer; after = w.holds; undone = w.undone }
