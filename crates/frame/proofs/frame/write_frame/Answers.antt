use Rattle.std.proofs.Common.{◌≡◌, ◌+◌, true, cond, leb, length, Ok, sym, ap, ◌∙◌, arith, rules}
use Rattle.std.proofs.lemmas.Bool.{le-leb}
use Rattle.std.proofs.lemmas.Bool.Decides.{nat_tests}
use Rattle.bits.specs.Layout.{fits, join, cut, octets}
use Rattle.bits.specs.Codec.{beginning}
use Rattle.bits.proofs.Codecs.{some_tells, puts_known}
use Rattle.frame.specs.Header.{header_layout}
use Rattle.frame.specs.Frame.{frame_value, fields_of, encoded, read_frame, frame_octets}
use Rattle.frame.specs.declared.fault.FrameFault.TheVariants as fault
use Rattle.frame.proofs.Trips.{encodes, encoded_is, header_then, reading_undoes}
use Rattle.frame.proofs.frame.write_frame.Goals as goal

pub returns-in_err-word : goal.returns-in_err-word
returns-in_err-word c = rw (encoded_is (frame_value c.args.frame)) (grind (arith, nat_tests))

pub returns-then-not-is_allowed : goal.returns-then-not-is_allowed
returns-then-not-is_allowed c = rw (encoded_is (frame_value c.args.frame)) (grind (arith, nat_tests))

pub returns-then-buffer-length : goal.returns-then-buffer-length
returns-then-buffer-length c = rw (encoded_is (frame_value c.args.frame)) (grind (arith, nat_tests))

pub returns : goal.returns
returns c =
    let f = frame_value c.args.frame in
    let b = c.args.buffer.now in
    let told = some_tells (fits header_layout (fields_of f)) (join header_layout (fields_of f)) c.in_ok-word.word (sym c.in_ok-word.ensures.ok_part ∙ c.header_word.ensures) in
    let o : encoded f ≡ Ok (frame_octets f) = encodes f told.0 (omega arith) (search rules) in
    let size : length f.payload + 5 ≡ length (frame_octets f) = omega arith in
    let room : leb (length (frame_octets f)) (length b) ≡ true = le-leb (length (frame_octets f)) (length b) (omega arith) in
    let header : c.copy_from_slice.new.self ≡ cut (octets 5) (join header_layout (fields_of f)) = simp (c.copy_from_slice.ensures.after, c.octets_of.ensures, told.1) in
    let p = puts_known fault.Buffer (encoded f) read_frame f (frame_octets f) b _ _ o (reading_undoes f (frame_octets f) o)
    (rw room (ap Ok size))
    (rw (header, c.copy_from_slice-2.ensures.after, header_then (join header_layout (fields_of f)) f.payload b) (sym (ap (λ t. cond t (beginning (frame_octets f) b) b) room)))
    in
    record { answer = p.answer; after = p.holds; undone = p.undone }
