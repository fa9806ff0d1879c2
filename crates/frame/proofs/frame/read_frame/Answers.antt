use Rattle.std.proofs.Common.{◌≡◌, ℕ, ◌%◌, ◌^◌, ◌<◌, get_or, length, take, ap, ◌∙◌, arith}
use Rattle.bits.specs.Layout.{number, cut}
use Rattle.bits.proofs.Layouts.{front_octets, number_small}
use Rattle.frame.specs.Header.{header_layout}
use Rattle.frame.specs.Frame.{seen, read_fields, read_frame}
use Rattle.frame.proofs.Trips.{read_sized, undone}
use Rattle.frame.proofs.frame.read_frame.Goals as goal

pub returns : goal.returns
returns c =
    let o = c.args.octets.now in
    let bytes : (i : ℕ) → get_or o i 0 < 256 = λ i. omega (arith, c.type_inv.octets i) in
    let ok = c.in_ok-header.ensures.ok_part in
    let parts = rw ok at c.split_at_checked.ensures.cases in
    let word : c.word.result ≡ number (take 5 o) =
    c.word.ensures
    ∙ ap (λ h. number h % 2 ^ 128) parts.1
    ∙ number_small (take 5 o) (front_octets 5 o bytes) (omega (arith, ap length parts.1))
    in
    let answer : seen c.frame_of.result ≡ read_frame o =
    c.frame_of.ensures
    ∙ ap (λ w. read_fields (cut header_layout w) (length o) c.in_ok-header.payload.now) word
    ∙ rw (parts.2, read_sized o parts.0 (omega arith))
    in
    record { answer = answer; undone = undone o c.frame_of.result bytes answer }
