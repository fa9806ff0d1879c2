use Rattle.std.proofs.Common.{◌≡◌, ◌++◌, length, refl, ap, ◌∙◌, append_assoc}
use Rattle.ring.specs.Ring.{queued, grown}
use Rattle.octet_line.specs.Frames.{telling}
use Rattle.octet_line.proofs.Whole.{told_by}
use Rattle.octet_line.proofs.octets.round.add_frame.Goals as goal

pub returns : goal.returns
returns c =
    let f = c.args.frame.now in
    let head : c.to_be_bytes-length.result ≡ telling (length f) = c.to_be_bytes-length.ensures ∙ told_by (length f) c.requires.short in
    let one = c.add-ring.ensures in
    let two = c.add.ensures in
    let longer : c.add-ring.result ≡ grown 2 c.args.ring = rw head at one.ring in
    record {
      ring = two.ring ∙ ap (grown (length f)) longer;
      memory = two.memory ∙ rw (one.memory, head, longer) refl;
      used = two.used ∙ ap (λ u. u ++ f) (rw head at one.used) ∙ append_assoc (queued c.args.ring c.args.memory.now) (telling (length f)) f;
    }
