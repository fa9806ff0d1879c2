use Rattle.std.proofs.Common.{◌≡◌, length, drop, Ok, ap, ◌∙◌, arith}
use Rattle.std.proofs.lemmas.Slice.Eq.{starts_is}
use Rattle.inspection.proofs.rewriting.has_put.Goals as goal
use Rattle.std.proofs.lemmas.Bool.Decides.{Decides-eqb}

pub returns : goal.returns
returns g c =
    let buffer = c.args.buffer.now in
    let octets = c.args.octets.now in
    let found = starts_is Decides-eqb buffer octets c.starts_with.result c.starts_with.ensures.value in
    let all : c.in-Ok.count ≡ length octets = omega arith in
    (λ t. (c.in-Ok.is ∙ ap Ok all, found.0 t), λ h. found.1 (drop (length octets) buffer) h.1)
