use Rattle.std.proofs.Common.{◌≡◌, ◌+◌, arith}
use Rattle.line.proofs.Meaning.{takes_short}
use Rattle.ring.specs.Ring.{without}
use Rattle.octet_line.proofs.Whole.{octets_sound, some_waits, fits, still_less, takes}
use Rattle.octet_line.proofs.octets.calls.OctetLineLine.take.Goals as goal

pub returns-then-buffer-lt2048-clause-line : goal.returns-then-buffer-lt2048-clause-line
returns-then-buffer-lt2048-clause-line c = rw (← c.self.view_is) (takes_short _ _ (octets_sound _ c.self.invariant) c.if-buffer-lt2048.true)

pub invariant_of-self : goal.invariant_of-self
invariant_of-self c =
    let n = c.in-Some.count in
    let is = rw (← c.self.view_is) at c.in-Some.ensures.answer in
    let some = some_waits _ n _ is in
    let enough = fits _ c.self.invariant some n is in
    let gone : c.shorter-self-inside.result ≡ without (2 + n) c.self.inside.ring = grind arith in
    rw gone (still_less _ c.self.invariant some n is)

pub returns-clause-line : goal.returns-clause-line
returns-clause-line c =
    let n = c.in-Some.count in
    let is = rw (← c.self.view_is) at c.in-Some.ensures.answer in
    let octets = rw (← c.self.view_is) at c.in-Some.ensures.octets in
    let some = some_waits _ n _ is in
    let enough = fits _ c.self.invariant some n is in
    let gone : c.shorter-self-inside.result ≡ without (2 + n) c.self.inside.ring = grind arith in
    rw (← c.self.view_is, gone) (takes _ c.self.invariant some n is _ _ c.if-buffer-lt2048.false octets)
