use Rattle.std.proofs.Common.{◌≡◌, ◌≤◌, arith}
use Rattle.std.proofs.lemmas.Grind.{common_steps}
use Rattle.line.proofs.Meaning.{takes_short}
use Rattle.ring.specs.Ring.{without}
use Rattle.ring.proofs.Rings.{without_sound}
use Rattle.slot_line.proofs.Frames.{sizes_popped, slots_sound, taken}
use Rattle.slot_line.proofs.slots.calls.SlotLineLine.take.Goals as goal

pub returns-then-buffer-lt2048-clause-line : goal.returns-then-buffer-lt2048-clause-line
returns-then-buffer-lt2048-clause-line c = rw (← c.self.view_is) (takes_short _ _ (slots_sound _ c.self.invariant) c.if-buffer-lt2048.true)

pub invariant_of-self : goal.invariant_of-self
invariant_of-self c =
    let g = c.self.inside.ring in
    let some : 1 ≤ g.count = grind arith in
    let gone : c.shorter-self-inside.result ≡ without 1 g = grind arith in
    record {
      ring = grind (arith, common_steps, without_sound);
      most = grind arith;
      room = grind arith;
      table = grind arith;
      sizes = rw gone (sizes_popped _ c.self.invariant some);
    }

pub returns-clause-line : goal.returns-clause-line
returns-clause-line c =
    let g = c.self.inside.ring in
    let some : 1 ≤ g.count = grind arith in
    let gone : c.shorter-self-inside.result ≡ without 1 g = grind arith in
    let first = c.in-Some.ensures.some in
    rw (← c.self.view_is, gone)
    (taken _ c.self.invariant c.in-Some.frame.now c.args.buffer.now c.lay.new.store some c.if-buffer-lt2048.false (rw (← c.self.view_is) at first) c.lay.ensures.after)
