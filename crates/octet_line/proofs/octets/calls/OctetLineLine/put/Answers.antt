use Rattle.std.proofs.Common.{◌<◌, ◌≤◌, length, sym, refl, inl, ◌∙◌, arith}
use Rattle.ring.specs.Ring.{queued}
use Rattle.octet_line.proofs.Frames.{frames_count}
use Rattle.octet_line.proofs.Whole.{room_left, still, pushed}
use Rattle.octet_line.proofs.octets.calls.OctetLineLine.put.Goals as goal

pub add_frame-self-inside-requires-clause-fits : goal.add_frame-self-inside-requires-clause-fits
add_frame-self-inside-requires-clause-fits c =
    let few : c.self.inside.count < c.self.inside.limit = grind arith in
    let short : length c.args.frame.now ≤ 2048 = grind arith in
    let left = room_left _ c.self.invariant few in
    omega arith

pub invariant_of-self : goal.invariant_of-self
invariant_of-self c =
    let few : c.self.inside.count < c.self.inside.limit = grind arith in
    let low : 5 ≤ length c.args.frame.now = grind arith in
    let short : length c.args.frame.now ≤ 2048 = grind arith in
    let room = c.add_frame-self-inside.auto.memory ∙ c.self.invariant.room in
    let added = c.add_frame-self-inside.ensures in
    still _ c.self.invariant c.args.frame.now c.add_frame-self-inside.new.memory _ (low, short) few room added.ring added.used

pub returns-clause-line : goal.returns-clause-line
returns-clause-line c =
    let few : c.self.inside.count < c.self.inside.limit = grind arith in
    let low : 5 ≤ length c.args.frame.now = grind arith in
    let short : length c.args.frame.now ≤ 2048 = grind arith in
    let room = c.add_frame-self-inside.auto.memory ∙ c.self.invariant.room in
    let added = c.add_frame-self-inside.ensures in
    rw (← c.self.view_is)
    record {
      limit = refl;
      answer = sym c.in_ok-admission.was ∙ c.admission.ensures ∙ rw (frames_count c.self.inside.count (queued c.self.inside.ring c.self.inside.octets.now)) refl;
      list = inl (refl, pushed _ c.self.invariant c.args.frame.now c.add_frame-self-inside.new.memory _ (low, short) few room added.ring added.used);
    }
