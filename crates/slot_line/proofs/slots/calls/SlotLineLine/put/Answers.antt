use Rattle.std.proofs.Common.{◌≡◌, ◌<◌, ◌≤◌, length, sym, ◌∙◌, refl, inl, arith}
use Rattle.ring.specs.Ring.{index_of, grown}
use Rattle.slot_line.proofs.Frames.{pushed, slots_count}
use Rattle.slot_line.proofs.slots.calls.SlotLineLine.put.Goals as goal

pub returns-clause-line : goal.returns-clause-line
returns-clause-line c =
    let g = c.self.inside.ring in
    let f = c.args.frame.now in
    let slot = c.index-slot.result in
    let short : length f ≤ 2048 = grind arith in
    let few : g.count < g.size = grind arith in
    let longer : c.longer-self-inside.result ≡ grown 1 g = grind arith in
    let next : slot ≡ index_of g g.count = grind arith in
    rw (← c.self.view_is)
    record {
      limit = grind arith;
      answer = sym c.in_ok-admission.was ∙ c.admission.ensures ∙ rw (c.count.ensures, c.size.ensures.size, slots_count c.self.inside.store.now c.self.inside.lengths.now g) refl;
      list = inl (refl, rw (c.lay.ensures.after, longer) (pushed _ c.self.invariant f slot short few next));
    }
