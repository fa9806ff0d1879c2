use Rattle.std.proofs.Common.{sym, ◌∙◌}
use Rattle.slot_line.proofs.Frames.{slots_count, slots_sound}
use Rattle.slot_line.proofs.slots.calls.SlotLineLine.count.Goals as goal

pub returns : goal.returns
returns c =
    rw (← c.self.view_is)
    record {
      line = record { sound = slots_sound _ c.self.invariant; waiting = c.count.ensures ∙ sym (slots_count _ _ _); limit = c.size.ensures.size };
      memory = c.self.invariant;
    }
