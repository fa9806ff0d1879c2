use Rattle.std.proofs.Common.{sym, refl}
use Rattle.octet_line.proofs.Frames.{frames_count}
use Rattle.octet_line.proofs.Whole.{octets_sound}
use Rattle.octet_line.proofs.octets.calls.OctetLineLine.count.Goals as goal

pub returns : goal.returns
returns c =
    rw (← c.self.view_is)
    record {
      line = record { sound = octets_sound _ c.self.invariant; waiting = sym (frames_count _ _); limit = refl };
      memory = c.self.invariant;
    }
