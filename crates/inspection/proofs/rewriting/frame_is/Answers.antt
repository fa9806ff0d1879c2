use Rattle.frame.specs.Frame.{frame_value}
use Rattle.inspection.proofs.Rewritten.{frame_room}
use Rattle.inspection.proofs.rewriting.frame_is.Goals as goal

pub is_written_as-requires-clause-room : goal.is_written_as-requires-clause-room
is_written_as-requires-clause-room c = frame_room (frame_value c.args.frame) c.args.octets.now
