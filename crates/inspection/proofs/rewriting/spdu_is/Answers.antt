use Rattle.spdu.specs.Spdu.{spdu_value}
use Rattle.inspection.proofs.Rewritten.{spdu_room}
use Rattle.inspection.proofs.rewriting.spdu_is.Goals as goal

pub is_written_as-requires-clause-room : goal.is_written_as-requires-clause-room
is_written_as-requires-clause-room c = spdu_room (spdu_value c.args.spdu) c.args.octets.now
