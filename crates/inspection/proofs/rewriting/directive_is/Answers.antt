use Rattle.inspection.proofs.Rewritten.{directive_room}
use Rattle.inspection.proofs.rewriting.directive_is.Goals as goal

pub is_written_as-requires-clause-room : goal.is_written_as-requires-clause-room
is_written_as-requires-clause-room c = directive_room c.args.directive c.args.octets.now
