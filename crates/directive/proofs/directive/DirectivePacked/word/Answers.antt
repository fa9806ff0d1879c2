use Rattle.directive.proofs.Trips.{own_word}
use Rattle.directive.proofs.directive.DirectivePacked.word.Goals as goal

pub returns-clause-undone : goal.returns-clause-undone
returns-clause-undone c = own_word c.args.self c.directive_word.result c.directive_word.ensures
