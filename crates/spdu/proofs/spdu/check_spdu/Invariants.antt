use Rattle.std.proofs.Common.{◌≡◌, length}
use Rattle.spdu.specs.Item.{reading}
use Rattle.spdu.specs.Items.{left}
use Rattle.spdu.proofs.spdu.check_spdu.Given as goal

abbrev pub invariant-loop : goal.invariant-loop
invariant-loop l = (left l.items).ends ≡ (reading l.octets).ends

abbrev pub decreases-loop : goal.decreases-loop
decreases-loop l = length (left l.items).items
