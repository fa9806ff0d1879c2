use Rattle.std.proofs.Common.{length}
use Rattle.spdu.specs.Items.{left}
use Rattle.inspect.proofs.units.print_items.Given as goal

abbrev pub decreases-loop-item : goal.decreases-loop-item
decreases-loop-item l = length (left l.items).items
