use Rattle.std.proofs.Common.{rules}
use Rattle.unit.proofs.Queueing.{gone}
use Rattle.unit.proofs.units.free_units.Goals as goal

pub returns-clause-freed : goal.returns-clause-freed
returns-clause-freed c = gone c.args.queue.now.ring c.args.units.now.slips.now c.args.units.now.store.now c.fits.ensures.sound (search rules) c.args.n _ _ c.in_ok-free.ensures.freed
