use Rattle.std.proofs.Common.{refl, arith, rules}
use Rattle.std.proofs.lemmas.Bool.Decides.{nat_tests}
use Rattle.unit.proofs.Queueing.{held}
use Rattle.unit.proofs.units.hold.Goals as goal

pub returns-clause-held : goal.returns-clause-held
returns-clause-held c =
    held c.args.queue.now.ring c.args.units.now.slips.now c.args.units.now.store.now c.fits.ensures.sound (search rules) c.args.octets.now _ _ c.index-index.result _ _ _ (omega arith) (grind (arith, nat_tests)) (grind (arith, nat_tests)) refl c.in_ok-queued.ensures.added (search rules) c.lay.ensures.after
