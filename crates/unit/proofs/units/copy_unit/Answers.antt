use Rattle.std.proofs.Common.{◌≡◌, get_or, ap, arith, rules}
use Rattle.unit.proofs.Queueing.{copied, not_copied}
use Rattle.unit.proofs.units.copy_unit.Goals as goal

pub returns-then-place-count-clause-copied : goal.returns-then-place-count-clause-copied
returns-then-place-count-clause-copied c =
    not_copied c.args.queue.now.ring c.args.units.now.slips.now c.args.units.now.store.now c.fits.ensures.sound (search rules) c.args.place c.args.buffer.now (omega arith) (omega (arith, c.count.ensures.count))

pub returns-clause-copied : goal.returns-clause-copied
returns-clause-copied c =
    let ss = c.args.units.now.slips.now in
    let i = c.index-index.result in
    let x = get_or ss i c.index-units-index.result in
    let long : c.slip.inside.length ≡ x.length = ap (λ s. s.length) c.slip.view_is in
    copied c.args.queue.now.ring ss c.args.units.now.store.now c.fits.ensures.sound (search rules) c.args.place i _ x c.args.buffer.now _ (omega arith) (omega (arith, c.count.ensures.count)) (omega arith) (omega arith) (search rules) (ap (get_or ss i) c.index-units-index.is) c.lay.ensures.after
