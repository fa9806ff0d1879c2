use Rattle.std.proofs.Common.{◌≡◌, ◌+◌, ◌-◌, length, take, drop, sum_by, ap, ◌∙◌, arith, rules}
use Rattle.std.proofs.lemmas.List.{take-take}
use Rattle.std.proofs.lemmas.List.Sums.{sum_by-append}
use Rattle.ring.specs.Ring.{Sound}
use Rattle.queue.proofs.Sums.{two_parts}
use Rattle.queue.proofs.queue.octets_of_first.Goals as goal

pub returns-else-n-ahead : goal.returns-else-n-ahead
returns-else-n-ahead g c =
    let f = g.T.Octets.octets in
    let t = c.args.table.now in
    let ring = c.args.ring in
    let n = c.args.n in
    let over = ring.first + n - ring.size in
    let sound : Sound ring = search rules in
    let ahead = c.split_at.ensures.back ∙ ap (λ i. drop i t) c.first.ensures in
    let rest : n - length c.split_at.result.1.now ≡ over = omega arith in
    let round = ap (λ k. take k c.split_at.result.0.now) rest ∙ ap (take over) (c.split_at.ensures.front ∙ ap (λ i. take i t) c.first.ensures) ∙ take-take over ring.first t (omega (arith, sound.most)) in
    let parts = ap (sum_by f) (two_parts ring t n sound c.requires.whole c.requires.few (omega arith)) ∙ sum_by-append f (drop ring.first t) (take over t) in
    omega (arith, c.octets_in-else-n-ahead.ensures.sum, ap (sum_by f) ahead, c.octets_in-else-n-ahead-2.ensures.sum, ap (sum_by f) round, parts)
