use Rattle.std.proofs.Common.{◌≡◌, get_or, sum_by, arith, rules}
use Rattle.std.proofs.lemmas.List.Sums.{sum_by-le}
use Rattle.queue.specs.Limits.{most_octets}
use Rattle.queue.proofs.queue.octets_in.Goals as goal

pub returns : goal.returns
returns g c =
    let part = c.args.part.now in
    let f = g.T.Octets.octets in
    let sum : c.sum.result ≡ sum_by f part = search rules in
    record { sum = sum; small = omega (arith, sum, sum_by-le f most_octets part (λ k d _. g.met.T.Octets.few (get_or part k d))) }
