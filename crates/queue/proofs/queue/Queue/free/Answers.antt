use Rattle.std.proofs.Common.{arith, rules}
use Rattle.std.proofs.lemmas.Bool.Decides.{nat_tests}
use Rattle.queue.proofs.Promises.{freed, freed_tied}
use Rattle.queue.proofs.queue.Queue.free.Goals as goal

pub returns : goal.returns
returns g c =
    let ring = c.self.inside.ring in
    let t = c.args.table.now in
    let sound = c.check_table.ensures.sound in
    let fit = c.in_ok-check_table.ensures.size in
    let done = freed ring t sound fit c.args.n c.min-gone.result c.shorter.result (search rules) (search rules) in
    rw (← c.self.view_is)
    (record {
      freed = done;
      keeps = record { tied = freed_tied ring t sound fit g.T.Octets.octets c.args.n _ _ _ _ (search rules) done (search rules); unchanged = search rules };
      numbers_before = c.self.invariant;
      numbers = grind (arith, nat_tests);
    })
