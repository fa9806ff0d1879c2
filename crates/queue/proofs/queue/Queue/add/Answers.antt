use Rattle.std.proofs.Common.{set, arith, rules}
use Rattle.std.proofs.lemmas.Bool.Decides.{nat_tests}
use Rattle.queue.proofs.Promises.{added, added_tied}
use Rattle.queue.proofs.queue.Queue.add.Goals as goal

pub returns : goal.returns
returns g c =
    let ring = c.self.inside.ring in
    let t = c.args.table.now in
    let sound = c.check_table.ensures.sound in
    let fit = c.in_ok-check_table.ensures.size in
    let done = added ring t sound fit c.args.x c.count.result c.longer.result (set t c.index.result c.args.x) (omega arith) (search rules) (search rules) (search rules) in
    rw (← c.self.view_is)
    (record {
      added = done;
      keeps = record { tied = added_tied ring t sound fit g.T.Octets.octets g.met.T.Octets.few c.args.x _ _ _ _ _ (search rules) done (search rules); unchanged = search rules };
      numbers_before = c.self.invariant;
      numbers = grind (arith, nat_tests);
    })
