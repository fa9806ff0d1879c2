use Rattle.std.proofs.Common.{◌≡◌, sym, subst, rules}
use Rattle.spdu.specs.Item.{reading}
use Rattle.spdu.specs.Items.{JoinedIn, Sound, left_at}
use Rattle.spdu.proofs.Laws.{items_joined, items_sound}
use Rattle.spdu.proofs.items.Items.new.Goals as goal

pub returns : goal.returns
returns c =
    let o = c.args.unit.now in
    let items : left_at o 1 c.map.result ≡ reading o = search rules in
    record {
      items = items;
      joined = subst (λ r. JoinedIn o r) (sym items) (items_joined o);
      sound = subst (λ r. Sound r) (sym items) (items_sound o);
    }
