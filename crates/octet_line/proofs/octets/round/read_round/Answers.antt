use Rattle.std.proofs.Common.{◌∙◌, arith, rules}
use Rattle.std.proofs.lemmas.List.{same_lists, places}
use Rattle.octet_line.proofs.octets.round.read_round.Goals as goal

pub returns-else-count-ahead : goal.returns-else-count-ahead
returns-else-count-ahead c = c.lay-else-count-ahead-2.ensures.after ∙ rw c.lay-else-count-ahead.ensures.after (same_lists _ _ (search (rules, places)) (λ k d m. grind (arith, places)))
