-- What the sending machine's turn says of any sender.
use Rattle.std.proofs.Common.{◌≡◌, ◌↔◌, IfSome, IsNone, arith}
use Rattle.std.proofs.lemmas.Bool.Decides.{nat_tests}
use Rattle.cop.specs.Laws.{InWindow}
use Rattle.cop.specs.Sender.{IsSender, sender_turn}
use Rattle.cop.specs.declared.sender.Sender.{Sender}

pub in_window : (s : Sender) → IsSender s → IfSome (sender_turn s) (InWindow s)
in_window s h = grind (arith, nat_tests)

pub idle : (s : Sender) → IsSender s → IsNone (sender_turn s) ↔ (s.count ≡ 0)
idle s h = grind (arith, nat_tests)
