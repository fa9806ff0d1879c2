use Rattle.std.proofs.Common.{◌≡◌, ℕ, ◌+◌, List, ◌∷◌, ◌++◌, length, take, refl, ap, add-one}
use Rattle.std.proofs.lemmas.List.{take_at}
use Rattle.spdu.proofs.spdu.header_then.Goals as goal

first_then : (x : ℕ) (o q : List ℕ) → take (length o + 1) (x ∷ (o ++ q)) ≡ x ∷ o
first_then x o q = rw (add-one (length o)) (ap (λ l. x ∷ l) (take_at o q (length o) refl))

pub returns : goal.returns
returns c = simp c.copy_from_slice.ensures.after (first_then c.args.header c.args.octets.now _)
