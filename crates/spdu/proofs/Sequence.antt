-- How the items of an SPDU follow one another.
use Rattle.std.proofs.Common.{◌≡◌, ℕ, zero, suc, ◌+◌, ◌-◌, List, [], ◌∷◌, take, drop, Some, Ok, sym, refl, ap, ◌∙◌, add-zero, arith}
use Rattle.std.proofs.lemmas.List.{drop-drop}
use Rattle.directive.specs.Directive.{front, size_of}
use Rattle.directive.specs.declared.directive.Name.{Name}
use Rattle.directive.proofs.Fronts.{size_positive}
use Rattle.spdu.specs.Item.{preceded, directive, directives, begins}

-- octets that belong to a directive are passed over
pub skips : (k at : ℕ) (o : List ℕ) → directives k at o ≡ directives 0 (at + k) (drop k o)
skips zero at [] = refl
skips (suc k) at [] = refl
skips zero at (x ∷ o) = ap (λ a. directives 0 a (x ∷ o)) (sym (add-zero at))
skips (suc k) at (x ∷ o) =
    let e : at + 1 + k ≡ at + suc k = omega arith in
    skips k (at + 1) o ∙ ap (λ a. directives 0 a (drop k o)) e

-- a directive that was found is the first item, and the reading goes on after it
pub finds : (at : ℕ) (o : List ℕ) (n : Name) → front at o ≡ Ok (Some n) → directives 0 at o ≡ preceded (directive n (take (size_of n) o)) (directives 0 (at + size_of n) (drop (size_of n) o))
finds at [] n e = cc
finds at (x ∷ o) n e =
    let more : size_of n ≡ suc (size_of n - 1) = omega (arith, size_positive n) in
    let place : at + 1 + (size_of n - 1) ≡ at + size_of n = omega (arith, size_positive n) in
    ap (λ r. begins r (x ∷ o) (λ m. directives (size_of m - 1) (at + 1) o)) e
    ∙ ap (preceded (directive n (take (size_of n) (x ∷ o))))
    (skips (size_of n - 1) (at + 1) o
    ∙ ap (λ a. directives 0 a (drop (size_of n - 1) o)) place
    ∙ ap (λ k. directives 0 (at + size_of n) (drop k (x ∷ o))) (sym more))

-- the same in a unit
pub finds_in : (at : ℕ) (unit : List ℕ) (n : Name) → front at (drop at unit) ≡ Ok (Some n) → directives 0 at (drop at unit) ≡ preceded (directive n (take (size_of n) (drop at unit))) (directives 0 (at + size_of n) (drop (at + size_of n) unit))
finds_in at unit n e =
    finds at (drop at unit) n e
    ∙ ap (λ o. preceded (directive n (take (size_of n) (drop at unit))) (directives 0 (at + size_of n) o)) (drop-drop (size_of n) at unit)
