-- What an SPDU holds by its first octet.
use Rattle.std.proofs.Common.{◌≡◌, ℕ, ◌/◌, ◌%◌, ◌<◌, cond, eqb, List, [], ◌∷◌, length, get_or, drop, Ok, Err, ap, ◌∙◌, arith}
use Rattle.std.proofs.lemmas.Bool.{ne_eqb}
use Rattle.bits.specs.Codec.{carry}
use Rattle.directive.specs.declared.fault.SpduFault.TheVariants as fault
use Rattle.spdu.specs.Report.{read_report}
use Rattle.spdu.specs.Item.{opened, opens_field, type_of, holds_report}

-- a unit that starts with a bit 0 is a variable one
pub opens_variable : (o : List ℕ) → 0 < length o → get_or o 0 0 / 64 < 2 → opened o ≡ opens_field (type_of (get_or o 0 0 / 16)) (get_or o 0 0 % 16) (drop 1 o)
opens_variable [] h l = absurd (omega arith)
opens_variable (x ∷ o) h l =
    ap (λ t. cond t (carry (read_report (x ∷ o)) (λ _. Ok (holds_report (x ∷ o)))) (cond (eqb (x / 64) 3) (Err fault.Kind) (opens_field (type_of (x / 16)) (x % 16) o))) (ne_eqb (x / 64) 2 (λ e. omega (arith, e, l)))
    ∙ ap (λ t. cond t (Err fault.Kind) (opens_field (type_of (x / 16)) (x % 16) o)) (ne_eqb (x / 64) 3 (λ e. omega (arith, e, l)))
