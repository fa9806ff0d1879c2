-- The rules of a directive's fields.
use Rattle.std.specs.Prelude.{ℕ, ◌+◌, ◌/◌, Bool, true, cond, List, [], ◌∷◌, map, Some, None, Ok, Err, Option, Result, ◌==◌}
use Rattle.bits.specs.Codec.{carry}
use Rattle.directive.specs.declared.fault.SpduFault.{SpduFault}
use Rattle.directive.specs.declared.fault.SpduFault.TheVariants.{Reserved, Range}

-- a field: its width in bits, which values are no reserved code, and which values are in range
pub record Rule : Type 0 where
  pub width : ℕ
  pub code : ℕ → Bool
  pub range : ℕ → Bool

-- any value
abbrev pub free : ℕ → Rule
free w = record { width = w; code = λ v. true; range = λ v. true }

-- only zero
abbrev pub spare : ℕ → Rule
spare w = record { width = w; code = λ v. (v == 0); range = λ v. true }

-- only codes that are not reserved
abbrev pub coded : ℕ → (ℕ → Bool) → Rule
coded w t = record { width = w; code = t; range = λ v. true }

-- only values in range
abbrev pub ranged : ℕ → (ℕ → Bool) → Rule
ranged w t = record { width = w; code = λ v. true; range = t }

abbrev pub layout : List Rule → List ℕ
layout rules = map (λ r. r.width) rules

-- the first octet of the leftmost field whose value a test refuses, the first field starting at this bit
abbrev pub leftmost : (Rule → ℕ → Bool) → List Rule → ℕ → List ℕ → Option ℕ
leftmost test [] bit vs = None
leftmost test (r ∷ rules) bit [] = None
leftmost test (r ∷ rules) bit (v ∷ vs) = cond (test r v) (leftmost test rules (bit + r.width) vs) (Some (bit / 8))

-- a reserved code comes before a value out of range; the directive starts at the octet `at`
abbrev pub verdict : ℕ → Option ℕ → Option ℕ → Result (Unit {0}) SpduFault
verdict at (Some k) r = Err (Reserved (at + k))
verdict at None (Some k) = Err (Range (at + k))
verdict at None None = Ok tt

-- what a directive's fields with these values answer
abbrev pub judged : ℕ → List Rule → List ℕ → Result (Unit {0}) SpduFault
judged at rules vs = verdict at (leftmost (λ r. r.code) rules 0 vs) (leftmost (λ r. r.range) rules 0 vs)

-- the value that fields make which are judged well; octets count from the directive's first
abbrev pub allowed : {V : Type 0} → List Rule → List ℕ → V → Result V SpduFault
allowed rules vs v = carry (judged 0 rules vs) (λ _. Ok v)
