-- What a fault answers of itself.
use Rattle.std.specs.Prelude.{ℕ}
use Rattle.refusal.specs.declared.Layer.{Layer}

-- the number of the refusal, the layer that refused, and the octet where the fault lies, counted from 0
pub record Place : Type 0 where
  pub number : ℕ
  pub layer : Layer
  pub octet : ℕ

abbrev pub place : ℕ → Layer → ℕ → Place
place n l k = record { number = n; layer = l; octet = k }
