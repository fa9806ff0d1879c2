-- What is noted of a unit.
use Rattle.std.specs.Prelude.{ℕ}
use Rattle.frame.specs.declared.header.Quality.{Quality}

-- a unit's port, its quality, and how many octets it has
pub record Note : Type 0 where
  pub port : ℕ
  pub quality : Quality
  pub length : ℕ
