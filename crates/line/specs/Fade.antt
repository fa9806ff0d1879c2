-- What a fade layer loses.
use Rattle.std.specs.Prelude.{◌≡◌, ℕ, zero, suc, ◌-◌, Bool, true, Ok, Err, Result}
use Rattle.line.specs.declared.fault.LineFault.{LineFault}

-- while frames are left to lose, a frame is lost; after that it fares as on the line below
abbrev pub Fades : ℕ → (Bool → Type 0) → Bool → Type 0
Fades zero below lost = below lost
Fades (suc n) below lost = lost ≡ true

-- how many frames are left to lose: a refused frame uses none up
abbrev pub left_to_lose : ℕ → Result (Unit {0}) LineFault → ℕ
left_to_lose n (Ok _) = n - 1
left_to_lose n (Err _) = n
