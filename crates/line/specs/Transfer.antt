-- What taking a frame from one line and putting it on another does to both.
use Rattle.std.specs.Prelude.{◌≡◌, ℕ, Bool, true, false, cond, List, [], ◌∷◌, length, drop, Some, None, Ok, Err, Option, Result}
use Rattle.std.specs.Result.{result_and}
use Rattle.line.specs.declared.fault.LineFault.{LineFault}
use Rattle.line.specs.declared.fault.LineFault.TheVariants.{Memory}
use Rattle.line.specs.Line.{Waiting, Puts, put_answer, roomy, filled}

-- what becomes of the oldest frame: the second line puts it, as it puts any frame; without one nothing is put
abbrev pub Passes : (List ℕ → Bool → Type 0) → List (List ℕ) → Waiting → Waiting → Result (Option ℕ) LineFault → Type 0
Passes may [] to to' r = (to' ≡ to) × (r ≡ Ok None)
Passes may (f ∷ fs) to to' r = Puts (may f) to to' f (put_answer to f) × (r ≡ result_and (put_answer to f) (Ok (Some (length f))))

-- with a buffer that is too small nothing is taken
abbrev pub PassesBy : (List ℕ → Bool → Type 0) → Bool → List (List ℕ) → Waiting → Waiting → Result (Option ℕ) LineFault → Type 0
PassesBy may true fs to to' r = Passes may fs to to' r
PassesBy may false fs to to' r = (to' ≡ to) × (r ≡ Err Memory)

pub record Transfers (may : List ℕ → Bool → Type 0) (from from' to to' : Waiting) (buffer buffer' : List ℕ) (r : Result (Option ℕ) LineFault) : Type 0 where
  pub limit : from'.limit ≡ from.limit
  pub leaves : from'.frames ≡ cond (roomy buffer) (drop 1 from.frames) from.frames
  pub octets : buffer' ≡ cond (roomy buffer) (filled from.frames buffer) buffer
  pub passes : PassesBy may (roomy buffer) from.frames to to' r
