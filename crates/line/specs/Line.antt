-- What a line means, and what putting, taking and counting do to it.
use Rattle.std.specs.Prelude.{◌≡◌, ℕ, ◌≤◌, Bool, true, false, cond, ◌&&◌, ◌⊎◌, List, [], ◌∷◌, ◌++◌, length, drop, Some, None, Ok, Err, Option, Result, ◌==◌, nat_le}
use Rattle.std.specs.List.{AllByRecursion}
use Rattle.bits.specs.Codec.{beginning}
use Rattle.line.specs.declared.fault.LineFault.{LineFault}
use Rattle.line.specs.declared.fault.LineFault.TheVariants.{FrameSize, Full, Memory}

-- a line: the frames that wait in it, oldest first, and how many may wait
pub record Waiting : Type 0 where
  pub frames : List (List ℕ)
  pub limit : ℕ

-- a frame has 5 to 2,048 octets
abbrev pub frame_sized : List ℕ → Bool
frame_sized f = nat_le 5 (length f) && nat_le (length f) 2048

abbrev pub FrameSized : List ℕ → Type 0
FrameSized f = (5 ≤ length f) × (length f ≤ 2048)

-- what holds of every line: a limit from 1 to 4,096, no more frames than that, each as long as a frame may be
pub record Sound (w : Waiting) : Type 0 where
  pub some : 1 ≤ w.limit
  pub most : w.limit ≤ 4096
  pub room : length w.frames ≤ w.limit
  pub each : AllByRecursion FrameSized w.frames

-- as many frames wait as may
abbrev pub is_full : Waiting → Bool
is_full w = length w.frames == w.limit

-- what putting a frame answers on a line that is full or not
abbrev pub admission : Bool → List ℕ → Result (Unit {0}) LineFault
admission full f = cond (frame_sized f) (cond full (Err Full) (Ok tt)) (Err FrameSize)

-- what putting answers: a frame that is lost is answered as one that is kept
abbrev pub put_answer : Waiting → List ℕ → Result (Unit {0}) LineFault
put_answer w f = admission (is_full w) f

-- the list after putting: a frame that is granted comes last, or is lost where the line may lose it
abbrev pub Joins : (Bool → Type 0) → List (List ℕ) → List ℕ → List (List ℕ) → Result (Unit {0}) LineFault → Type 0
Joins may before f after (Ok _) = (may false × (after ≡ before ++ f ∷ [])) ⊎ (may true × (after ≡ before))
Joins may before f after (Err _) = after ≡ before

-- putting a frame on a line that may lose it (true) or keep it (false)
pub record Puts (may : Bool → Type 0) (before after : Waiting) (f : List ℕ) (r : Result (Unit {0}) LineFault) : Type 0 where
  pub limit : after.limit ≡ before.limit
  pub answer : r ≡ put_answer before f
  pub list : Joins may before.frames f after.frames r

-- a buffer has room for every frame
abbrev pub roomy : List ℕ → Bool
roomy buffer = nat_le 2048 (length buffer)

-- the length of the oldest frame, if one waits
abbrev pub oldest : List (List ℕ) → Option ℕ
oldest [] = None
oldest (f ∷ fs) = Some (length f)

-- a buffer that begins with the oldest frame, if one waits
abbrev pub filled : List (List ℕ) → List ℕ → List ℕ
filled [] buffer = buffer
filled (f ∷ fs) buffer = beginning f buffer

abbrev pub take_answer : Waiting → List ℕ → Result (Option ℕ) LineFault
take_answer w buffer = cond (roomy buffer) (Ok (oldest w.frames)) (Err Memory)

-- taking the oldest frame into a buffer
pub record Takes (before after : Waiting) (buffer filled-buffer : List ℕ) (r : Result (Option ℕ) LineFault) : Type 0 where
  pub sound : Sound before
  pub limit : after.limit ≡ before.limit
  pub answer : r ≡ take_answer before buffer
  pub list : after.frames ≡ cond (roomy buffer) (drop 1 before.frames) before.frames
  pub octets : filled-buffer ≡ cond (roomy buffer) (filled before.frames buffer) buffer

-- counting the frames that wait
pub record Counts (w : Waiting) (r : ℕ × ℕ) : Type 0 where
  pub sound : Sound w
  pub waiting : r.0 ≡ length w.frames
  pub limit : r.1 ≡ w.limit
