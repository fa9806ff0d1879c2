-- What the fault of a line says of its characters.
use Rattle.std.specs.Prelude.{◌≡◌, ℕ, ◌+◌, ◌^◌, ◌<◌, Bool, true, false, List, [], ◌∷◌, ◌++◌, length, Result, IfErr}
use Rattle.recording.specs.declared.character.Character.{Character}
use Rattle.recording.specs.declared.character.Character.TheVariants.{Digit, Blank, Mark, Other}
use Rattle.recording.specs.declared.fault.TextFault.{TextFault}
use Rattle.recording.specs.declared.fault.TextFault.TheVariants.{NotHexadecimal, HalfOctet}
use Rattle.recording.specs.declared.place.Place.{Place}
use Rattle.recording.specs.declared.place.Place.TheVariants.{Between, Half, Comment, Faulted}
use Rattle.recording.specs.Lines.{Reading, kind, start, steps}

-- Whether a character is a digit, by what it means.
abbrev pub is_digit : Character → Bool
is_digit (Digit d) = true
is_digit Blank = false
is_digit Mark = false
is_digit Other = false

-- Whether a text goes on with a digit.
abbrev pub goes_on : List ℕ → Bool
goes_on [] = false
goes_on (c ∷ text) = is_digit (kind c)

-- Whether a line still waits for octets: it is in no comment, and has no fault.
abbrev pub waits : Place → Bool
waits Between = true
waits (Half h) = true
waits Comment = false
waits (Faulted f) = false

-- The character in a column of a text, with the characters before and behind it. Columns count from 1.
pub record Stands (text : List ℕ) (column : ℕ) : Type 0 where
  pub before : List ℕ
  pub here : ℕ
  pub behind : List ℕ
  pub same : before ++ here ∷ behind ≡ text
  pub counts : column ≡ length before + 1

-- A fault is the first of the text, and tells the column where it stands: of a character that is no digit, blank or comment's mark,
-- or of a first digit behind which no second one stands.
abbrev pub Tells : List ℕ → TextFault → Type 0
Tells text (NotHexadecimal n) = (s : Stands text n) × (waits (steps start s.before).place ≡ true) × (kind s.here ≡ Other)
Tells text (HalfOctet n) =
    (s : Stands text n) × ((steps start s.before).place ≡ Between) × (is_digit (kind s.here) ≡ true) × (goes_on s.behind ≡ false)

-- Where the characters of a text were read from the line's start on, fewer than a column can count, a fault that is answered is the text's first.
abbrev pub TellsFirst : Reading → Result ℕ TextFault → Type 0
TellsFirst r answer = (text : List ℕ) → r ≡ steps start text → length text < 2 ^ 64 → IfErr answer (Tells text)
