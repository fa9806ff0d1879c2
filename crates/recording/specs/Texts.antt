-- Lines of octets as they are written, and the law that reading gives back what was written.
use Rattle.std.specs.Prelude.{◌≡◌, ℕ, ◌+◌, ◌-◌, ◌/◌, ◌%◌, ◌<◌, cond, List, [], ◌∷◌, length, take, Some, None, Option, Ok, Result, IsOk, nat_lt}
use Rattle.recording.specs.declared.fault.TextFault.{TextFault}
use Rattle.recording.specs.Lines.{Reading, start, steps}

-- The blanks that may stand before, between and after octets.
pub data Blank : Type 0 where
  space : Blank
  tab : Blank
  carriage_return : Blank

-- The character of a blank.
abbrev pub blank_character : Blank → ℕ
blank_character space = 32
blank_character tab = 9
blank_character carriage_return = 13

-- The case of a digit from A on.
pub data Case : Type 0 where
  upper : Case
  lower : Case

-- The character of the digit A in a case.
abbrev pub ten : Case → ℕ
ten upper = 65
ten lower = 97

-- The character of a digit.
abbrev pub digit_character : Case → ℕ → ℕ
digit_character k d = cond (nat_lt d 10) (48 + d) (ten k + (d - 10))

-- A piece of a line: a blank, or an octet with the case of its two digits.
pub data Piece : Type 0 where
  blank : Blank → Piece
  octet : Case → Case → ℕ → Piece

-- The characters of a line: its pieces, and then a comment, if it has one.
abbrev pub written : List Piece → Option (List ℕ) → List ℕ
written [] None = []
written [] (Some comment) = 35 ∷ comment
written (blank b ∷ ps) comment = blank_character b ∷ written ps comment
written (octet h l o ∷ ps) comment = digit_character h (o / 16) ∷ digit_character l (o % 16) ∷ written ps comment

-- The octets among the pieces.
abbrev pub octets_of : List Piece → List ℕ
octets_of [] = []
octets_of (blank b ∷ ps) = octets_of ps
octets_of (octet h l o ∷ ps) = o ∷ octets_of ps

-- Each octet is one: below 256.
abbrev pub Sound : List Piece → Type 0
Sound [] = Unit {0}
Sound (blank b ∷ ps) = Sound ps
Sound (octet h l o ∷ ps) = (o < 256) × Sound ps

-- Reading gives back what was written: where the characters of a written line were read from the line's start on,
-- the octets are the line's, the first 2,049 of them if it has more, and the answer is how many.
abbrev pub ReadsBack : Reading → Result ℕ TextFault → List ℕ → Type 0
ReadsBack r answer octets =
    (ps : List Piece) (comment : Option (List ℕ)) → Sound ps → r ≡ steps start (written ps comment) →
    (octets ≡ take 2049 (octets_of ps)) × (answer ≡ Ok (length (take 2049 (octets_of ps))))

-- A text that is a written line, with its pieces and its comment.
pub record IsWritten (text : List ℕ) : Type 0 where
  pub pieces : List Piece
  pub comment : Option (List ℕ)
  pub sound : Sound pieces
  pub same : written pieces comment ≡ text

-- Nothing else is read without a fault: where the answer tells of none, the characters that were read are those of a written line.
abbrev pub ReadsOnly : Reading → Result ℕ TextFault → Type 0
ReadsOnly r answer = (text : List ℕ) → r ≡ steps start text → IsOk answer → IsWritten text
