-- A line of a recording: what each character does, and what the line held when it ends.
use Rattle.std.specs.Prelude.{ℕ, ◌+◌, ◌-◌, ◌*◌, ◌^◌, min, cond, ◌&&◌, ◌||◌, List, [], ◌∷◌, ◌++◌, length, Some, None, Option, Ok, Err, Result, ◌==◌, nat_le, nat_lt}
use Rattle.std.specs.List.{fold}
use Rattle.recording.specs.declared.character.Character.{Character}
use Rattle.recording.specs.declared.character.Character.TheVariants.{Digit, Blank, Mark, Other}
use Rattle.recording.specs.declared.place.Place.{Place}
use Rattle.recording.specs.declared.place.Place.TheVariants.{Between, Half, Comment, Faulted}
use Rattle.recording.specs.declared.fault.TextFault.{TextFault}
use Rattle.recording.specs.declared.fault.TextFault.TheVariants.{NotHexadecimal, HalfOctet}

-- What a character means: digits 0 to 9, A to F and a to f; space, tab and carriage return; the number sign.
abbrev pub kind : ℕ → Character
kind c =
    cond (nat_le 48 c && nat_le c 57) (Digit (c - 48))
    (cond (nat_le 65 c && nat_le c 70) (Digit (c - 55))
    (cond (nat_le 97 c && nat_le c 102) (Digit (c - 87))
    (cond (c == 32 || (c == 9 || c == 13)) Blank
    (cond (c == 35) Mark Other))))

-- The next column: it stays at the largest number that 64 bits hold.
abbrev pub next : ℕ → ℕ
next column = min (column + 1) (2 ^ 64 - 1)

-- Where a line stands after a character that has so many before it.
-- A lone digit is told of by its own column, any other fault by the column of the character.
abbrev pub after : ℕ → Place → Character → Place
after column Between (Digit d) = Half d
after column Between Blank = Between
after column Between Mark = Comment
after column Between Other = Faulted (NotHexadecimal (next column))
after column (Half h) (Digit d) = Between
after column (Half h) Blank = Faulted (HalfOctet column)
after column (Half h) Mark = Faulted (HalfOctet column)
after column (Half h) Other = Faulted (NotHexadecimal (next column))
after column Comment k = Comment
after column (Faulted f) k = Faulted f

-- The octet that a character finishes: a second digit does.
abbrev pub finished : Place → Character → Option ℕ
finished Between k = None
finished (Half h) (Digit d) = Some (16 * h + d)
finished (Half h) Blank = None
finished (Half h) Mark = None
finished (Half h) Other = None
finished Comment k = None
finished (Faulted f) k = None

-- One more octet behind the others: the first 2,049 are stored.
abbrev pub joined : List ℕ → ℕ → List ℕ
joined octets o = cond (nat_lt (length octets) 2049) (octets ++ o ∷ []) octets

-- The octets with the one that was finished, if any.
abbrev pub extended : List ℕ → Option ℕ → List ℕ
extended octets None = octets
extended octets (Some o) = joined octets o

-- The reading of a line: its octets so far, how many characters were read, and where it stands.
pub record Reading : Type 0 where
  pub octets : List ℕ
  pub column : ℕ
  pub place : Place

-- What was recorded: the line under way, and the octets of the line that has just ended, until the next one begins.
pub record Recorded : Type 0 where
  pub reading : Reading
  pub latest : List ℕ

-- Before the first character of a line.
abbrev pub start : Reading
start = record { octets = []; column = 0; place = Between }

-- After one more character, by what it means.
abbrev pub taken : Reading → Character → Reading
taken r k = record {
  octets = extended r.octets (finished r.place k);
  column = next r.column;
  place = after r.column r.place k;
}

-- After one more character.
abbrev pub step : Reading → ℕ → Reading
step r c = taken r (kind c)

-- After the characters of a text.
abbrev pub steps : Reading → List ℕ → Reading
steps = fold step

-- What a line held, by how many octets are stored, how many characters were read, and where it ended.
abbrev pub told : ℕ → ℕ → Place → Result ℕ TextFault
told n column Between = Ok n
told n column (Half h) = Err (HalfOctet column)
told n column Comment = Ok n
told n column (Faulted f) = Err f

-- What a line held that ends here.
abbrev pub outcome : Reading → Result ℕ TextFault
outcome r = told (length r.octets) r.column r.place
