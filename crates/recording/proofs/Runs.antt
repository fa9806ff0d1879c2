-- What runs of characters do to the reading of a line.
use Rattle.std.proofs.Common.{◌≡◌, ℕ, ◌+◌, ◌*◌, ◌<◌, List, [], ◌∷◌, length, Ok, Err, refl, ap, ◌∙◌, arith}
use Rattle.std.proofs.lemmas.Bool.Decides.{nat_tests}
use Rattle.recording.specs.declared.character.Character.{Character}
use Rattle.recording.specs.declared.character.Character.TheVariants.{Digit, Blank}
use Rattle.recording.specs.declared.fault.TextFault.{TextFault}
use Rattle.recording.specs.declared.place.Place.TheVariants.{Between, Half, Comment, Faulted}
use Rattle.recording.specs.Lines.{Reading, steps, taken, outcome, kind, joined, next}
use Rattle.recording.specs.Texts.{Blank as Gap, space, tab, carriage_return, blank_character, Case, upper, lower, digit_character}

-- A digit reads as its value.
pub digit_kind : (k : Case) (d : ℕ) → d < 16 → kind (digit_character k d) ≡ Digit d
digit_kind upper d h = grind (arith, nat_tests)
digit_kind lower d h = grind (arith, nat_tests)

-- A blank reads as a blank.
pub blank_kind : (b : Gap) → kind (blank_character b) ≡ Blank
blank_kind space = refl
blank_kind tab = refl
blank_kind carriage_return = refl

-- A reading between two octets.
abbrev pub between : List ℕ → ℕ → Reading
between os column = record { octets = os; column = column; place = Between }

-- A reading behind the first digit of an octet.
abbrev pub half : List ℕ → ℕ → ℕ → Reading
half os column d = record { octets = os; column = column; place = Half d }

-- Two digits are an octet.
pub two_digits : (os : List ℕ) (column a b h l : ℕ) (text : List ℕ) → kind a ≡ Digit h → kind b ≡ Digit l →
    steps (between os column) (a ∷ b ∷ text) ≡ steps (between (joined os (16 * h + l)) (next (next column))) text
two_digits os column a b h l text first second =
    ap (λ (k : Character). steps (taken (taken (between os column) k) (kind b)) text) first
    ∙ ap (λ (k : Character). steps (taken (half os (next column) h) k) text) second

-- A fault stays to the end of the line.
pub stays : (os : List ℕ) (column : ℕ) (f : TextFault) (text : List ℕ) →
    outcome (steps (record { octets = os; column = column; place = Faulted f }) text) ≡ Err f
stays os column f [] = refl
stays os column f (c ∷ text) = stays os (next column) f text

-- A line that was read to here holds these octets, and has no fault.
pub record Holds (r : Reading) (os : List ℕ) : Type 0 where
  pub same : r.octets ≡ os
  pub clean : outcome r ≡ Ok (length os)

-- A comment changes nothing.
pub comments : (os : List ℕ) (column : ℕ) (text : List ℕ) → Holds (steps (record { octets = os; column = column; place = Comment }) text) os
comments os column [] = record { same = refl; clean = refl }
comments os column (c ∷ text) = comments os (next column) text
