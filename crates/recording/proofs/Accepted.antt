-- What is read without a fault was written so.
use Rattle.std.proofs.Common.{◌≡◌, ℕ, ◌+◌, ◌-◌, ◌*◌, ◌/◌, ◌%◌, ◌<◌, ◌≤◌, true, false, ◌⊎◌, List, [], ◌∷◌, Some, None, Result, is_ok, IsOk, sym, refl, ap, ◌∙◌, subst, inl, inr, ⊎_elim, arith}
use Rattle.std.proofs.lemmas.Bool.Decides.{leb_tells, eqb_tells, nat_tests}
use Rattle.recording.specs.declared.character.Character.{Character}
use Rattle.recording.specs.declared.character.Character.TheVariants.{Digit, Blank, Mark, Other}
use Rattle.recording.specs.declared.fault.TextFault.{TextFault}
use Rattle.recording.specs.declared.fault.TextFault.TheVariants.{NotHexadecimal, HalfOctet}
use Rattle.recording.specs.declared.place.Place.TheVariants.{Faulted}
use Rattle.recording.specs.Lines.{Reading, steps, taken, outcome, kind, joined, next}
use Rattle.recording.specs.Texts.{Blank as Gap, space, tab, carriage_return, blank_character, Case, upper, lower, digit_character, blank, octet, written, IsWritten, ReadsOnly}
use Rattle.recording.proofs.Runs.{digit_kind, blank_kind, between, half, stays}

-- What a character is.
data Known (c : ℕ) : Type 0 where
  a_digit : (k : Case) (d : ℕ) → d < 16 → c ≡ digit_character k d → Known c
  a_blank : (b : Gap) → c ≡ blank_character b → Known c
  a_mark : c ≡ 35 → Known c
  no_such : kind c ≡ Other → Known c

-- A number is within two bounds, or below or above them.
within : (a b c : ℕ) → ((a ≤ c) × (c ≤ b)) ⊎ ((c < a) ⊎ (b < c))
within a b c =
    ⊎_elim (λ low. ⊎_elim (λ high. inl (low.1, high.1)) (λ high. inr (inr high.1)) (leb_tells c b)) (λ low. inr (inl low.1)) (leb_tells a c)

known : (c : ℕ) → Known c
known c =
    ⊎_elim (λ h. a_digit upper (c - 48) (omega (arith, h.0, h.1)) (grind (arith, nat_tests))) (λ no-decimal.
    ⊎_elim (λ h. a_digit upper (c - 55) (omega (arith, h.0, h.1)) (grind (arith, nat_tests))) (λ no-upper.
    ⊎_elim (λ h. a_digit lower (c - 87) (omega (arith, h.0, h.1)) (grind (arith, nat_tests))) (λ no_lower.
    ⊎_elim (λ h. a_blank space h.1) (λ no-space.
    ⊎_elim (λ h. a_blank tab h.1) (λ no-tab.
    ⊎_elim (λ h. a_blank carriage_return h.1) (λ no_return.
    ⊎_elim (λ h. a_mark h.1) (λ no-mark. no_such (grind (arith, nat_tests)))
    (eqb_tells c 35)) (eqb_tells c 13)) (eqb_tells c 9)) (eqb_tells c 32))
    (within 97 102 c)) (within 65 70 c)) (within 48 57 c)

-- The rest of the line has no fault either.
abbrev Clean : Reading → List ℕ → Type 0
Clean r text = IsOk (outcome (steps r text))

-- One character on.
on : (r : Reading) (c : ℕ) (k : Character) (text : List ℕ) → kind c ≡ k → Clean r (c ∷ text) → Clean (taken r k) text
on r c k text e h = subst (λ (x : Character). Clean (taken r x) text) e h

never : false ≡ true → ⊥
never h = cc

-- Behind a fault no line is without one.
refused : (os : List ℕ) (column : ℕ) (f : TextFault) (text : List ℕ) → Clean (record { octets = os; column = column; place = Faulted f }) text → ⊥
refused os column f text h = never (sym (ap is_ok (stays os column f text)) ∙ h)

-- One more blank at the front.
then_blank : (c : ℕ) (b : Gap) (text : List ℕ) → c ≡ blank_character b → IsWritten text → IsWritten (c ∷ text)
then_blank c b text e s = record {
  pieces = blank b ∷ s.pieces;
  comment = s.comment;
  sound = s.sound;
  same = cc (s.same, e);
}

-- One more octet at the front.
then_octet : (a b : ℕ) (k l : Case) (h d : ℕ) (text : List ℕ) → h < 16 → d < 16 → a ≡ digit_character k h → b ≡ digit_character l d →
    IsWritten text → IsWritten (a ∷ b ∷ text)
then_octet a b k l h d text high low first second s =
    let q : (16 * h + d) / 16 ≡ h = omega arith in
    let m : (16 * h + d) % 16 ≡ d = omega arith in
    record {
      pieces = octet k l (16 * h + d) ∷ s.pieces;
      comment = s.comment;
      sound = (omega arith, s.sound);
      same =
          ap (λ (x : ℕ). x ∷ digit_character l ((16 * h + d) % 16) ∷ written s.pieces s.comment) (ap (digit_character k) q ∙ sym first)
          ∙ ap (λ (x : ℕ). a ∷ x ∷ written s.pieces s.comment) (ap (digit_character l) m ∙ sym second)
          ∙ ap (λ (t : List ℕ). a ∷ b ∷ t) s.same;
    }

-- A text without a fault is written, from between two octets on, and from behind a first digit on.
record Accepts (text : List ℕ) : Type 0 where
  from_between : (os : List ℕ) (column : ℕ) → Clean (between os column) text → IsWritten text
  from_half : (os : List ℕ) (column : ℕ) (k : Case) (d a : ℕ) → d < 16 → a ≡ digit_character k d → Clean (half os column d) text → IsWritten (a ∷ text)

accepts_none : Accepts []
accepts_none = record {
  from_between = λ os column h. record { pieces = []; comment = None; sound = tt; same = refl };
  from_half = λ os column k d a low e h. absurd (never h);
}

accepts_more : (c : ℕ) (text : List ℕ) → Accepts text → Accepts (c ∷ text)
accepts_more c text rest = record {
  from_between = λ os column h. elim (known c) [
    | a_digit k d low e ↦ rest.from_half os (next column) k d c low e (on (between os column) c (Digit d) text (ap kind e ∙ digit_kind k d low) h)
    | a_blank b e ↦ then_blank c b text e (rest.from_between os (next column) (on (between os column) c Blank text (ap kind e ∙ blank_kind b) h))
    | a_mark e ↦ record { pieces = []; comment = Some text; sound = tt; same = ap (λ (x : ℕ). x ∷ text) (sym e) }
    | no_such e ↦ absurd (refused os (next column) (NotHexadecimal (next column)) text (on (between os column) c Other text e h))
  ];
  from_half = λ os column k d a low first h. elim (known c) [
    | a_digit l n small e ↦ then_octet a c k l d n text low small first e
        (rest.from_between (joined os (16 * d + n)) (next column) (on (half os column d) c (Digit n) text (ap kind e ∙ digit_kind l n small) h))
    | a_blank b e ↦ absurd (refused os (next column) (HalfOctet column) text (on (half os column d) c Blank text (ap kind e ∙ blank_kind b) h))
    | a_mark e ↦ absurd (refused os (next column) (HalfOctet column) text (on (half os column d) c Mark text (ap kind e) h))
    | no_such e ↦ absurd (refused os (next column) (NotHexadecimal (next column)) text (on (half os column d) c Other text e h))
  ];
}

accepts : (text : List ℕ) → Accepts text
accepts [] = accepts_none
accepts (c ∷ text) = accepts_more c text (accepts text)

pub reads_only : (r : Reading) (answer : Result ℕ TextFault) → answer ≡ outcome r → ReadsOnly r answer
reads_only r answer answered text e clean =
    (accepts text).from_between [] 0 (sym (ap is_ok answered ∙ ap (λ (s : Reading). is_ok (outcome s)) e) ∙ clean)
