-- An answer tells of the first fault of a line.
use Rattle.std.proofs.Common.{◌≡◌, ℕ, suc, ◌+◌, ◌*◌, ◌^◌, ◌<◌, List, [], ◌∷◌, ◌++◌, length, Result, IfErr, sym, refl, ap, ◌∙◌, subst, append_assoc, arith, length-append}
use Rattle.std.proofs.lemmas.List.Sums.{fold-append}
use Rattle.recording.specs.declared.character.Character.{Character}
use Rattle.recording.specs.declared.character.Character.TheVariants.{Digit, Blank, Mark, Other}
use Rattle.recording.specs.declared.fault.TextFault.{TextFault}
use Rattle.recording.specs.declared.fault.TextFault.TheVariants.{NotHexadecimal, HalfOctet}
use Rattle.recording.specs.Lines.{Reading, start, steps, step, taken, outcome, kind, joined, next}
use Rattle.recording.specs.Faults.{is_digit, waits, Tells, TellsFirst}
use Rattle.recording.proofs.Runs.{between, half, two_digits, stays, comments}

-- What an answer tells of a text: an answer without a fault tells of none.
abbrev AnswersFor : List ℕ → Result ℕ TextFault → Type 0
AnswersFor text answer = IfErr answer (Tells text)

-- One character on, what it means being known.
read_on : (front : List ℕ) (r : Reading) (c : ℕ) (k : Character) → steps start front ≡ r → kind c ≡ k → steps start (front ++ c ∷ []) ≡ taken r k
read_on front r c k e means = fold-append step start front (c ∷ []) ∙ ap (λ (s : Reading). step s c) e ∙ ap (taken r) means

-- What the rest of a line tells, from between two octets on and from behind a first digit on.
record Rest (rest : List ℕ) : Type 0 where
  from_between : (front os : List ℕ) (column : ℕ) → steps start front ≡ between os column → column ≡ length front →
      length front + length rest < 2 ^ 64 → AnswersFor (front ++ rest) (outcome (steps (between os column) rest))
  from_half : (front os : List ℕ) (column a d : ℕ) → steps start front ≡ between os column → kind a ≡ Digit d → column ≡ length front →
      length front + suc (length rest) < 2 ^ 64 → AnswersFor (front ++ a ∷ rest) (outcome (steps (half os (next column) d) rest))

no_rest : Rest []
no_rest = record {
  from_between = λ front os column e counts few. tt;
  from_half = λ front os column a d e means counts few.
      (record { before = front; here = a; behind = []; same = refl; counts = omega arith }, ap (λ (r : Reading). r.place) e, ap is_digit means, refl);
}

between_on : (c : ℕ) (rest : List ℕ) → Rest rest → (k : Character) → kind c ≡ k → (front os : List ℕ) (column : ℕ) →
    steps start front ≡ between os column → column ≡ length front → length front + suc (length rest) < 2 ^ 64 →
    AnswersFor (front ++ c ∷ rest) (outcome (steps (taken (between os column) k) rest))
between_on c rest later (Digit d) means front os column e counts few = later.from_half front os column c d e means counts few
between_on c rest later Blank means front os column e counts few =
    subst (λ (t : List ℕ). AnswersFor t (outcome (steps (between os (next column)) rest))) (append_assoc front (c ∷ []) rest)
    (later.from_between (front ++ c ∷ []) os (next column) (read_on front (between os column) c Blank e means) (simp length-append (omega arith)) (simp length-append (omega arith)))
between_on c rest later Mark means front os column e counts few =
    subst (λ (l : Result ℕ TextFault). AnswersFor (front ++ c ∷ rest) l) (sym (comments os (next column) rest).clean) tt
between_on c rest later Other means front os column e counts few =
    subst (λ (l : Result ℕ TextFault). AnswersFor (front ++ c ∷ rest) l) (sym (stays os (next column) (NotHexadecimal (next column)) rest))
    (record { before = front; here = c; behind = rest; same = refl; counts = omega arith }, ap (λ (r : Reading). waits r.place) e, means)

half_on : (c : ℕ) (rest : List ℕ) → Rest rest → (k : Character) → kind c ≡ k → (front os : List ℕ) (column a d : ℕ) →
    steps start front ≡ between os column → kind a ≡ Digit d → column ≡ length front → length front + suc (suc (length rest)) < 2 ^ 64 →
    AnswersFor (front ++ a ∷ c ∷ rest) (outcome (steps (taken (half os (next column) d) k) rest))
half_on c rest later (Digit n) second front os column a d e first counts few =
    subst (λ (t : List ℕ). AnswersFor t (outcome (steps (between (joined os (16 * d + n)) (next (next column))) rest))) (append_assoc front (a ∷ c ∷ []) rest)
    (later.from_between (front ++ a ∷ c ∷ []) (joined os (16 * d + n)) (next (next column))
    (fold-append step start front (a ∷ c ∷ []) ∙ ap (λ (s : Reading). steps s (a ∷ c ∷ [])) e ∙ two_digits os column a c d n [] first second)
    (simp length-append (omega arith)) (simp length-append (omega arith)))
half_on c rest later Blank means front os column a d e first counts few =
    subst (λ (l : Result ℕ TextFault). AnswersFor (front ++ a ∷ c ∷ rest) l) (sym (stays os (next (next column)) (HalfOctet (next column)) rest))
    (record { before = front; here = a; behind = c ∷ rest; same = refl; counts = omega arith }, ap (λ (r : Reading). r.place) e, ap is_digit first, ap is_digit means)
half_on c rest later Mark means front os column a d e first counts few =
    subst (λ (l : Result ℕ TextFault). AnswersFor (front ++ a ∷ c ∷ rest) l) (sym (stays os (next (next column)) (HalfOctet (next column)) rest))
    (record { before = front; here = a; behind = c ∷ rest; same = refl; counts = omega arith }, ap (λ (r : Reading). r.place) e, ap is_digit first, ap is_digit means)
half_on c rest later Other means front os column a d e first counts few =
    subst (λ (l : Result ℕ TextFault). AnswersFor (front ++ a ∷ c ∷ rest) l) (sym (stays os (next (next column)) (NotHexadecimal (next (next column))) rest)) (
      record { before = front ++ a ∷ []; here = c; behind = rest; same = append_assoc front (a ∷ []) (c ∷ rest); counts = simp length-append (omega arith) },
      ap (λ (r : Reading). waits r.place) (read_on front (between os column) a (Digit d) e first),
      means,
    )

rests : (rest : List ℕ) → Rest rest
rests [] = no_rest
rests (c ∷ rest) = record {
  from_between = between_on c rest (rests rest) (kind c) refl;
  from_half = half_on c rest (rests rest) (kind c) refl;
}

pub tells_first : (r : Reading) (answer : Result ℕ TextFault) → answer ≡ outcome r → TellsFirst r answer
tells_first r answer answered text e few =
    subst (AnswersFor text) (sym (answered ∙ ap outcome e)) ((rests text).from_between [] [] 0 refl refl (omega arith))
