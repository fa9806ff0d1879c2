-- Reading gives back what was written.
use Rattle.std.proofs.Common.{◌≡◌, ℕ, suc, ◌+◌, ◌*◌, ◌/◌, ◌%◌, ◌≤◌, List, [], ◌∷◌, ◌++◌, length, take, Some, None, Option, Result, sym, refl, ap, ◌∙◌, subst, ⊎_elim, append_assoc, append-nil, fold, arith, length-append, take_all}
use Rattle.std.proofs.lemmas.List.{take-append-le}
use Rattle.std.proofs.lemmas.Bool.Decides.{leb_tells}
use Rattle.recording.specs.declared.fault.TextFault.{TextFault}
use Rattle.recording.specs.declared.place.Place.TheVariants.{Between}
use Rattle.recording.specs.Lines.{Reading, steps, told, outcome, joined, next}
use Rattle.recording.specs.Texts.{space, tab, carriage_return, digit_character, Piece, blank, octet, written, octets_of, Sound, ReadsBack}
use Rattle.recording.proofs.Runs.{digit_kind, between, two_digits, Holds, comments}

-- From between two octets on, each piece adds its octet.
adds : (os : List ℕ) (column : ℕ) (ps : List Piece) (comment : Option (List ℕ)) → Sound ps →
    Holds (steps (between os column) (written ps comment)) (fold joined os (octets_of ps))
adds os column [] None h = record { same = refl; clean = refl }
adds os column [] (Some text) h = comments os (next column) text
adds os column (blank space ∷ ps) comment h = adds os (next column) ps comment h
adds os column (blank tab ∷ ps) comment h = adds os (next column) ps comment h
adds os column (blank carriage_return ∷ ps) comment h = adds os (next column) ps comment h
adds os column (octet k l o ∷ ps) comment h =
    let whole : 16 * (o / 16) + o % 16 ≡ o = omega arith in
    let both = two_digits os column (digit_character k (o / 16)) (digit_character l (o % 16)) (o / 16) (o % 16) (written ps comment) (digit_kind k (o / 16) (omega (arith, h.0))) (digit_kind l (o % 16) (omega arith)) in
    let read = both ∙ ap (λ (n : ℕ). steps (between (joined os n) (next (next column))) (written ps comment)) whole in
    subst (λ (r : Reading). Holds r (fold joined (joined os o) (octets_of ps))) (sym read) (adds (joined os o) (next (next column)) ps comment h.1)

-- Stored one by one, the first 2,049 octets are kept.
fold-joined : (os xs : List ℕ) → length os ≤ 2049 → fold joined os xs ≡ take 2049 (os ++ xs)
fold-joined os [] h = sym (ap (take 2049) (append-nil os) ∙ take_all 2049 os h)
fold-joined os (x ∷ xs) h =
    ⊎_elim
    (λ room.
    let grown : joined os x ≡ os ++ x ∷ [] = rw room.0 refl in
    let few : length (os ++ x ∷ []) ≤ 2049 = simp length-append (omega (arith, room.1)) in
    ap (λ (l : List ℕ). fold joined l xs) grown ∙ fold-joined (os ++ x ∷ []) xs few ∙ ap (take 2049) (append_assoc os (x ∷ []) xs))
    (λ full.
    let kept : joined os x ≡ os = rw full.0 refl in
    let long : 2049 ≤ length os = omega (arith, full.1) in
    ap (λ (l : List ℕ). fold joined l xs) kept ∙ fold-joined os xs h ∙ take-append-le 2049 os xs long ∙ sym (take-append-le 2049 os (x ∷ xs) long))
    (leb_tells (suc (length os)) 2049)

pub reads_back : (r : Reading) (answer : Result ℕ TextFault) (octets : List ℕ) → answer ≡ outcome r → octets ≡ r.octets → ReadsBack r answer octets
reads_back r answer octets answered same ps comment sound e =
    let held = adds [] 0 ps comment sound in
    let kept = fold-joined [] (octets_of ps) (omega arith) in
    (same ∙ ap (λ (s : Reading). s.octets) e ∙ held.same ∙ kept, answered ∙ ap outcome e ∙ held.clean ∙ ap (λ (l : List ℕ). told (length l) 0 Between) kept)
