-- How a line shows what putting and taking do to its meaning, and what a caller learns from it.
use Rattle.std.proofs.Common.{◌≡◌, ℕ, ◌-◌, ◌<◌, ◌≤◌, Bool, true, false, leb, List, [], ◌∷◌, ◌++◌, length, take, drop, Some, None, Ok, Err, Option, Result, refl, ap, subst, inl, arith}
use Rattle.std.proofs.lemmas.List.{take_at}
use Rattle.std.proofs.lemmas.Bool.{le-leb, lt-leb, eq-eqb, ne_eqb, and_from}
use Rattle.bits.specs.Codec.{beginning}
use Rattle.std.specs.Result.{result_and}
use Rattle.line.specs.declared.fault.LineFault.{LineFault}
use Rattle.line.specs.declared.fault.LineFault.TheVariants.{Full, Memory}
use Rattle.line.specs.Line.{Waiting, FrameSized, frame_sized, Sound, put_answer, roomy, Puts, Takes}
use Rattle.line.specs.Transfer.{Transfers}

sized : (f : List ℕ) → FrameSized f → frame_sized f ≡ true
sized f h = and_from (leb 5 (length f)) (leb (length f) 2048) (le-leb 5 (length f) h.0) (le-leb (length f) 2048 h.1)

-- a full line refuses
pub puts_full : (may : Bool → Type 0) (w : Waiting) (f : List ℕ) → FrameSized f → length w.frames ≡ w.limit → Puts may w w f (Err Full)
puts_full may w f s e = record { limit = refl; answer = rw (sized f s, eq-eqb (length w.frames) w.limit e); list = refl }

-- a line with room has the frame last
pub puts_last : (may : Bool → Type 0) (w w' : Waiting) (f : List ℕ) → FrameSized f → (length w.frames ≡ w.limit → ⊥) → w'.limit ≡ w.limit → w'.frames ≡ w.frames ++ f ∷ [] → may false → Puts may w w' f (Ok tt)
puts_last may w w' f s e l j m = record { limit = l; answer = rw (sized f s, ne_eqb (length w.frames) w.limit e); list = inl (m, j) }

-- taking with too small a buffer, from an empty line, and the oldest frame
pub takes_short : (w : Waiting) (b : List ℕ) → Sound w → length b < 2048 → Takes w w b b (Err Memory)
takes_short w b ok h = let t = lt-leb 2048 (length b) h in record { sound = ok; limit = refl; answer = rw t; list = rw t; octets = rw t }

pub takes_none : (w : Waiting) (b : List ℕ) → Sound w → 2048 ≤ length b → w.frames ≡ [] → Takes w w b b (Ok None)
takes_none w b ok h e = let t = le-leb 2048 (length b) h in record { sound = ok; limit = refl; answer = rw (t, e); list = rw (t, e); octets = rw (t, e) }

pub takes_oldest : (w w' : Waiting) (b d f : List ℕ) (fs : List (List ℕ)) (n : ℕ) → Sound w → 2048 ≤ length b → w.frames ≡ f ∷ fs → w'.frames ≡ fs → w'.limit ≡ w.limit → d ≡ beginning f b → n ≡ length f → Takes w w' b d (Ok (Some n))
takes_oldest w w' b d f fs n ok h e e' l o m = let t = le-leb 2048 (length b) h in record { sound = ok; limit = l; answer = rw (t, e, m); list = rw (t, e, e'); octets = rw (t, e, o) }

-- what a caller knows once a frame was taken
pub record Taken (w : Waiting) (b d : List ℕ) (n : ℕ) : Type 0 where
  pub first : List ℕ
  pub rest : List (List ℕ)
  pub frames : w.frames ≡ first ∷ rest
  pub size : n ≡ length first
  pub framed : FrameSized first
  pub room : roomy b ≡ true
  pub octets : take n d ≡ first

taken_by : (w w' : Waiting) (b d : List ℕ) (n : ℕ) (fs : List (List ℕ)) (t : Bool) → w.frames ≡ fs → roomy b ≡ t → Takes w w' b d (Ok (Some n)) → Taken w b d n
taken_by w w' b d n fs false e v t = let a = rw v at t.answer in let z : ◌≡◌ {A = ℕ} 0 1 = cc in absurd (omega arith)
taken_by w w' b d n [] true e v t = let a = rw (v, e) at t.answer in let z : ◌≡◌ {A = ℕ} 0 1 = cc in absurd (omega arith)
taken_by w w' b d n (f ∷ fs) true e v t =
    let a = rw (v, e) at t.answer in
    let s : n ≡ length f = cc in
    let o : d ≡ beginning f b = rw (v, e) at t.octets in
    record { first = f; rest = fs; frames = e; size = s; framed = (rw e at t.sound.each).0; room = v; octets = rw (o, s) (take_at f (drop (length f) b) (length f) refl) }

pub taken : (w w' : Waiting) (b d : List ℕ) (n : ℕ) → Takes w w' b d (Ok (Some n)) → Taken w b d n
taken w w' b d n t = taken_by w w' b d n w.frames (roomy b) refl refl t

-- a frame that was taken and granted was passed on
pub passed_on : (may : List ℕ → Bool → Type 0) (a a' t t' : Waiting) (b d : List ℕ) (n : ℕ) (q : Result (Option ℕ) LineFault) (p : Result (Unit {0}) LineFault) → Takes a a' b d q → q ≡ Ok (Some n) → Puts (may (take (n - 0) d)) t t' (take (n - 0) d) p → p ≡ Ok tt → Transfers may a a' t t' b d (Ok (Some n))
passed_on may a a' t t' b d n q p took qe put pe =
    let k = taken a a' b d n (rw qe at took) in
    let e : n - 0 ≡ n = omega arith in
    let put' : Puts (may k.first) t t' k.first (Ok tt) = rw (e, k.octets, pe) at put in
    let passes : Puts (may k.first) t t' k.first (put_answer t k.first) × (Ok (Some n) ≡ result_and (put_answer t k.first) (Ok (Some (length k.first)))) =
    subst (λ (r : Result (Unit {0}) LineFault). Puts (may k.first) t t' k.first r × (◌≡◌ {A = Result (Option ℕ) LineFault} (Ok (Some n)) (result_and r (Ok (Some (length k.first)))))) put'.answer (put', ap (λ m. Ok (Some m)) k.size)
    in
    record { limit = took.limit; leaves = took.list; octets = took.octets; passes = rw (k.room, k.frames) passes }
