-- Frames end to end, each behind its length.
use Rattle.std.proofs.Common.{◌≡◌, ℕ, zero, suc, ◌+◌, ◌-◌, ◌*◌, ◌/◌, ◌%◌, ◌≤◌, true, List, [], ◌∷◌, ◌++◌, length, take, drop, refl, ap, arith}
use Rattle.std.specs.List.{AllByRecursion}
use Rattle.std.proofs.lemmas.List.{length-drop, length-append, get_or_append_left, length-take-le, take_all, take-append-le, drop-append-le, nil_from_length}
use Rattle.std.proofs.lemmas.Bool.{leb-true, le-leb}
use Rattle.std.proofs.lemmas.Bool.Decides.{nat_tests}
use Rattle.line.specs.Line.{FrameSized}
use Rattle.octet_line.specs.Frames.{told, headed, frames_in, are_frames}

-- what is known of the first of some frames
pub record Front (n : ℕ) (u : List ℕ) : Type 0 where
  pub low : 5 ≤ told u
  pub high : told u ≤ 2048
  pub fits : 2 + told u ≤ length u
  pub rest : are_frames n (drop (2 + told u) u) ≡ true

pub front : (n : ℕ) (u : List ℕ) → are_frames (suc n) u ≡ true → Front n u
front n u w = record { low = grind (arith, nat_tests); high = grind (arith, nat_tests); fits = grind (arith, nat_tests); rest = grind (arith, nat_tests) }

pub back : (n : ℕ) (u : List ℕ) → Front n u → are_frames (suc n) u ≡ true
back n u w = grind (arith, nat_tests)

size_append : (u e : List ℕ) → 2 ≤ length u → told (u ++ e) ≡ told u
size_append u e h = rw (get_or_append_left u e 0 0 (omega arith), get_or_append_left u e 0 1 (omega arith))

size_headed : (f : List ℕ) → told (headed f) ≡ length f
size_headed f = let e : 256 * (length f / 256) + length f % 256 ≡ length f = omega arith in e

-- one frame more at the end
pub push : (n : ℕ) (u f : List ℕ) → are_frames n u ≡ true → FrameSized f → frames_in (suc n) (u ++ headed f) ≡ frames_in n u ++ f ∷ []
push zero u f w s =
    let e : u ≡ [] = nil_from_length u (let z : length u ≤ 0 = leb-true (length u) 0 w in omega arith) in
    rw e (ap (λ (x : List ℕ). x ∷ []) (rw (size_headed f) (take_all (length f) f (omega arith))))
push (suc n) u f w s =
    let a = front n u w in let low = a.low in let fits = a.fits in
    let e : told (u ++ headed f) ≡ told u = size_append u (headed f) (omega arith) in
    let d2 : drop 2 (u ++ headed f) ≡ drop 2 u ++ headed f = drop-append-le 2 u (headed f) (omega arith) in
    let ds : drop (2 + told u) (u ++ headed f) ≡ drop (2 + told u) u ++ headed f = drop-append-le (2 + told u) u (headed f) fits in
    let t : take (told u) (drop 2 u ++ headed f) ≡ take (told u) (drop 2 u) = take-append-le (told u) (drop 2 u) (headed f) (rw length-drop (omega arith)) in
    let ih = push n (drop (2 + told u) u) f a.rest s in
    rw (e, d2, ds, t, ih) refl

pub frames_pushed : (n : ℕ) (u f : List ℕ) → are_frames n u ≡ true → FrameSized f → are_frames (suc n) (u ++ headed f) ≡ true
frames_pushed zero u f w s =
    let e : u ≡ [] = nil_from_length u (let z : length u ≤ 0 = leb-true (length u) 0 w in omega arith) in
    let h = size_headed f in
    rw e (back 0 (headed f) (record { low = rw h s.0; high = rw h s.1; fits = rw h (omega arith); rest = le-leb (length (drop (2 + told (headed f)) (headed f))) 0 (rw (length-drop, h) (omega arith)) }))
frames_pushed (suc n) u f w s =
    let a = front n u w in let low = a.low in let fits = a.fits in
    let e : told (u ++ headed f) ≡ told u = size_append u (headed f) (omega arith) in
    let ds : drop (2 + told u) (u ++ headed f) ≡ drop (2 + told u) u ++ headed f = drop-append-le (2 + told u) u (headed f) fits in
    back (suc n) (u ++ headed f) (record { low = rw e a.low; high = rw e a.high; fits = rw (e, length-append) (omega arith); rest = rw (e, ds) (frames_pushed n (drop (2 + told u) u) f a.rest s) })

pub frames_short : (n : ℕ) (u : List ℕ) → are_frames n u ≡ true → length u ≤ 2050 * n
frames_short zero u w = leb-true (length u) 0 w
frames_short (suc n) u w =
    let a = front n u w in let high = a.high in let fits = a.fits in
    let ih = rw length-drop at (frames_short n (drop (2 + told u) u) a.rest) in omega arith

pub frames_count : (n : ℕ) (u : List ℕ) → length (frames_in n u) ≡ n
frames_count zero u = refl
frames_count (suc n) u = ap suc (frames_count n (drop (2 + told u) u))

pub frames_framed : (n : ℕ) (u : List ℕ) → are_frames n u ≡ true → AllByRecursion FrameSized (frames_in n u)
frames_framed zero u w = tt
frames_framed (suc n) u w =
    let a = front n u w in let fits = a.fits in
    let e : length (take (told u) (drop 2 u)) ≡ told u = length-take-le (told u) (drop 2 u) (rw length-drop (omega arith)) in
    ((rw e a.low, rw e a.high), frames_framed n (drop (2 + told u) u) a.rest)

-- the first frame and the rest, for a count that is not 0
pub frames_pop : (n : ℕ) (u : List ℕ) → 1 ≤ n → frames_in n u ≡ take (told u) (drop 2 u) ∷ frames_in (n - 1) (drop (2 + told u) u)
frames_pop zero u h = absurd (omega arith)
frames_pop (suc n) u h = let e : suc n - 1 ≡ n = omega arith in rw e refl

pub front_of : (n : ℕ) (u : List ℕ) → 1 ≤ n → are_frames n u ≡ true → Front (n - 1) u
front_of zero u h w = absurd (omega arith)
front_of (suc n) u h w = let e : suc n - 1 ≡ n = omega arith in rw e (front n u w)
