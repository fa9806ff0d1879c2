-- Frames end to end in a ring of octets, each behind two octets that tell its length.
use Rattle.std.specs.Prelude.{ℕ, zero, suc, ◌+◌, ◌-◌, ◌*◌, ◌/◌, ◌%◌, Bool, ◌&&◌, List, [], ◌∷◌, ◌++◌, length, take, drop, nat_le, slice_index}
use Rattle.line.specs.Memory.{laid}
use Rattle.ring.specs.Ring.{Numbers, index_of}

-- octets laid from a place on, and at the ring's start what is past its end
abbrev pub laid_round : List ℕ → ℕ → List ℕ → List ℕ
laid_round ring at o = laid (laid ring at (take (length ring - at) o)) 0 (drop (length ring - at) o)

-- the length that the first two octets tell
abbrev pub told : List ℕ → ℕ
told u = 256 * slice_index u 0 + slice_index u 1

-- the two octets that tell a length
abbrev pub telling : ℕ → List ℕ
telling n = n / 256 ∷ n % 256 ∷ []

-- a frame behind its two length octets
abbrev pub headed : List ℕ → List ℕ
headed f = telling (length f) ++ f

-- a ring after a frame was laid behind the used octets
abbrev pub frame_laid : List ℕ → Numbers → List ℕ → List ℕ
frame_laid ring g f = laid_round (laid_round ring (index_of g g.count) (telling (length f))) (index_of g (g.count + 2)) f

-- so many frames, read off octets
abbrev pub frames_in : ℕ → List ℕ → List (List ℕ)
frames_in zero u = []
frames_in (suc n) u = take (told u) (drop 2 u) ∷ frames_in n (drop (2 + told u) u)

-- whether octets are so many frames and nothing more
abbrev pub are_frames : ℕ → List ℕ → Bool
are_frames zero u = nat_le (length u) 0
are_frames (suc n) u = (nat_le 5 (told u) && nat_le (told u) 2048) && (nat_le (2 + told u) (length u) && are_frames n (drop (2 + told u) u))
