-- What an octet line means, and what its memory holds.
use Rattle.std.specs.Prelude.{◌≡◌, ℕ, ◌*◌, ◌≤◌, cond, true, List, length, Ok, Result, is_ok}
use Rattle.std.specs.Result.{result_and}
use Rattle.line.specs.Line.{Waiting, put_answer}
use Rattle.line.specs.Memory.{memory_answer}
use Rattle.line.specs.declared.fault.LineFault.{LineFault}
use Rattle.octet_line.specs.Frames.{frame_laid, frames_in, are_frames}
use Rattle.ring.specs.Ring.{Numbers, Sound, queued, empty_ring}

-- an octet line: its lent memory, which octets of it are used, how many frames these are, and how many may wait
pub record Octets : Type 0 where
  pub octets : List ℕ
  pub ring : Numbers
  pub count : ℕ
  pub limit : ℕ

-- the used octets, from the oldest frame's first on
abbrev pub used_in : Octets → List ℕ
used_in s = queued s.ring s.octets

-- the frames in the used octets, and the limit
abbrev pub waiting_in : Octets → Waiting
waiting_in s = record { frames = frames_in s.count (used_in s); limit = s.limit }

-- what holds of every octet line: room for as many of the longest frames as may wait, which are no more than 4,096, and
-- in the used octets the frames that wait and nothing more
pub record IsOctetLine (s : Octets) : Type 0 where
  pub ring : Sound s.ring
  pub most : s.limit ≤ 4096
  pub few : s.count ≤ s.limit
  pub size : s.ring.size ≡ 2050 * s.limit
  pub room : length s.octets ≡ s.ring.size
  pub whole : are_frames s.count (used_in s) ≡ true

-- what the making of a line over so many octets answers: the size first, then the limit
abbrev pub making_answer : ℕ → ℕ → Result (Unit {0}) LineFault
making_answer octets limit = memory_answer octets 2050 limit

-- the line of that limit in which no frame waits
abbrev pub empty_octets : List ℕ → ℕ → Octets
empty_octets octets limit = record { octets = octets; ring = empty_ring (2050 * limit); count = 0; limit = limit }

-- making: a line in which no frame waits, over memory that stays as it is
abbrev pub made : List ℕ → ℕ → Result Octets LineFault
made octets limit = result_and (making_answer (length octets) limit) (Ok (empty_octets octets limit))

-- the ring after putting: the frame laid behind the used octets, all others as they were; as it was where the frame is
-- refused
abbrev pub ring_after : Octets → List ℕ → List ℕ
ring_after s f = cond (is_ok (put_answer (waiting_in s) f)) (frame_laid s.octets s.ring f) s.octets
