-- What a slot line means, and what its memory holds.
use Rattle.std.specs.Prelude.{◌≡◌, ℕ, ◌*◌, ◌<◌, ◌≤◌, cond, List, map, length, take, drop, Ok, Err, Result, ◌==◌, is_ok, slice_index, slice_set}
use Rattle.std.specs.List.{range_with_len}
use Rattle.std.specs.Result.{result_and}
use Rattle.line.specs.Line.{Waiting, put_answer}
use Rattle.line.specs.Memory.{laid, memory_answer}
use Rattle.line.specs.declared.fault.LineFault.{LineFault}
use Rattle.line.specs.declared.fault.LineFault.TheVariants.{Memory}
use Rattle.ring.specs.Ring.{Numbers, Sound, index_of, empty_ring}

-- a slot line: the slots, end to end, the length of the frame in each, and which of them are used
pub record Slots : Type 0 where
  pub store : List ℕ
  pub lengths : List ℕ
  pub ring : Numbers

-- the frame in a slot: so many octets as its length tells, from the slot's start on
abbrev pub slot : List ℕ → List ℕ → ℕ → List ℕ
slot store lengths i = take (slice_index lengths i) (drop (2048 * i) store)

-- the frames in the used slots, oldest first
abbrev pub slots : List ℕ → List ℕ → Numbers → List (List ℕ)
slots store lengths g = map (λ k. slot store lengths (index_of g k)) (range_with_len 0 g.count)

-- the frames in the used slots, and the limit
abbrev pub waiting_in : Slots → Waiting
waiting_in s = record { frames = slots s.store s.lengths s.ring; limit = s.ring.size }

-- each used slot has the length of a frame
abbrev pub FrameLengths : List ℕ → Numbers → Type 0
FrameLengths lengths g = (k : ℕ) → k < g.count → (5 ≤ slice_index lengths (index_of g k)) × (slice_index lengths (index_of g k) ≤ 2048)

-- what holds of every slot line: a slot and a length for each frame that may wait, which are no more than 4,096
pub record IsSlotLine (s : Slots) : Type 0 where
  pub ring : Sound s.ring
  pub most : s.ring.size ≤ 4096
  pub room : length s.store ≡ 2048 * s.ring.size
  pub table : length s.lengths ≡ s.ring.size
  pub sizes : FrameLengths s.lengths s.ring

-- what the making of a line over so many octets and lengths answers: sizes first, then the limit
abbrev pub making_answer : ℕ → ℕ → ℕ → Result (Unit {0}) LineFault
making_answer octets lengths limit = cond (lengths == limit) (memory_answer octets 2048 limit) (Err Memory)

-- the line of that limit in which no frame waits
abbrev pub empty_slots : List ℕ → List ℕ → ℕ → Slots
empty_slots store lengths limit = record { store = store; lengths = lengths; ring = empty_ring limit }

-- making: a line in which no frame waits, over memory that stays as it is
abbrev pub made : List ℕ → List ℕ → ℕ → Result Slots LineFault
made store lengths limit = result_and (making_answer (length store) (length lengths) limit) (Ok (empty_slots store lengths limit))

-- the slot that the next frame goes to
abbrev pub next_slot : Slots → ℕ
next_slot s = index_of s.ring s.ring.count

-- the memory after putting: the frame in its slot and its length in the table, all else as it was; as it was where the
-- frame is refused
abbrev pub store_after : Slots → List ℕ → List ℕ
store_after s f = cond (is_ok (put_answer (waiting_in s) f)) (laid s.store (2048 * next_slot s) f) s.store

abbrev pub lengths_after : Slots → List ℕ → List ℕ
lengths_after s f = cond (is_ok (put_answer (waiting_in s) f)) (slice_set s.lengths (next_slot s) (length f)) s.lengths

-- the memory is as it was
pub record SameMemory (before after : Slots) : Type 0 where
  pub store : after.store ≡ before.store
  pub lengths : after.lengths ≡ before.lengths
