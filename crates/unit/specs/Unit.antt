-- The units that a queue of slips and a store stand for.
use Rattle.std.specs.Prelude.{◌≡◌, ℕ, ◌+◌, ◌*◌, min, Bool, cond, ◌&&◌, List, [], ◌∷◌, ◌++◌, map, length, take, drop, is_ok, Some, None, Ok, Err, Option, Result, ◌==◌, nat_le, nat_lt, slice_get, slice_set}
use Rattle.std.specs.List.{enumerate_from}
use Rattle.std.specs.Option.{option_map}
use Rattle.bits.specs.Codec.{beginning}
use Rattle.frame.specs.declared.header.Quality.{Quality}
use Rattle.line.specs.Memory.{laid}
use Rattle.queue.specs.Queue.{fitting}
use Rattle.ring.specs.Ring.{Numbers, queued, index_of, grown, without}
use Rattle.unit.specs.Note.{Note}
use Rattle.unit.specs.declared.fault.UnitFault.{UnitFault}
use Rattle.unit.specs.declared.fault.UnitFault.TheVariants.{Unit, Full, Memory}

-- a unit: its port, its quality and its octets
pub record UnitValue : Type 0 where
  pub port : ℕ
  pub quality : Quality
  pub octets : List ℕ

-- what is noted of a unit beside its octets
abbrev pub note_of : UnitValue → Note
note_of u = record { port = u.port; quality = u.quality; length = length u.octets }

-- for how many octets a slip stands: as many as its length says, and that is 2,043 at most
abbrev pub slip_octets : Note → ℕ
slip_octets s = min s.length 2043

-- what of the store a unit at a table index may fill: 2,043 octets, from 2,048 times the index on
abbrev pub slot : List ℕ → ℕ → List ℕ
slot store i = take 2043 (drop (2048 * i) store)

-- the unit of the slip at a table index: its octets stand first in the index's slot
abbrev pub unit_at : List ℕ → ℕ → Note → UnitValue
unit_at store i s = record { port = s.port; quality = s.quality; octets = take s.length (slot store i) }

-- the units of all slips of a table
abbrev pub all_units : List Note → List ℕ → List UnitValue
all_units slips store = map (λ p. unit_at store p.0 p.1) (enumerate_from 0 slips)

-- the units that are queued, oldest first
abbrev pub units_in : Numbers → List Note → List ℕ → List UnitValue
units_in g slips store = queued g (all_units slips store)

-- the memory of a queue of units: a table of the queue's size, and a store of 2,048 octets for each of its slips
abbrev pub memory_fits : Numbers → List Note → List ℕ → Bool
memory_fits g slips store = fitting g slips && length store == 2048 * g.size

-- a unit has 1 to 2,043 octets and a port up to 7
abbrev pub is_unit : UnitValue → Bool
is_unit u = (nat_le 1 (length u.octets) && nat_le (length u.octets) 2043) && nat_le u.port 7

-- what queueing a unit answers: the memory, then the unit, then room; else the count after it
abbrev pub hold_answer : Numbers → List Note → List ℕ → UnitValue → Result ℕ UnitFault
hold_answer g slips store u =
    cond (memory_fits g slips store)
    (cond (is_unit u)
    (cond (nat_lt g.count g.size) (Ok (g.count + 1)) (Err Full))
    (Err Unit))
    (Err Memory)

-- queueing a unit: it stands behind the others; its slip is at one index of the table and its octets are in the store
-- where this index tells, and all else is as it was; a refusal changes nothing
pub record Holds (g g' : Numbers) (slips slips' : List Note) (store store' : List ℕ) (u : UnitValue) (r : Result ℕ UnitFault) : Type 0 where
  pub answer : r ≡ hold_answer g slips store u
  pub numbers : g' ≡ cond (is_ok r) (grown 1 g) g
  pub table : slips' ≡ cond (is_ok r) (slice_set slips (index_of g g.count) (note_of u)) slips
  pub octets : store' ≡ cond (is_ok r) (laid store (2048 * index_of g g.count) u.octets) store
  pub units : units_in g' slips' store' ≡ cond (is_ok r) (units_in g slips store ++ u ∷ []) (units_in g slips store)

-- a buffer with the octets of a unit at its beginning, if there is one
abbrev pub unit_shown : Option UnitValue → List ℕ → List ℕ
unit_shown None buffer = buffer
unit_shown (Some u) buffer = beginning u.octets buffer

-- a buffer with room for any unit
abbrev pub roomy : List ℕ → Bool
roomy buffer = nat_le 2043 (length buffer)

-- copying the unit at a place out: its note is answered and its octets come first in the buffer; where there is none,
-- none is answered; the rest of the buffer, and without a unit or with a refusal all of it, is as it was
pub record CopiesOut (g : Numbers) (slips : List Note) (store : List ℕ) (place : ℕ) (buffer buffer' : List ℕ) (r : Result (Option Note) UnitFault) : Type 0 where
  pub answer : r ≡ cond (memory_fits g slips store && roomy buffer) (Ok (option_map note_of (slice_get (units_in g slips store) place))) (Err Memory)
  pub after : buffer' ≡ cond (is_ok r) (unit_shown (slice_get (units_in g slips store) place) buffer) buffer

-- letting the first n units go, or all where there are fewer: answers how many went
pub record LetsGo (g g' : Numbers) (slips : List Note) (store : List ℕ) (n : ℕ) (r : Result ℕ UnitFault) : Type 0 where
  pub answer : r ≡ cond (memory_fits g slips store) (Ok (min n g.count)) (Err Memory)
  pub numbers : g' ≡ cond (is_ok r) (without (min n g.count) g) g
  pub units : units_in g' slips store ≡ cond (is_ok r) (drop n (units_in g slips store)) (units_in g slips store)
