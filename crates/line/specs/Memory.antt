-- Octets in lent memory.
use Rattle.std.specs.Prelude.{ℕ, ◌+◌, ◌*◌, Bool, cond, ◌&&◌, List, ◌++◌, length, take, drop, Ok, Err, Result, ◌==◌, nat_le}
use Rattle.line.specs.declared.fault.LineFault.{LineFault}
use Rattle.line.specs.declared.fault.LineFault.TheVariants.{Memory, Limit}

-- whether so many octets have room from a place on
abbrev pub room_for : List ℕ → ℕ → List ℕ → Bool
room_for store at octets = nat_le (at + length octets) (length store)

-- memory with these octets from a place on, and all others as they were
abbrev pub overlaid : List ℕ → ℕ → List ℕ → List ℕ
overlaid store at octets = take at store ++ (octets ++ drop (at + length octets) store)

-- the same, where they have room, and nothing changed where not
abbrev pub laid : List ℕ → ℕ → List ℕ → List ℕ
laid store at octets = cond (room_for store at octets) (overlaid store at octets) store

-- what the making of a line over so many octets answers, where it keeps each frame in as many: the size first, then the
-- limit
abbrev pub memory_answer : ℕ → ℕ → ℕ → Result (Unit {0}) LineFault
memory_answer octets each limit = cond (octets == each * limit) (cond (nat_le 1 limit && nat_le limit 4096) (Ok tt) (Err Limit)) (Err Memory)
