-- The receiving machine (FARM-P).
use Rattle.std.specs.Prelude.{ℕ, ◌+◌, ◌*◌, ◌%◌, ◌^◌, ◌<◌, Bool, true, false, cond, ◌==◌, nat_lt}
use Rattle.cop.specs.Number.{width, number_after, distance}
use Rattle.cop.specs.declared.receiver.Receiver.{Receiver}
use Rattle.cop.specs.declared.receiving.Judgement.{Judgement}
use Rattle.cop.specs.declared.receiving.Judgement.TheVariants.{Wanted, NoPlace, Gap, Repeat}

-- what holds of every receiver: its counter of expedited frames is modulo 8
abbrev pub IsReceiver : Receiver → Type 0
IsReceiver r = r.counter < 8

-- a receiver of nothing yet
abbrev pub fresh_receiver : Receiver
fresh_receiver = record { wanted = 0; retransmit = false; owed = false; counter = 0 }

-- what becomes of the sequence-controlled frame with this number, by how far it comes after the one that is wanted: it
-- is that one, with a free place for its unit or without; up to half of all numbers after it there is a gap before it;
-- any other came before
abbrev pub judgement : Receiver → ℕ → Bool → Judgement
judgement r n free =
    cond (distance width n r.wanted == 0) (cond free Wanted NoPlace)
    (cond (nat_lt (2 * distance width n r.wanted) (2 ^ width)) Gap Repeat)

-- only the wanted one, with a free place, is delivered
abbrev pub delivers : Judgement → Bool
delivers Wanted = true
delivers NoPlace = false
delivers Gap = false
delivers Repeat = false

-- the receiver after a sequence-controlled frame: in all four cases it owes a report
abbrev pub judged : Receiver → Judgement → Receiver
judged r Wanted = record r { wanted = number_after width r.wanted 1; retransmit = false; owed = true }
judged r NoPlace = record r { retransmit = true; owed = true }
judged r Gap = record r { retransmit = true; owed = true }
judged r Repeat = record r { owed = true }

-- the receiver after an expedited frame
abbrev pub counted : Receiver → Receiver
counted r = record r { counter = (r.counter + 1) % 8 }

-- the receiver after its report went
abbrev pub reported : Receiver → Receiver
reported r = record r { owed = false }
