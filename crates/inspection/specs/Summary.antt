-- The counts of a recording, line by line.
use Rattle.std.specs.Prelude.{ℕ, ◌+◌, ◌-◌, ◌^◌, min, cond, replicate, nat_lt, slice_index, slice_set}
use Rattle.frame.specs.declared.header.Kind.{Kind}
use Rattle.frame.specs.declared.header.Kind.TheVariants.{User, Supervisory}
use Rattle.frame.specs.declared.header.Quality.{Quality}
use Rattle.frame.specs.declared.header.Quality.TheVariants.{SequenceControlled, Expedited}
use Rattle.inspection.specs.declared.summary.Summary.{Summary}

-- one more, up to the largest number that 64 bits hold
abbrev pub more : ℕ → ℕ
more n = min (n + 1) (2 ^ 64 - 1)

-- the counts of no lines
abbrev pub none : Summary
none = record { controlled = 0; expedited = 0; supervisory = 0; refused = replicate 21 0; unreadable = 0 }

-- one more frame of a kind and a quality
abbrev pub framed : Kind → Quality → Summary → Summary
framed User SequenceControlled s = record s { controlled = more s.controlled }
framed User Expedited s = record s { expedited = more s.expedited }
framed Supervisory q s = record s { supervisory = more s.supervisory }

-- one more refusal of that number; numbers past 20, which no refusal has, change nothing
abbrev pub refused_once : ℕ → Summary → Summary
refused_once n s = record s { refused = cond (nat_lt n 21) (slice_set s.refused n (more (slice_index s.refused n))) s.refused }

-- one more line that is not octets
abbrev pub unreadable_once : Summary → Summary
unreadable_once s = record s { unreadable = more s.unreadable }
