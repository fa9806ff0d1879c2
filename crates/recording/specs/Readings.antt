-- What a reader has of the line under way, and of the one before.
use Rattle.std.specs.Prelude.{ℕ, List, [], cond, take, ◌==◌}
use Rattle.recording.specs.Lines.{Reading}
use Rattle.recording.specs.declared.reader.Reader.TheInside.{Inside}

-- The line under way.
abbrev pub reading : Inside → Reading
reading r = record { octets = cond (r.column == 0) [] (take r.count r.octets); column = r.column; place = r.place }

-- The octets of the line that has just ended, until the next one begins.
abbrev pub latest : Inside → List ℕ
latest r = cond (r.column == 0) (take r.count r.octets) []
