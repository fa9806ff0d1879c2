-- The refusals of the layer of supervisory units.
use Rattle.std.specs.Prelude.{ℕ, ◌+◌}
use Rattle.refusal.specs.Place.{Place, place}
use Rattle.refusal.specs.declared.Layer.TheVariants.{Spdu}
use Rattle.directive.specs.declared.fault.SpduFault.{SpduFault}
use Rattle.directive.specs.declared.fault.SpduFault.TheVariants.{Length, Kind, Cut, Reserved, Range, TooWide, Buffer}

-- the number of each, and where it lies
abbrev pub spdu_fault : SpduFault → Place
spdu_fault Length = place 6 Spdu 0
spdu_fault Kind = place 7 Spdu 0
spdu_fault (Cut k) = place 8 Spdu k
spdu_fault (Reserved k) = place 9 Spdu k
spdu_fault (Range k) = place 10 Spdu k
spdu_fault TooWide = place 15 Spdu 0
spdu_fault Buffer = place 18 Spdu 0

-- the same fault, where the octets that were read start at this one
abbrev pub moved : ℕ → SpduFault → SpduFault
moved start Length = Length
moved start Kind = Kind
moved start (Cut k) = Cut (start + k)
moved start (Reserved k) = Reserved (start + k)
moved start (Range k) = Range (start + k)
moved start TooWide = TooWide
moved start Buffer = Buffer
