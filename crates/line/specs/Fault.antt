-- The refusals of a line.
use Rattle.refusal.specs.Place.{Place, place}
use Rattle.refusal.specs.declared.Layer.TheVariants.{Line}
use Rattle.line.specs.declared.fault.LineFault.{LineFault}
use Rattle.line.specs.declared.fault.LineFault.TheVariants.{FrameSize, Full, Memory, Limit}

-- the number of each; none lies in an octet
abbrev pub line_fault : LineFault → Place
line_fault FrameSize = place 1 Line 0
line_fault Full = place 17 Line 0
line_fault Memory = place 18 Line 0
line_fault Limit = place 19 Line 0
