-- The refusals of the frame layer.
use Rattle.refusal.specs.Place.{Place, place}
use Rattle.refusal.specs.declared.Layer.TheVariants.{Frame}
use Rattle.frame.specs.declared.fault.FrameFault.{FrameFault}
use Rattle.frame.specs.declared.fault.FrameFault.TheVariants.{Size, Version, Length, NoData, Construction, TooWide, Buffer}

-- the number of each, and the octet in which the wrong field starts
abbrev pub frame_fault : FrameFault → Place
frame_fault Size = place 1 Frame 0
frame_fault Version = place 2 Frame 0
frame_fault Length = place 3 Frame 2
frame_fault NoData = place 4 Frame 0
frame_fault Construction = place 5 Frame 0
frame_fault TooWide = place 15 Frame 0
frame_fault Buffer = place 18 Frame 0
