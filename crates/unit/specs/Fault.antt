-- The refusals of units.
use Rattle.refusal.specs.Place.{Place, place}
use Rattle.refusal.specs.declared.Layer.TheVariants.{End}
use Rattle.queue.specs.declared.fault.QueueFault.{QueueFault}
use Rattle.queue.specs.declared.fault.QueueFault.TheVariants.{Table}
use Rattle.unit.specs.declared.fault.UnitFault.{UnitFault}
use Rattle.unit.specs.declared.fault.UnitFault.TheVariants.{Unit, Full, Memory}

-- the number of each; units are an end's, and their faults lie in no octet
abbrev pub unit_fault : UnitFault → Place
unit_fault Unit = place 15 End 0
unit_fault Full = place 16 End 0
unit_fault Memory = place 18 End 0

-- what a fault of the queue is of a unit
abbrev pub of_queue : QueueFault → UnitFault
of_queue QueueFault.Full = Full
of_queue Table = Memory
