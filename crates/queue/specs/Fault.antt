-- The refusals of a queue.
use Rattle.refusal.specs.Place.{Place, place}
use Rattle.refusal.specs.declared.Layer.TheVariants.{End}
use Rattle.queue.specs.declared.fault.QueueFault.{QueueFault}
use Rattle.queue.specs.declared.fault.QueueFault.TheVariants.{Full, Table}

-- the number of each; a queue belongs to an end, and its faults lie in no octet
abbrev pub queue_fault : QueueFault → Place
queue_fault Full = place 16 End 0
queue_fault Table = place 18 End 0
