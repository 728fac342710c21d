-- What a turn reports, and what a step takes memory for.
use Rattle.std.specs.Prelude.{◌<◌, IsSome}
use Rattle.step_port.specs.declared.step.Step.{Step}
use Rattle.step_port.specs.declared.step.Step.TheVariants.{SwapWord, OpenSection, OpenLevel, TakeMonitor, Ticket, Split}
use Rattle.thread_automaton.specs.Told.{Told, probed, advanced, born, lost, blocked}
use Rattle.thread_moves.specs.declared.thread.JThread.{JThread}
use Rattle.thread_moves.specs.declared.told.StepTold.{StepTold}
use Rattle.thread_moves.specs.declared.told.StepTold.TheVariants.{Probed, Advanced, Born, Lost, Blocked}

abbrev pub told_meant : StepTold → Told
told_meant Probed = probed
told_meant (Advanced reply) = advanced reply
told_meant Born = born
told_meant (Lost v) = lost v
told_meant (Blocked why) = blocked why

-- memory is taken before the step: for the save of a section, a logged word, a held monitor, a line, a child
abbrev pub TakesMemory : Step → Type 0
TakesMemory (OpenSection s w) = Unit {0}
TakesMemory (OpenLevel s w) = Unit {0}
TakesMemory (SwapWord at old new) = Unit {0}
TakesMemory (TakeMonitor r new) = Unit {0}
TakesMemory Ticket = Unit {0}
TakesMemory (Split n r p) = Unit {0}
TakesMemory step = ⊥

-- room is made for what the step records
abbrev pub HasRoomFor : {C : Type 0} → JThread C → Step → Type 0
HasRoomFor x (OpenSection s w) = IsSome x.own.opening
HasRoomFor x (OpenLevel s w) = IsSome x.own.opening
HasRoomFor x (SwapWord at old new) = 0 < x.own.log.spare
HasRoomFor x (TakeMonitor r new) = 0 < x.own.held.spare
HasRoomFor x Ticket = 0 < x.own.lines.spare
HasRoomFor x step = Unit {0}
