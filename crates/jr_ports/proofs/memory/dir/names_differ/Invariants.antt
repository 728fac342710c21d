use Rattle.std.proofs.Common.{◌≤◌, length, drop}
use Rattle.jr_ports.specs.Folder.{AreDifferent, names_of}
use Rattle.jr_ports.specs.Memory.{files_of}
use Rattle.jr_ports.proofs.memory.dir.names_differ.Given as goal

abbrev pub invariant-loop-at : goal.invariant-loop-at
invariant-loop-at l = record { within : l.at ≤ length l.files; different : AreDifferent (names_of (files_of (drop l.at l.files))) }

abbrev pub decreases-loop-at : goal.decreases-loop-at
decreases-loop-at l = l.at
