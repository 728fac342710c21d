use Rattle.std.proofs.Common.{take, Contains}
use Rattle.jr_ports.specs.Folder.{names_of}
use Rattle.jr_ports.specs.Memory.{files_of}
use Rattle.jr_ports.proofs.memory.dir.find_file.Given as goal

abbrev pub invariant-loop-file : goal.invariant-loop-file
invariant-loop-file l = Contains (names_of (files_of (take l.file-index l.files))) l.name → ⊥
