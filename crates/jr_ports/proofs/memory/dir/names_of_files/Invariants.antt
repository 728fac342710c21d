use Rattle.std.proofs.Common.{◌≡◌, map, string_bytes, take}
use Rattle.jr_ports.specs.Folder.{names_of}
use Rattle.jr_ports.specs.Memory.{files_of}
use Rattle.jr_ports.proofs.memory.dir.names_of_files.Given as goal

abbrev pub invariant-loop-file : goal.invariant-loop-file
invariant-loop-file l = map string_bytes l.names.items ≡ names_of (files_of (take l.file-index l.files))
