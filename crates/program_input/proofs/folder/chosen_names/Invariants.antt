use Rattle.std.proofs.Common.{◌≡◌, filter, map, string_bytes, take}
use Rattle.program_input.specs.Folder.{is_class_file}
use Rattle.program_input.proofs.folder.chosen_names.Given as goal

abbrev pub invariant-loop-name : goal.invariant-loop-name
invariant-loop-name l = map string_bytes l.chosen.items ≡ filter is_class_file (map string_bytes (take l.name-index l.names))
