-- What a folder in memory holds, and what it was asked for.
use Rattle.std.specs.Prelude.{ℕ, List, [], if◌then◌else◌, Option, option_map, map, String, string_bytes, Vec}
use Rattle.std.specs.declared.alloc.Global.{Global}
use Rattle.jr_ports.specs.Folder.{File, Asked, names_of}
use Rattle.jr_ports.specs.declared.memory.dir.MemDir.{MemDir}

-- the files of a list of names and bytes
abbrev pub files_of : List (String Global × Vec ℕ Global) → List File
files_of files = map (λ f. record { name = string_bytes f.0; bytes = f.1.items }) files

-- what a folder in memory was asked for
abbrev pub asked_of : MemDir → Option Asked
asked_of folder = option_map (λ dir. record {
  dir = string_bytes dir;
  names = if folder.gave then names_of (files_of folder.files.items) else [];
}) folder.dir
