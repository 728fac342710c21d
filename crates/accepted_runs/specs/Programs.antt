-- What an accepted program is.
use Rattle.std.specs.Prelude.{ℕ, List}
use Rattle.program_soundness.specs.SoundPrograms.{IsSound}
use Rattle.program_accept.specs.Accepted.{Accepted, IsProgram}
use Rattle.program_soundness.specs.Programs.{IsMainMethod}

-- decoded, linked in an order of its classes, and verified; and it begins with a method of its own
abbrev pub IsSoundProgram : Accepted → Type 0
IsSoundProgram p = (order : List ℕ) × IsSound p.units order × IsMainMethod p.units p.main

-- some files are this program, which begins with the class of some name
abbrev pub IsOfFiles : Accepted → Type 0
IsOfFiles p = (files : List (List ℕ)) × (name : List ℕ) × IsProgram files name p
