-- Runs of a program on shared words, with sections that are undone.
use Rattle.std.specs.Prelude.{◌≡◌, ◌<◌, ℕ, List, length}
use Rattle.code_decode.specs.declared.code.ClassUnit.{ClassUnit}
use Rattle.link_types.specs.declared.operands.MethodId.{MethodId}
use Rattle.link_rules.specs.Classes.{classes_of}
use Rattle.thread_automaton.specs.declared.Bounds.{Bounds}
use Rattle.core_runs.specs.Acts.{Act}
use Rattle.core_runs.specs.Cores.{Core}
use Rattle.core_runs.specs.Reading.{ordinary}
use Rattle.java_rows.specs.Start.{start_of_program}
use Rattle.java_rows.specs.Thread.{Local, java_code, first_state}
use Rattle.opening_cores.specs.KeptCores.{CoresAreKept, IsBegunRun}
use Rattle.row_soundness.specs.Runs.{IsThread, MayStand, ObjectFits, RunsLocal}

-- Along each run that begins at the start of the program: each thread object has a start word, each place fits as threads see
-- it, objects end within 2^32 places, and what a thread wants that hasn't ended can be asked for in a turn.
abbrev pub CoreStatesFit : List ClassUnit → MethodId → Type 0
CoreStatesFit us main = (b : Bounds) (classes : ℕ) (c : ℕ → Core Local) (acts : List Act) → length (classes_of us) < classes → IsBegunRun java_code b (IsThread us) (first_state us main) c acts
    → ordinary java_code (IsThread us) (c 0) ≡ start_of_program us main
    → CoresAreKept java_code b (IsThread us) (first_state us main) classes c acts (RunsLocal us) (MayStand us) (ObjectFits us)
