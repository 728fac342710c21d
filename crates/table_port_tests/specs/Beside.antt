-- A table on which only steps beside the threads were made, through the seat of the first thread.
use Rattle.std.specs.Prelude.{◌≡◌, List, [], ◌∷◌}
use Rattle.op_core.specs.declared.script.Script.{Script}
use Rattle.table_words.specs.declared.port.TablePort.{TablePort}
use Rattle.table_words.specs.declared.setup.Setup.{Setup}
use Rattle.table_words.specs.declared.setup.ThreadPart.{ThreadPart}
use Rattle.table_words.specs.Ends.{handed_numbers}
use Rattle.table_words.specs.Ports.{port_setup, port_view}
use Rattle.table_cases.specs.Program.{IsProgram}

-- the view is one part, that of the first thread, which has handed out nobody
pub record IsFirstAlone (k : Setup Script) (v : List (ThreadPart Script)) : Type 0 where
  pub part : ThreadPart Script
  pub one : v ≡ part ∷ []
  pub setup : part.setup ≡ k
  pub number : part.birth.number ≡ 1
  pub nobody : handed_numbers part.steps ≡ []

-- the port is one of the program's table, at the seat of its first thread
abbrev pub IsFirstPort : TablePort Script → Type 0
IsFirstPort p = IsProgram (port_setup p) × IsFirstAlone (port_setup p) (port_view p)
