-- Ports of threads that are in a given state, and main's state before its first step.
use Rattle.std.specs.Prelude.{◌≡◌, [], ◌∷◌}
use Rattle.op_core.specs.declared.script.Script.{Script}
use Rattle.op_core.specs.Script.{ScriptState, script_code}
use Rattle.thread_automaton.specs.ThreadState.{ThreadState, first_state}
use Rattle.table_words.specs.declared.port.TablePort.{TablePort}
use Rattle.table_words.specs.declared.setup.ThreadPart.{ThreadPart}
use Rattle.table_words.specs.Parts.{IsPartInRun}
use Rattle.table_words.specs.Ports.{port_setup, port_view}
use Rattle.table_hosts.specs.Standing.{IsAfterSteps}
use Rattle.table_cases.specs.Program.{first_place, script_state, IsProgram}

-- the port is one of the program's table, and the thread of its seat is in this state after its steps
pub record IsThreadPort (p : TablePort Script) (th : ThreadState ScriptState) : Type 0 where
  pub program : IsProgram (port_setup p)
  pub part : ThreadPart Script
  pub one : port_view p ≡ part ∷ []
  pub in_run : IsPartInRun script_state script_code (port_setup p) part
  pub after : IsAfterSteps script_state script_code (port_setup p) part th

-- main before its first step
abbrev pub main_begun : ThreadState ScriptState
main_begun = first_state 1 5 first_place
