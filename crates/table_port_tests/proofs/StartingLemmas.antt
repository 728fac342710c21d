-- The step that comes next for the thread of a seat may be made through its port.
use Rattle.std.proofs.Common.{◌≡◌, false, [], ◌∷◌, refl, sym, ◌∙◌, ap, subst}
use Rattle.op_core.specs.declared.Limits.{Limits}
use Rattle.op_core.specs.declared.script.Script.{Script}
use Rattle.op_core.specs.Script.{ScriptState, script_code}
use Rattle.fixed_objects.specs.declared.Opening.{Opening}
use Rattle.step_port.specs.declared.step.Step.{Step}
use Rattle.thread_automaton.specs.declared.Bounds.{Bounds}
use Rattle.thread_automaton.specs.declared.Move.TheVariants.{Make}
use Rattle.thread_automaton.specs.ThreadState.{ThreadState, first_state}
use Rattle.thread_automaton.specs.NextMove.{next_move}
use Rattle.table_words.specs.declared.port.TablePort.{TablePort}
use Rattle.table_words.specs.declared.setup.Setup.{Setup}
use Rattle.table_words.specs.declared.table.TableWords.{TableWords}
use Rattle.table_words.specs.Setups.{setup_bounds, first_birth}
use Rattle.table_words.specs.Parts.{fresh_part, state_at_birth}
use Rattle.table_words.specs.Tables.{setup_in}
use Rattle.table_words.specs.Plays.{SeatMayMake}
use Rattle.table_words.specs.Ports.{port_setup, port_view}
use Rattle.table_words.proofs.Births.{at_front}
use Rattle.table_words.proofs.Growing.{nothing_yet}
use Rattle.table_hosts.proofs.Turns.{allowed}
use Rattle.table_cases.specs.Program.{program_bounds, program_limits, script_state, IsProgram}
use Rattle.table_port_tests.specs.Starting.{IsThreadPort, main_begun}
use Rattle.table_cases.proofs.ProgramLemmas.{programs_go_on}

abbrev bounds_of : Limits → Opening → Bounds
bounds_of l o = record { limits = l; first = o.first }

bounds_are : (k : Setup Script) → IsProgram k → setup_bounds k ≡ program_bounds
bounds_are k is = ap (λ (l : Limits). bounds_of l k.opening) is.limits ∙ ap (λ (o : Opening). bounds_of program_limits o) is.opening

pub may_make : (p : TablePort Script) (th : ThreadState ScriptState) → IsThreadPort p th → th.over ≡ false → (step : Step) → next_move script_code program_bounds th ≡ Make step
    → SeatMayMake script_state script_code (port_setup p) (port_view p) step
may_make p th x going step makes =
    let k = port_setup p in
    subst (λ v. SeatMayMake script_state script_code k v step) (sym x.one)
    (allowed script_state script_code k x.part th x.after x.in_run (programs_go_on k x.program) going step
    (ap (λ (b : Bounds). next_move script_code b th) (bounds_are k x.program) ∙ makes))

-- the port of a table on which no step was made
pub begun_port : (t : TableWords Script) (p : TablePort Script) → p.table.now ≡ t → IsProgram (setup_in t) → port_view p ≡ fresh_part (setup_in t) (first_birth (setup_in t)) ∷ []
    → IsThreadPort p main_begun
begun_port t p same is view =
    let k : Setup Script = port_setup p in
    let also : setup_in t ≡ k = sym (ap (λ u. setup_in u) same) in
    let program : IsProgram k = subst IsProgram also is in
    record {
      program = program;
      part = fresh_part k (first_birth k);
      one = view ∙ ap (λ (j : Setup Script). fresh_part j (first_birth j) ∷ []) also;
      in_run = record {
        run = [];
        is_run = record { words = tt; begun = tt; own = λ y there. nothing_yet script_state script_code k y };
        is_part = record { setup = refl; steps = refl; born = at_front (first_birth k) [] };
      };
      after = record {
        last = state_at_birth script_state script_code k (first_birth k);
        own = refl;
        moves = 0;
        quietly = ap (λ (l : ScriptState). first_state 1 5 l) program.code;
      };
    }
