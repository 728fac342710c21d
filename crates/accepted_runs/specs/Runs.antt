-- Runs of a program on shared words, with sections that are undone, from the words with which the program begins.
use Rattle.std.specs.Prelude.{◌≡◌, ◌<◌, ◌≤◌, ◌+◌, ◌^◌, ℕ, Bool, Some, List, [], length, slice_get}
use Rattle.code_decode.specs.declared.code.ClassUnit.{ClassUnit}
use Rattle.link_types.specs.declared.operands.MethodId.{MethodId}
use Rattle.link_rules.specs.FixedObjects.{first_free, main_thread_object}
use Rattle.link_rules.specs.Names.{program_names}
use Rattle.op_core.specs.declared.Op.TheVariants.{Start}
use Rattle.op_core.specs.declared.Reply.TheVariants.{Number}
use Rattle.op_core.specs.InPlaceList.{event}
use Rattle.op_core.specs.CleanCut.{kept_by}
use Rattle.op_core.specs.Execution.{Leads, printed}
use Rattle.java_rows.specs.Start.{opening_of, start_of_program}
use Rattle.java_rows.specs.Thread.{Local, java_code, first_state}
use Rattle.schedules.specs.Schedule.{Rest}
use Rattle.schedules.specs.Run.{Run, Follows}
use Rattle.thread_automaton.specs.declared.Bounds.{Bounds}
use Rattle.plain_words.specs.Opening.{opening_words}
use Rattle.thread_automaton.specs.ThreadState.{ThreadState}
use Rattle.thread_automaton.specs.ThreadState.{first_state as thread_at}
use Rattle.core_runs.specs.WordRuns.{RunEntry}
use Rattle.core_runs.specs.declared.Birth.{Birth}
use Rattle.core_runs.specs.Cores.{Core}
use Rattle.core_runs.specs.Acts.{Act, ActFrom}
use Rattle.section_laws.specs.Runs.{IsRunFrom}
use Rattle.section_laws.specs.InRuns.{with_entries, BeginAsHandedOut}
use Rattle.row_soundness.specs.Runs.{IsThread, MayStand, ObjectFits, RunsLocal}
use Rattle.program_soundness.specs.Seen.{IsPriority}
use Rattle.opening_cores.specs.KeptCores.{CoresAreKept}
use Rattle.written_words.specs.Tags.{IsWrittenRun}
use Rattle.core_law.specs.Erasure.{is_left_out, Erasure}
use Rattle.opening_cores.specs.Openings.{opening_core}
use Rattle.word_runs.specs.WordTurns.{Progress, word_turns}
use Rattle.word_runs.specs.Laws.{begun_with}

-- The acts lead on from the words with which the program begins. Its heap lies after its fixed objects, below 2^32, and the
-- numbers of sections have 24 bits.
pub record IsProgramRun (us : List ClassUnit) (main : MethodId) (b : Bounds) (c : ℕ → Core Local) (acts : List Act) : Type 0 where
  pub first : b.first ≡ first_free (program_names us)
  pub heap : b.first + b.limits.heap ≤ 2 ^ 32
  pub sections : b.limits.sections < 2 ^ 24
  pub begins : c 0 ≡ opening_core (opening_of us) (first_state us main)
  pub leads : ActFrom java_code b c 0 acts

-- What is left of such a run is an execution of the program, and each place of the run fits the program as threads see it.
pub record IsErasedRun (us : List ClassUnit) (main : MethodId) (b : Bounds) (classes : ℕ) (c : ℕ → Core Local) (acts : List Act) : Type 0 where
  pub erasure : Erasure java_code b (IsThread us) c acts
  pub execution : Leads java_code (start_of_program us main) (kept_by (is_left_out c acts) erasure.entries) erasure.last
  -- each thread that is started in the run has a priority from 1 to 10
  pub priorities : (k t r p n : ℕ) → slice_get erasure.entries k ≡ Some (event t (Start r p) (Number n)) → IsPriority p
  -- tags say who wrote the words of objects, so the laws of `written_words` hold of the run
  pub written : IsWrittenRun java_code b (IsThread us) (first_state us main) classes c acts
  pub kept : CoresAreKept java_code b (IsThread us) (first_state us main) classes c acts (RunsLocal us) (MayStand us) (ObjectFits us)

-- so it is with each run of the program
abbrev pub ProgramRunsAreErased : List ClassUnit → MethodId → Type 0
ProgramRunsAreErased us main = (b : Bounds) (c : ℕ → Core Local) (acts : List Act) → IsProgramRun us main b c acts → (classes : ℕ) × IsErasedRun us main b classes c acts

-- What is left of turns of the program that follow a schedule: their acts are a run from the words with which it begins that is
-- erased so, and the lines that they have printed are those of the execution that is left.
pub record AreErasedTurns (us : List ClassUnit) (main : MethodId) (b : Bounds) (last : Progress Local) : Type 0 where
  pub cores : ℕ → Core Local
  pub begins : cores 0 ≡ opening_core (opening_of us) (first_state us main)
  pub ends : cores (length last.acts) ≡ last.core
  pub classes : ℕ
  pub erased : IsErasedRun us main b classes cores last.acts
  pub lines : last.core.lines ≡ printed (kept_by (is_left_out cores last.acts) erased.erasure.entries)

-- so it is wherever turns lead that follow a schedule from the words with which the program begins
abbrev pub ProgramTurnsAreErased : List ClassUnit → MethodId → Type 0
ProgramTurnsAreErased us main = (b : Bounds) → b.first ≡ first_free (program_names us) → b.first + b.limits.heap ≤ 2 ^ 32 → b.limits.sections < 2 ^ 24
    → (rest : Rest) (keeps : Bool) (threads : List ℕ) (last : Run (Progress Local)) → Follows (word_turns java_code b) (begun_with (opening_core (opening_of us) (first_state us main)) rest keeps) threads last
    → AreErasedTurns us main b last.state

-- The same of a run that is kept as one list of steps, the newest first: it has acts whose steps these are, in their order, and
-- what is left of them is an execution of the program.
pub record IsErasedList (us : List ClassUnit) (main : MethodId) (b : Bounds) (run : List RunEntry) : Type 0 where
  pub cores : ℕ → Core Local
  pub acts : List Act
  pub steps : with_entries acts [] ≡ run
  pub classes : ℕ
  pub erased : IsErasedRun us main b classes cores acts

-- main's thread
abbrev pub main_birth : List ClassUnit → Birth
main_birth us = record { number = 1; object = main_thread_object (program_names us); priority = 5 }

-- so it is with each such run of the program, in whatever order the steps of its threads come, where each thread that is handed
-- out begins as the code says (`BeginAsHandedOut` of `section_laws`)
abbrev pub ProgramListsAreErased : List ClassUnit → MethodId → Type 0
ProgramListsAreErased us main = (b : Bounds) → b.first ≡ first_free (program_names us) → b.first + b.limits.heap ≤ 2 ^ 32 → b.limits.sections < 2 ^ 24
    → (first : Birth → ThreadState Local) → first (main_birth us) ≡ thread_at 1 5 (first_state us main) → (run : List RunEntry)
    → IsRunFrom java_code b first (main_birth us) (opening_words (opening_of us)) run → BeginAsHandedOut java_code b first (main_birth us) run → IsErasedList us main b run
