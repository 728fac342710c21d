-- Runs of a program on shared words have whatever a turn asks for.
use Rattle.std.specs.Prelude.{◌≡◌, ◌<◌, ◌≤◌, ◌+◌, ◌^◌, ℕ, Bool, false, true, Option, None, Some, List, length}
use Rattle.code_decode.specs.declared.code.ClassUnit.{ClassUnit}
use Rattle.link_types.specs.declared.operands.MethodId.{MethodId}
use Rattle.link_rules.specs.FixedObjects.{first_free}
use Rattle.link_rules.specs.Names.{program_names}
use Rattle.java_rows.specs.Start.{opening_of}
use Rattle.java_rows.specs.Thread.{Local, java_code, first_state}
use Rattle.schedules.specs.Schedule.{Rest}
use Rattle.schedules.specs.Run.{Run, Follows}
use Rattle.heap_words.specs.declared.areas.Areas.{Areas}
use Rattle.plain_words.specs.declared.plain.PlainWords.{PlainWords}
use Rattle.plain_words.specs.Opening.{areas_of}
use Rattle.thread_automaton.specs.declared.Bounds.{Bounds}
use Rattle.step_port.specs.declared.step.Step.TheVariants.{SwapWord, Split}
use Rattle.op_core.specs.declared.Op.TheVariants.{End}
use Rattle.op_core.specs.declared.Next.TheVariants.{Want}
use Rattle.thread_automaton.specs.declared.Move.TheVariants.{Make}
use Rattle.thread_automaton.specs.NextMove.{next_move}
use Rattle.thread_automaton.specs.ThreadState.{ThreadState}
use Rattle.core_runs.specs.Cores.{Core}
use Rattle.core_runs.specs.Acts.{Act}
use Rattle.opening_cores.specs.Openings.{opening_core}
use Rattle.thread_moves.specs.Thread.{CanBeAsked}
use Rattle.word_runs.specs.WordTurns.{Progress, word_turns}
use Rattle.word_runs.specs.Laws.{begun_with}
use Rattle.quick_turn_laws.specs.Laws.{IsNotWaitedFor}
use Rattle.ready_runs.specs.Ready.{CanStep, HoldsWords, IsReadyFor}
use Rattle.accepted_runs.specs.Runs.{IsProgramRun}

-- the areas of the program's table
abbrev pub areas_in : List ClassUnit → Bounds → Areas
areas_in us b = areas_of (opening_of us) b.limits

-- A turn of each thread can be made: the three premises of `turn` of `rollback_core` hold, on each table of the program that
-- holds these words.
pub record IsReadyCore (us : List ClassUnit) (b : Bounds) (core : Core Local) : Type 0 where
  pub asked : (t : ℕ) (th : ThreadState Local) → core.threads t ≡ Some th → th.over ≡ false → CanBeAsked java_code th.local (java_code.next th.local)
  pub steps : (t : ℕ) (th : ThreadState Local) → core.threads t ≡ Some th → CanStep java_code b (areas_in us b) core.words th
  pub tables : (t : ℕ) (th : ThreadState Local) → core.threads t ≡ Some th → (x : PlainWords) → HoldsWords x (areas_in us b) core.words → IsReadyFor java_code b x th
  -- a thread that has ended wanted to, and one that is handed out isn't there before
  pub ended : (t : ℕ) (th : ThreadState Local) → core.threads t ≡ Some th → th.over ≡ true → (x : Option ℕ) × (java_code.next th.local ≡ Want (End x))
  pub new : (t : ℕ) (th : ThreadState Local) (n r p : ℕ) → core.threads t ≡ Some th → next_move java_code b th ≡ Make (Split n r p) → core.threads n ≡ None
  -- a word that a thread is about to overwrite isn't one for which another waits
  pub apart : (t u : ℕ) (th uh : ThreadState Local) (at old new : ℕ) → core.threads t ≡ Some th → core.threads u ≡ Some uh → uh.over ≡ false
      → next_move java_code b th ≡ Make (SwapWord at old new) → IsNotWaitedFor (java_code.next uh.local) at

-- so it is at each place of each run of the program, where each thread makes fewer than 2^56 counted turns
abbrev pub ProgramRunsAreReady : List ClassUnit → MethodId → Type 0
ProgramRunsAreReady us main = (b : Bounds) (c : ℕ → Core Local) (acts : List Act) → IsProgramRun us main b c acts → b.limits.turns < 2 ^ 56
    → (k : ℕ) → k ≤ length acts → IsReadyCore us b (c k)

-- and wherever turns lead that follow a schedule from the words with which the program begins
abbrev pub ProgramTurnsAreReady : List ClassUnit → MethodId → Type 0
ProgramTurnsAreReady us main = (b : Bounds) → b.first ≡ first_free (program_names us) → b.first + b.limits.heap ≤ 2 ^ 32 → b.limits.sections < 2 ^ 24
    → b.limits.turns < 2 ^ 56
    → (rest : Rest) (keeps : Bool) (threads : List ℕ) (last : Run (Progress Local))
    → Follows (word_turns java_code b) (begun_with (opening_core (opening_of us) (first_state us main)) rest keeps) threads last
    → IsReadyCore us b last.state.core
