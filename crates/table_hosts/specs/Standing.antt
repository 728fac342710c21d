-- Threads that are where the parts of their seats say, and what they need to go on.
use Rattle.std.specs.Prelude.{◌≡◌, ℕ, false, List, [], ◌∷◌}
use Rattle.op_core.specs.ThreadCode.{Code}
use Rattle.heap_words.specs.Areas.{IsIn}
use Rattle.plain_words.specs.Table.{HasRoom}
use Rattle.step_port.specs.declared.step.Step.{Step}
use Rattle.step_port.specs.declared.step.Step.TheVariants.{Split}
use Rattle.step_port.specs.Steps.{place_of, effect_of}
use Rattle.step_port.specs.Words.{Words, answer_of}
use Rattle.thread_automaton.specs.declared.Move.TheVariants.{Make}
use Rattle.thread_automaton.specs.ThreadState.{ThreadState}
use Rattle.thread_automaton.specs.NextMove.{next_move}
use Rattle.core_runs.specs.WordRuns.{RunEntry, words_by}
use Rattle.core_runs.specs.OwnParts.{Quietly, OwnTo}
use Rattle.section_laws.specs.InRuns.{StandsBehind}
use Rattle.thread_moves.specs.Thread.{thread_of, CanBeAsked}
use Rattle.thread_moves.specs.Change.{NamesThread}
use Rattle.thread_moves.specs.declared.thread.JThread.{JThread}
use Rattle.table_words.specs.declared.setup.Setup.{Setup}
use Rattle.table_words.specs.declared.setup.ThreadPart.{ThreadPart}
use Rattle.table_words.specs.Setups.{setup_bounds, setup_areas, setup_words, first_birth}
use Rattle.table_words.specs.Parts.{local_at_birth, state_at_birth, IsSetupRun, IsPartInRun}
use Rattle.table_words.specs.Views.{born_by}

module _ {C S : Type 0} (state : C → S) (code : Code S) where
  -- ---- what threads need

  -- The thread can have a turn on these words: what it wants can be asked for; the word of its next step is there and has room; a
  -- start word that it loads names a thread; and a thread that it hands out begins as the program says.
  pub record CanHaveTurn (k : Setup C) (w : Words) (th : ThreadState S) : Type 0 where
    pub asked : CanBeAsked code th.local (code.next th.local)
    pub there : (step : Step) → next_move code (setup_bounds k) th ≡ Make step → IsIn (setup_areas k) (place_of step)
    pub room : (step : Step) → next_move code (setup_bounds k) th ≡ Make step → HasRoom (effect_of step) (w (place_of step))
    pub names : (step : Step) → next_move code (setup_bounds k) th ≡ Make step → NamesThread step (answer_of w step)
    pub child : (n r q : ℕ) → next_move code (setup_bounds k) th ≡ Make (Split n r q) → code.child th.local r ≡ local_at_birth state code k (born_by (Split n r q))

  -- so can each thread of the program after each run, until it has ended
  abbrev pub ThreadsCanGoOn : Setup C → Type 0
  ThreadsCanGoOn k = (run : List RunEntry) → IsSetupRun state code k run → (t : ℕ) (th : ThreadState S)
      → StandsBehind code (setup_bounds k) (state_at_birth state code k) (first_birth k) run t th → th.over ≡ false
      → CanHaveTurn k (words_by (setup_words k) run) th

  -- ---- where threads are

  -- the thread was born as the part says, has made its steps, and silent moves after the last of them
  pub record IsAfterSteps (k : Setup C) (p : ThreadPart C) (th : ThreadState S) : Type 0 where
    pub last : ThreadState S
    pub own : OwnTo code (setup_bounds k) (state_at_birth state code k p.birth) p.steps last
    pub moves : ℕ
    pub quietly : Quietly code (setup_bounds k) moves last th

module _ {C S : Type 0} (state : C → S) (saved : C → List S) (code : Code S) where
  -- the view is one part, which is its thread's part of a run, and the thread is after its steps
  pub record StandsAtView (k : Setup C) (x : JThread C) (v : List (ThreadPart C)) : Type 0 where
    pub part : ThreadPart C
    pub one : v ≡ part ∷ []
    pub in_run : IsPartInRun state code k part
    pub after : IsAfterSteps state code k part (thread_of state saved x)
    pub bounds : x.own.bounds ≡ setup_bounds k
