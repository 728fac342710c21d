-- Where the threads of a run are, act by act, once all their parts of it are known.
use Rattle.std.specs.Prelude.{◌≡◌, false, List, [], ◌∷◌}
use Rattle.op_core.specs.ThreadCode.{Code}
use Rattle.step_port.specs.Words.{Words}
use Rattle.thread_moves.specs.Thread.{thread_of}
use Rattle.thread_moves.specs.declared.thread.JThread.{JThread}
use Rattle.opening_cores.specs.Openings.{opening_core}
use Rattle.table_words.specs.declared.setup.Setup.{Setup}
use Rattle.table_words.specs.declared.setup.ThreadPart.{ThreadPart}
use Rattle.table_words.specs.Setups.{setup_bounds}
use Rattle.table_words.specs.Ends.{IsWholeRun}
use Rattle.table_hosts.specs.Standing.{ThreadsCanGoOn, IsAfterSteps}
use Rattle.table_hosts.specs.Tallies.{opened_in_parts, undone_in_parts}
use Rattle.word_runs.specs.WordTurns.{Progress}
use Rattle.word_runs.specs.Laws.{AreActs}
use Rattle.word_machine.specs.Resumed.{AreThreads}
use Rattle.sched_core.specs.Counts.{opened_in, undone_in}

module _ {C S : Type 0} (state : C → S) (saved : C → List S) (code : Code S) where
  -- each thread is after the steps of the part that comes at its place in the list
  abbrev pub AreAfterSteps : Setup C → List (ThreadPart C) → List (JThread C) → Type 0
  AreAfterSteps k [] [] = Unit {0}
  AreAfterSteps k (p ∷ ps) (x ∷ xs) = IsAfterSteps state code k p (thread_of state saved x) × AreAfterSteps k ps xs
  AreAfterSteps k _ _ = ⊥

  -- Acts lead from the program's opening to this place of a run, whose words these are, and whose threads are all these. They opened
  -- as many sections, and marked levels as undone as often, as the steps of the parts together.
  pub record IsPlaceAfter (k : Setup C) (w : Words) (ps : List (ThreadPart C)) (xs : List (JThread C)) (place : Progress S) : Type 0 where
    pub acts : AreActs code (setup_bounds k) (opening_core k.opening (state k.code)) place
    pub untold : place.keeps ≡ false
    pub words : place.core.words ≡ w
    pub threads : AreThreads (thread_of state saved) xs place.core.threads
    pub opened : opened_in place.acts ≡ opened_in_parts ps
    pub undone : undone_in place.acts ≡ undone_in_parts ps

  -- A run whose words these are and of which these parts are all that its threads did has such a place, if each of these threads is after
  -- the steps of its part.
  abbrev pub WholeRunsHavePlaces : Type 0
  WholeRunsHavePlaces = (k : Setup C) (w : Words) (ps : List (ThreadPart C)) (xs : List (JThread C)) → ThreadsCanGoOn state code k → IsWholeRun state code k w ps
      → AreAfterSteps k ps xs → (place : Progress S) × IsPlaceAfter k w ps xs place
