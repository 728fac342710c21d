-- What host threads hand over of a run, and that it can go on.
use Rattle.std.specs.Prelude.{◌≡◌, Option, None, Some, List, Contains, map}
use Rattle.std.specs.List.{All}
use Rattle.op_core.specs.declared.How.{How}
use Rattle.op_core.specs.declared.How.TheVariants as how
use Rattle.op_core.specs.ThreadCode.{Code}
use Rattle.plain_words.specs.declared.plain.PlainWords.{PlainWords}
use Rattle.plain_words.specs.Table.{words_in}
use Rattle.thread_moves.specs.Thread.{thread_of}
use Rattle.thread_moves.specs.declared.thread.JThread.{JThread}
use Rattle.going_threads.specs.declared.going.Going.{Going}
use Rattle.opening_cores.specs.Openings.{opening_core}
use Rattle.table_words.specs.declared.setup.Setup.{Setup}
use Rattle.table_words.specs.declared.setup.ThreadPart.{ThreadPart}
use Rattle.table_words.specs.Setups.{setup_bounds}
use Rattle.table_words.specs.Ends.{IsWholeRun}
use Rattle.table_words.specs.declared.table.TableWords.{TableWords}
use Rattle.table_words.specs.Tables.{setup_in}
use Rattle.table_hosts.specs.declared.seated.SeatedThread.{SeatedThread}
use Rattle.table_hosts.specs.Seated.{StandsOn, parts_of_threads}
use Rattle.table_hosts.specs.Standing.{ThreadsCanGoOn}
use Rattle.table_hosts.specs.Tallies.{opened_in_parts, undone_in_parts, MeetsLimit}
use Rattle.word_runs.specs.WordTurns.{Progress}
use Rattle.word_runs.specs.Laws.{AreActs}
use Rattle.sched_core.specs.Readiness.{StaysWell}
use Rattle.sched_core.specs.Going.{IsGoing}
use Rattle.going_runs.specs.Places.{AreAfterSteps}

module _ {C S : Type 0} (state : C → S) (saved : C → List S) (code : Code S) where
  -- If it is said how the run ended, one of these threads met a limit, and its next turn meets it again.
  abbrev pub EndedAtLimit : Setup C → List (JThread C) → Option How → Type 0
  EndedAtLimit k xs None = Unit {0}
  EndedAtLimit k xs (Some (how.Limit t limit)) =
      (x : JThread C) × Contains xs x × (x.own.number ≡ t) × MeetsLimit code k (thread_of state saved x) limit
  EndedAtLimit k xs (Some end) = ⊥

  -- The words are those after a run of the program of which these parts are all that its threads did; each thread is after the steps of
  -- its part; and the counts are those of all parts together.
  pub record IsHandedOver (k : Setup C) (words : PlainWords) (ps : List (ThreadPart C)) (going : Going C) : Type 0 where
    pub whole : IsWholeRun state code k (words_in words) ps
    pub after : AreAfterSteps state saved code k ps going.threads.items
    pub bounds : All (λ x. x.own.bounds ≡ setup_bounds k) going.threads.items
    pub opened : going.opened ≡ opened_in_parts ps
    pub undone : going.undone ≡ undone_in_parts ps
    pub how : EndedAtLimit k going.threads.items going.how

  -- Such a run is at a place to which acts lead from the program's opening, and from which it can go on, where that is so of each run of
  -- the program.
  abbrev pub HandedOverRunsGoOn : Type 0
  HandedOverRunsGoOn = (k : Setup C) (words : PlainWords) (ps : List (ThreadPart C)) (going : Going C) → ThreadsCanGoOn state code k
      → StaysWell code (setup_bounds k) words.areas (opening_core k.opening (state k.code)) → IsHandedOver k words ps going
      → (place : Progress S) × AreActs code (setup_bounds k) (opening_core k.opening (state k.code)) place × IsGoing code (thread_of state saved) (setup_bounds k) words going place

  -- Threads that are where the parts of their seats say are after the steps of these parts, and have the bounds of the table's program.
  abbrev pub SeatedThreadsAreAfterSteps : Type 0
  SeatedThreadsAreAfterSteps = (table : TableWords C) (xs : List (SeatedThread C)) → All (StandsOn state saved code table) xs
      → AreAfterSteps state saved code (setup_in table) (parts_of_threads xs) (map (λ x. x.thread) xs)
      × All (λ x. x.own.bounds ≡ setup_bounds (setup_in table)) (map (λ x. x.thread) xs)
