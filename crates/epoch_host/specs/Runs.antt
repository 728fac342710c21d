-- How a run on host threads is handed over.
use Rattle.std.specs.Prelude.{◌≡◌, ◌⊎◌, true, Option, None, Some, List, ◌∷◌, map}
use Rattle.std.specs.List.{All}
use Rattle.op_core.specs.declared.How.{How}
use Rattle.op_core.specs.ThreadCode.{Code}
use Rattle.thread_moves.specs.Thread.{thread_of}
use Rattle.table_words.specs.declared.setup.Setup.{Setup}
use Rattle.table_words.specs.declared.table.TableWords.{TableWords}
use Rattle.table_words.specs.Ends.{HaveAllThreads}
use Rattle.table_words.specs.Tables.{setup_in, parts_of_seat, parts_of_seats}
use Rattle.table_hosts.specs.declared.seated.SeatedThread.{SeatedThread}
use Rattle.table_hosts.specs.Seated.{StandsOn}
use Rattle.table_hosts.specs.Tallies.{opened_in_parts, undone_in_parts, EndsIdly}
use Rattle.epoch_host.specs.declared.met.MetLimit.{MetLimit}
use Rattle.epoch_host.specs.declared.hosts.HostRun.{HostRun}
use Rattle.epoch_host.specs.Work.{IsMetAmong}

-- how a run is over in which this limit was met, if one was
abbrev pub how_of : Option MetLimit → Option How
how_of None = None
how_of (Some met) = Some (How.Limit met.thread met.limit)

module _ {C S : Type 0} (state : C → S) (saved : C → List S) (code : Code S) where
  -- the thread has ended, or each of its last eight turns made a step that didn't count
  abbrev pub HasEndedOrIdles : TableWords C → SeatedThread C → Type 0
  HasEndedOrIdles table x = (x.thread.own.over ≡ true)
      ⊎ EndsIdly state saved code (setup_in table) 8 (thread_of state saved x.thread) (parts_of_seat x.seat)

  -- Why the run was over. It ended where one of the threads has met a limit, which its next turn meets. Else each of them has ended
  -- or idles.
  abbrev pub IsCauseOf : TableWords C → List (SeatedThread C) → Option How → Type 0
  IsCauseOf table threads None = All (HasEndedOrIdles table) threads
  IsCauseOf table threads (Some (How.Limit t l)) = IsMetAmong state saved code table threads t l
  IsCauseOf table threads (Some how) = ⊥

  -- The run of this program was handed over with its threads, each of which has the seat at the same place, and is where that one's
  -- part says. These are all threads, and their steps opened and undid as much as is counted.
  pub record IsHostRun (k : Setup C) (run : HostRun C) : Type 0 where
    pub setup : setup_in run.table ≡ k
    pub seated : List (SeatedThread C)
    pub threads : run.going.threads.items ≡ map (λ (x : SeatedThread C). x.thread) seated
    pub seats : run.first ∷ run.rest.items ≡ map (λ (x : SeatedThread C). x.seat) seated
    pub stand : All (StandsOn state saved code run.table) seated
    pub all : HaveAllThreads (parts_of_seats (run.first ∷ run.rest.items))
    pub opened : run.going.opened ≡ opened_in_parts (parts_of_seats (run.first ∷ run.rest.items))
    pub undone : run.going.undone ≡ undone_in_parts (parts_of_seats (run.first ∷ run.rest.items))
    pub how : IsCauseOf run.table seated run.going.how
