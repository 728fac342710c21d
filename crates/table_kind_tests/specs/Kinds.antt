-- Two threads that are all threads on a table.
use Rattle.std.specs.Prelude.{List, ◌++◌}
use Rattle.op_core.specs.ThreadCode.{Code}
use Rattle.table_words.specs.declared.table.TableWords.{TableWords}
use Rattle.table_words.specs.Ends.{HaveAllThreads}
use Rattle.table_words.specs.Tables.{parts_of_seat}
use Rattle.table_hosts.specs.declared.seated.SeatedThread.{SeatedThread}
use Rattle.table_hosts.specs.Seated.{StandsOn}

-- both are where the parts of their seats say, and their seats have the parts of all threads
pub record AreAllOn {C S : Type 0} (state : C → S) (saved : C → List S) (code : Code S) (table : TableWords C) (main other : SeatedThread C) : Type 0 where
  pub main_stands : StandsOn state saved code table main
  pub other_stands : StandsOn state saved code table other
  pub all : HaveAllThreads (parts_of_seat main.seat ++ parts_of_seat other.seat)
