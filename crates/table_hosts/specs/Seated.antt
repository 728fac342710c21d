-- Threads with their seats, as contracts see them.
use Rattle.std.specs.Prelude.{Option, None, Some, List, [], ◌∷◌, ◌++◌}
use Rattle.op_core.specs.ThreadCode.{Code}
use Rattle.rollback_core.specs.declared.turned.Turn.{Turn}
use Rattle.table_words.specs.declared.setup.ThreadPart.{ThreadPart}
use Rattle.table_words.specs.declared.seat.TableSeat.{TableSeat}
use Rattle.table_words.specs.declared.table.TableWords.{TableWords}
use Rattle.table_words.specs.Tables.{setup_in, parts_of_seat, IsSeatOf}
use Rattle.table_hosts.specs.declared.seated.SeatedThread.{SeatedThread}
use Rattle.table_hosts.specs.Standing.{StandsAtView}
use Rattle.table_hosts.specs.Families.{HaveNoSteps}

module _ {C S : Type 0} (state : C → S) (saved : C → List S) (code : Code S) where
  -- the seat is one of the table, and the thread is where its part says
  abbrev pub StandsOn : TableWords C → SeatedThread C → Type 0
  StandsOn table x = IsSeatOf table x.seat × StandsAtView state saved code (setup_in table) x.thread (parts_of_seat x.seat)

  -- a thread that was just handed out is where its part says too, and has made no step
  abbrev pub BeginsOn : TableWords C → SeatedThread C → Type 0
  BeginsOn table x = StandsOn table x × HaveNoSteps (parts_of_seat x.seat)

  -- so is a thread that a turn hands out
  abbrev pub BornStandsOn : TableWords C → Turn C (TableSeat C) → Type 0
  BornStandsOn table (Turn.Born child pass) =
      (IsSeatOf table pass × StandsAtView state saved code (setup_in table) child.value (parts_of_seat pass)) × HaveNoSteps (parts_of_seat pass)
  BornStandsOn table turn = Unit {0}

module _ {C : Type 0} where
  -- the parts of these threads
  abbrev pub parts_of_threads : List (SeatedThread C) → List (ThreadPart C)
  parts_of_threads [] = []
  parts_of_threads (x ∷ xs) = parts_of_seat x.seat ++ parts_of_threads xs

  -- the parts of a thread that a turn hands out
  abbrev pub parts_born : Turn C (TableSeat C) → List (ThreadPart C)
  parts_born (Turn.Born child pass) = parts_of_seat pass
  parts_born turn = []

  abbrev pub parts_of_child : Option (SeatedThread C) → List (ThreadPart C)
  parts_of_child None = []
  parts_of_child (Some x) = parts_of_seat x.seat
