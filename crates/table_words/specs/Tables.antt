-- Tables and seats, as contracts see them.
use Rattle.std.specs.Prelude.{◌≡◌, List, [], ◌∷◌, ◌++◌}
use Rattle.table_words.specs.declared.setup.Setup.{Setup}
use Rattle.table_words.specs.declared.setup.ThreadPart.{ThreadPart}
use Rattle.table_words.specs.declared.seat.TableSeat.{TableSeat}
use Rattle.table_words.specs.declared.table.TableWords.{TableWords}
use Rattle.table_words.specs.Setups.{setup_of}

-- the parts that a seat has
abbrev pub parts_of_seat : {C : Type 0} → TableSeat C → List (ThreadPart C)
parts_of_seat s = s.seat.me.0

-- the parts that all of them have
abbrev pub parts_of_seats : {C : Type 0} → List (TableSeat C) → List (ThreadPart C)
parts_of_seats [] = []
parts_of_seats (s ∷ ss) = parts_of_seat s ++ parts_of_seats ss

module _ {C : Type 0} where
  -- the program for which the table was made
  abbrev pub setup_in : TableWords C → Setup C
  setup_in x = setup_of x.table.shared.key

  -- the seat is one of this table
  abbrev pub IsSeatOf : TableWords C → TableSeat C → Type 0
  IsSeatOf x s = s.seat.table_id ≡ x.table.shared.table_id
