use Rattle.std.proofs.Common.{◌≡◌, ◌++◌}
use Rattle.table_words.specs.Tables.{parts_of_seat, parts_of_seats, IsSeatOf}
use Rattle.table_words.proofs.table.TableWords.join_all.Given as goal

abbrev pub invariant-loop-other : goal.invariant-loop-other
invariant-loop-other g l = IsSeatOf l.self l.seat × (parts_of_seat l.seat ≡ parts_of_seat l.initial.seat ++ parts_of_seats l.yielded)
