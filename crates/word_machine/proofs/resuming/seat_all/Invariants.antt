use Rattle.std.proofs.Common.{◌≡◌}
use Rattle.word_machine.specs.Seats.{seat_in}
use Rattle.word_machine.specs.Resumed.{seats_with}
use Rattle.word_machine.proofs.resuming.seat_all.Given as goal

abbrev pub invariant-loop-thread : goal.invariant-loop-thread
invariant-loop-thread g l = seat_in l.seats.places.items ≡ seats_with (seat_in l.initial.seats.places.items) l.yielded
