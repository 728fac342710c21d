use Rattle.std.proofs.Common.{◌≡◌, None, length}
use Rattle.word_machine.specs.Seats.{seat_in}
use Rattle.word_machine.proofs.seats.empty_places.Given as goal

abbrev pub invariant-loop : goal.invariant-loop
invariant-loop g l = record {
  seats : seat_in l.places.items ≡ (λ _. None);
  length : length l.places.items ≡ l.counter;
}
