use Rattle.std.proofs.Common.{ap, arith}
use Rattle.word_machine.proofs.seats.Seats.new.Goals as goal

pub invariant_of-result : goal.invariant_of-result
invariant_of-result g c = record { whole = c.in_ok-places.ensures.whole; most = omega arith; above = λ k above. ap (λ f. f k) c.in_ok-places.ensures.none }
