use Rattle.std.proofs.Common.{◌<◌, Some, sym, subst}
use Rattle.word_machine.proofs.SeatLemmas.{seats_set}
use Rattle.word_machine.proofs.seats.Seats.put.Goals as goal

pub returns : goal.returns
returns g c = seats_set c.args.self.now.places.items c.args.number (Some c.args.thread) (subst (λ n. c.args.number < n) (sym c.args.self.now.whole) c.ranges.number.fits)
