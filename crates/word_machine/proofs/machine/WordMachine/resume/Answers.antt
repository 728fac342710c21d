use Rattle.std.proofs.Common.{◌≡◌, ◌∙◌, ap}
use Rattle.thread_moves.specs.Thread.{thread_of}
use Rattle.thread_moves.specs.declared.thread.JThread.{JThread}
use Rattle.word_machine.specs.Seats.{seat_in}
use Rattle.word_machine.specs.Resumed.{seats_with}
use Rattle.word_machine.proofs.ResumeLemmas.{all_seated, is_core}
use Rattle.word_machine.proofs.machine.WordMachine.resume.Goals as goal

pub invariant_of-result : goal.invariant_of-result
invariant_of-result g c = record {
  bound = λ t x here. all_seated (λ (z : JThread _). z.own.bounds ≡ c.args.bounds) c.args.threads.items (seat_in c.seat_all.new.seats.places.items)
      (c.seat_all.ensures ∙ ap (λ seats. seats_with seats c.args.threads.items) c.in_ok-seats.ensures) c.requires t x here;
}

pub returns-clause-core : goal.returns-clause-core
returns-clause-core g c = λ core words are. is_core (thread_of g.C.ThreadCode.state g.C.ThreadCode.saved) c.args.words c.args.threads.items c.seat_all.new.seats.places.items
    (c.seat_all.ensures ∙ ap (λ seats. seats_with seats c.args.threads.items) c.in_ok-seats.ensures) core words are
