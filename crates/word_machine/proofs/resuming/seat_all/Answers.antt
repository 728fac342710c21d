use Rattle.std.proofs.Common.{Some, sym, ◌∙◌, ap}
use Rattle.op_core.specs.OrdinaryState.{set_at}
use Rattle.thread_moves.specs.declared.thread.JThread.{JThread}
use Rattle.word_machine.specs.Seats.{seat_in}
use Rattle.word_machine.proofs.ResumeLemmas.{seats_more}
use Rattle.word_machine.proofs.resuming.seat_all.Goals as goal

pub loop-thread-preserved : goal.loop-thread-preserved
loop-thread-preserved g c = c.put.ensures ∙ ap (λ n. set_at (seat_in c.loop-thread.seats.places.items) n (Some c.in-Some.thread)) (c.number-number.ensures ∙ ap (λ (z : JThread _). z.own.number) c.thread.ensures)
    ∙ ap (λ seats. set_at seats c.in-Some.thread.own.number (Some c.in-Some.thread)) c.loop-thread.invariant ∙ sym (seats_more _ c.loop-thread.yielded c.in-Some.thread)
