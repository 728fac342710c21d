use Rattle.std.proofs.Common.{Some, refl, sym, ◌∙◌, ap, subst}
use Rattle.thread_moves.specs.Thread.{thread_of}
use Rattle.thread_moves.specs.declared.thread.JThread.{JThread}
use Rattle.word_machine.specs.Turns.{KeepsBounds, TurnsAt}
use Rattle.word_machine.proofs.SeatLemmas.{some_same, err_has}
use Rattle.word_machine.proofs.turning.turn_at.Goals as goal

pub returns-in_err-turn_of-in-Some-clause-err_bounds : goal.returns-in_err-turn_of-in-Some-clause-err_bounds
returns-in_err-turn_of-in-Some-clause-err_bounds g c = err_has c.from_residual.result (KeepsBounds c.args.place.now (Some c.turn_of.new.ready))
    (λ y is. (c.in-Some.ready, c.in-Some.is, ap (λ (z : JThread _). z.own.bounds) (sym (some_same _ y is)) ∙ c.turn_of.ensures.bounds))

pub returns-in_ok-turn_of-in-Some-clause-made : goal.returns-in_ok-turn_of-in-Some-clause-made
returns-in_ok-turn_of-in-Some-clause-made g c =
    subst (λ place. TurnsAt g.C.ThreadCode.code (thread_of g.C.ThreadCode.state g.C.ThreadCode.saved) c.args.words.now place (Some c.in_ok-turn_of-in-Some.field-0) c.turn_of.new.words (Some c.turn_of.new.ready)) (sym c.in-Some.is)
    (c.in_ok-turn_of-in-Some.field-0, c.turn_of.new.ready, refl, refl, c.in_ok-turn_of-in-Some.ensures.made)
