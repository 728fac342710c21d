use Rattle.std.proofs.Common.{sym, subst}
use Rattle.thread_automaton.specs.declared.Bounds.{Bounds}
use Rattle.thread_moves.specs.Thread.{thread_of}
use Rattle.thread_moves.specs.Change.{NamesThread}
use Rattle.turn_runs.proofs.KeptLemmas.{ready_on}
use Rattle.turn_run_tests.specs.Ready.{StaysReadyOnAny}
use Rattle.turn_run_tests.proofs.plain.give_plainly.Goals as goal

pub run_plain-plain-requires : goal.run_plain-plain-requires
run_plain-plain-requires g c = λ moves last y turns going. c.loop-call.invariant moves last y turns

pub turns-requires : goal.turns-requires
turns-requires g c =
    let plain = c.run_plain-plain.ensures.plain in
    subst (λ (b : Bounds). StaysReadyOnAny g.C.ThreadCode.code b (thread_of g.C.ThreadCode.state g.C.ThreadCode.saved c.run_plain-plain.new.ready) c.run_plain-plain.new.port) (sym c.run_plain-plain.ensures.bounds)
    (ready_on g.C.ThreadCode.code c.loop-call.ready.own.bounds (λ x step answer y. NamesThread step answer) (λ x step. Unit {0}) plain.moves _ _ _ _ c.loop-call.invariant plain.turns)
