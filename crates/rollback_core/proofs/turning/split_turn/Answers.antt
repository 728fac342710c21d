use Rattle.std.proofs.Common.{refl}
use Rattle.step_port.specs.declared.answer.StepAnswer.TheVariants.{Found}
use Rattle.step_port.specs.declared.step.Step.TheVariants.{Split}
use Rattle.thread_automaton.specs.ThreadState.{ThreadState}
use Rattle.thread_moves.specs.Thread.{thread_of}
use Rattle.rollback_core.proofs.MoveLemmas.{replies_fit_of, ready_of}
use Rattle.rollback_core.proofs.turning.split_turn.Goals as goal

pub absorb-told-requires-clause-fits : goal.absorb-told-requires-clause-fits
absorb-told-requires-clause-fits g c =
    let th : ThreadState g.C.ThreadCode.State = thread_of g.C.ThreadCode.state g.C.ThreadCode.saved c.args.thread.now in
    replies_fit_of g.C.ThreadCode.code c.args.thread.now.own.bounds c.args.thread.now.own.bounds th th c.args.next (Split c.args.number c.args.object c.args.priority)
    (Found 0) c.requires.fits c.requires.makes tt refl refl c.requires.next

pub absorb-told-requires-clause-ready : goal.absorb-told-requires-clause-ready
absorb-told-requires-clause-ready g c = ready_of g.C.ThreadCode.state g.C.ThreadCode.saved g.C.ThreadCode.code c.args.thread.now c.requires.settled c.requires.fits
