use Rattle.std.proofs.Common.{◌∙◌, sym}
use Rattle.thread_moves.specs.Thread.{thread_of}
use Rattle.rollback_core.proofs.MoveLemmas.{makes_own_step, saves_of, enters_of, opens_below, replies_fit_of}
use Rattle.rollback_core.proofs.ToldLemmas.{told_unborn, step_made}
use Rattle.rollback_core.proofs.turning.step_turn.Goals as goal

pub prepare-requires-clause-enters : goal.prepare-requires-clause-enters
prepare-requires-clause-enters g c =
    enters_of g.C.ThreadCode.code c.args.thread.now.own.bounds (thread_of g.C.ThreadCode.state g.C.ThreadCode.saved c.args.thread.now) c.args.step c.requires.fits c.requires.makes

pub prepare-requires-clause-saves : goal.prepare-requires-clause-saves
prepare-requires-clause-saves g c = saves_of g.C.ThreadCode.state g.C.ThreadCode.saved g.C.ThreadCode.code c.args.thread.now c.requires.settled c.requires.fits

pub make_step-answer-requires-clause-own : goal.make_step-answer-requires-clause-own
make_step-answer-requires-clause-own g c = makes_own_step g.C.ThreadCode.code c.args.thread.now.own.bounds (thread_of g.C.ThreadCode.state g.C.ThreadCode.saved c.args.thread.now) c.args.step c.requires.fits c.requires.makes c.requires.apart

pub absorb-told-requires-clause-fits : goal.absorb-told-requires-clause-fits
absorb-told-requires-clause-fits g c =
    replies_fit_of _ _ _ _ _ c.args.next c.args.step c.make_step-answer.result c.requires.fits c.requires.makes c.make_step-answer.ensures.kind
    c.prepare.ensures.bounds c.prepare.ensures.thread c.requires.next

pub absorb-told-requires-clause-levels : goal.absorb-told-requires-clause-levels
absorb-told-requires-clause-levels g c = opens_below g.C.ThreadCode.code c.args.thread.now.own.bounds (thread_of g.C.ThreadCode.state g.C.ThreadCode.saved c.args.thread.now)
    (thread_of g.C.ThreadCode.state g.C.ThreadCode.saved c.prepare.new.thread) c.args.step c.requires.fits c.requires.makes c.prepare.ensures.thread

pub said-requires : goal.said-requires
said-requires g c = λ is.
    told_unborn g.C.ThreadCode.code c.prepare.new.thread.own.bounds (thread_of g.C.ThreadCode.state g.C.ThreadCode.saved c.prepare.new.thread) c.args.step
    c.make_step-answer.result c.requires.apart (sym c.absorb-told.ensures.told ∙ is)

pub returns-clause-made : goal.returns-clause-made
returns-clause-made g c =
    step_made _ _ _ _ _ _ _ c.args.next c.args.step c.make_step-answer.result _ _ _ _ c.prepare.ensures.bounds c.prepare.ensures.thread c.requires.next
    c.make_step-answer.ensures.made c.make_step-answer.ensures.kind c.requires.apart c.absorb-told.ensures.thread c.absorb-told.ensures.told c.said.ensures.says
