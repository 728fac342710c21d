use Rattle.std.proofs.Common.{length, refl}
use Rattle.std.proofs.lemmas.Option.{slice_get_read}
use Rattle.std.proofs.lemmas.Result.{err_from_is_err_and}
use Rattle.rules.proofs.RuleLaws.{one_more, all_hold}
use Rattle.instructions.specs.declared.what.Instr.{Instr}
use Rattle.instructions.specs.declared.what.Target.{Target}
use Rattle.link_rules.specs.LinkRules.{what_rules}
use Rattle.use_rules.proofs.uses.check_steps.Goals as goal

pub returns-in_err-check_what : goal.returns-in_err-check_what
returns-in_err-check_what c =
    let items = c.args.steps.now in
    let at = slice_get_read items (length items) c.loop-step.step-index c.step-item.result refl c.loop-step-test.true c.step-item.is in
    let p = err_from_is_err_and c.from_residual.result c.from_residual.ensures.1 in
    rw (p.1, p.2) (c.loop-step.step-index, c.step-item.result, at, c.loop-step.invariant, c.in_err-check_what.ensures)

pub loop-step-preserved : goal.loop-step-preserved
loop-step-preserved c =
    let n = c.args.names.now in
    let items = c.args.steps.now in
    let at = slice_get_read items (length items) c.loop-step.step-index c.step-item.result refl c.loop-step-test.true c.step-item.is in
    one_more (λ i (s : Instr Target). what_rules n.classes n.place n.pool s.what) items c.loop-step.step-index c.step-item.result at c.loop-step.invariant c.in_ok-check_what.ensures

pub returns : goal.returns
returns c =
    let n = c.args.names.now in
    all_hold (λ i (s : Instr Target). what_rules n.classes n.place n.pool s.what) c.args.steps.now c.loop-step.step-index c.loop-step-test.false c.loop-step.invariant
