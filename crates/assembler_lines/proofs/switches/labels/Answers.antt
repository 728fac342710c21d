use Rattle.std.proofs.lemmas.Result.{err_from_is_err_and}
use Rattle.assembler_lines.specs.ReadingSwitches.{plain_name}
use Rattle.assembler_lines.proofs.EachLaws.{each_on, each_fails, each_done}
use Rattle.assembler_lines.proofs.switches.labels.Goals as goal

pub returns-in_err-label : goal.returns-in_err-label
returns-in_err-label c =
    let p = err_from_is_err_and c.from_residual.result c.from_residual.ensures.1 in
    rw (p.1, p.2) (each_fails plain_name c.loop-said.labels c.args.words.now c.loop-said.said-index c.said-item.result c.in_err-label.field-0.0 _ c.loop-said-test.true c.said-item.is c.in_err-label.ensures c.loop-said.invariant)

pub loop-said-preserved : goal.loop-said-preserved
loop-said-preserved c =
    rw c.in_ok-push.ensures.ok (each_on plain_name c.loop-said.labels c.args.words.now c.loop-said.said-index c.said-item.result c.in_ok-label.label _ c.loop-said-test.true c.said-item.is c.in_ok-label.ensures c.loop-said.invariant)

pub returns : goal.returns
returns c = each_done plain_name c.loop-said.labels c.args.words.now c.loop-said.said-index _ c.loop-said-test.false c.loop-said.invariant
