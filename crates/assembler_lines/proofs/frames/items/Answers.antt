use Rattle.std.proofs.lemmas.Result.{err_from_is_err_and}
use Rattle.assembler_lines.specs.ReadingFrames.{item_of}
use Rattle.assembler_lines.proofs.EachLaws.{each_on, each_fails, each_done}
use Rattle.assembler_lines.proofs.frames.items.Goals as goal

pub returns-in_err-item : goal.returns-in_err-item
returns-in_err-item c =
    let p = err_from_is_err_and c.from_residual.result c.from_residual.ensures.1 in
    rw (p.1, p.2) (each_fails item_of c.loop-said.items c.args.words.now c.loop-said.said-index c.said-item.result c.in_err-item.field-0.0 _ c.loop-said-test.true c.said-item.is c.in_err-item.ensures c.loop-said.invariant)

pub loop-said-preserved : goal.loop-said-preserved
loop-said-preserved c =
    rw c.in_ok-push.ensures.ok (each_on item_of c.loop-said.items c.args.words.now c.loop-said.said-index c.said-item.result c.in_ok-item.item _ c.loop-said-test.true c.said-item.is c.in_ok-item.ensures c.loop-said.invariant)

pub returns : goal.returns
returns c = each_done item_of c.loop-said.items c.args.words.now c.loop-said.said-index _ c.loop-said-test.false c.loop-said.invariant
