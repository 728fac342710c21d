use Rattle.std.proofs.Common.{◌∙◌, Err, ap, arith}
use Rattle.std.proofs.lemmas.Result.{err_from_is_err_and}
use Rattle.code_decode.specs.declared.code.Handler.{Handler}
use Rattle.handler_frames.proofs.MethodLaws.{made_follow, checking_more, next_refuses}
use Rattle.handler_frames.proofs.ordered.check_in_order.Goals as goal

pub check_covering-requires-clause-made : goal.check_covering-requires-clause-made
check_covering-requires-clause-made g c = made_follow c.args.stores.now c.loop-handler.stores c.args.method c.loop-handler.invariant.leaves.follows c.requires.made

pub returns-in_err-check_covering-clause-told : goal.returns-in_err-check_covering-clause-told
returns-in_err-check_covering-clause-told g c =
    let p = err_from_is_err_and c.from_residual.result c.from_residual.ensures.1 in
    let d : Handler = record { from = 0; to = 0; at = 0; kind = 0; first = 0; end = 0; entry = 0 } in
    next_refuses (g.H.ClassHierarchy.hierarchy c.args.hierarchy.now) (g.P.PoolOperands.operands c.args.pool.now) c.args.stores.now c.args.method c.args.step c.args.frame c.requires.frame
    (Unit {0}) (Unit {0}) c.loop-handler.stores c.loop-handler.handler-index d c.from_residual.result c.in_err-check_covering.field-0.0 (p.1 ∙ ap Err p.2) c.loop-handler.invariant (omega (arith, c.loop-handler-test.true))
    c.in_err-check_covering.ensures.told

pub loop-handler-preserved : goal.loop-handler-preserved
loop-handler-preserved g c =
    let told = c.in_ok-check_covering.ensures in
    let d : Handler = record { from = 0; to = 0; at = 0; kind = 0; first = 0; end = 0; entry = 0 } in
    checking_more (g.H.ClassHierarchy.hierarchy c.args.hierarchy.now) (g.P.PoolOperands.operands c.args.pool.now) c.args.stores.now c.args.method c.args.step c.args.frame c.requires.frame
    c.loop-handler.stores c.check_covering.new.stores c.loop-handler.handler-index d c.loop-handler.invariant (omega (arith, c.loop-handler-test.true)) told.leaves told.remembered told.told
