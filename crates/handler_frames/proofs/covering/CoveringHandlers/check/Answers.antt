use Rattle.std.proofs.Common.{◌+◌, subst, arith}
use Rattle.type_rules.specs.TypeFaults.{handlers_fault}
use Rattle.typing_frames.specs.Told.{Tells}
use Rattle.handler_frames.specs.Known.{KnowsHandlers}
use Rattle.handler_frames.proofs.KnownLaws.{if_ok, knows_follow, knows_later}
use Rattle.handler_frames.proofs.MethodLaws.{handlers_follow, made_follow}
use Rattle.handler_frames.proofs.covering.CoveringHandlers.check.Goals as goal

pub returns-then-branch-clause-knows : goal.returns-then-branch-clause-knows
returns-then-branch-clause-knows g c = λ env knows.
    knows_later c.passes.new.stores c.passes.new.self env c.args.step (c.args.step + 1) (omega arith) (c.in_ok-passes.ensures.knows env knows)

pub check_in_order-requires-clause-made : goal.check_in_order-requires-clause-made
check_in_order-requires-clause-made g c = made_follow c.args.stores.now c.passes.new.stores c.args.method c.in_ok-passes.ensures.leaves.follows c.requires.made

pub returns-clause-told : goal.returns-clause-told
returns-clause-told g c = λ env same are knows.
    let leaves = c.in_ok-passes.ensures.leaves in
    subst (λ f. Tells c.check_in_order.result (handlers_fault env c.args.step f env.handlers)) (leaves.same c.args.frame c.requires.frame)
    (c.check_in_order.ensures.told env same (handlers_follow c.args.stores.now c.passes.new.stores env (g.P.PoolOperands.operands c.args.pool.now) c.args.method leaves.follows are))

pub returns-clause-knows : goal.returns-clause-knows
returns-clause-knows g c = λ env knows.
    let step = c.args.step in
    if_ok _ _ c.check_in_order.result (KnowsHandlers c.check_in_order.new.stores c.passes.new.self env (step + 1))
    (knows_follow c.passes.new.stores c.check_in_order.new.stores c.passes.new.self env (step + 1) c.check_in_order.ensures.leaves.follows
    (knows_later c.passes.new.stores c.passes.new.self env step (step + 1) (omega arith) (c.in_ok-passes.ensures.knows env knows)))
