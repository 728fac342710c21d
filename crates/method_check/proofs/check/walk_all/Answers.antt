use Rattle.std.proofs.Common.{◌≡◌, ◌≤◌, Some, slice_get, length, sym, subst, ◌∙◌}
use Rattle.type_laws.specs.Walks.{IsWalkedTo}
use Rattle.type_laws.proofs.Walked.{decide}
use Rattle.method_check.proofs.Walked.{ends, there, walking_on, walking_stops}
use Rattle.method_check.proofs.check.walk_all.Goals as goal

pub loop-number-init : goal.loop-number-init
loop-number-init g c =
    let env = g.W.MethodWorld.environment c.args.world.now in
    record {
      walked = c.requires.walked;
      comes = c.requires.comes;
      kept = subst (IsWalkedTo env 0) (sym c.requires.before) (decide env).start;
    }

pub step-requires-clause-there : goal.step-requires-clause-there
step-requires-clause-there g c =
    let env = g.W.MethodWorld.environment c.args.world.now in
    let items = c.as_slice-instruction-items.result.now in
    let are : env.steps ≡ items = c.loop-number.invariant.walked.steps ∙ sym c.as_slice-instruction-items.ensures in
    there env items are c.in-Ok.step c.loop-number.number c.instruction-item.result c.in-Ok.ensures.1 c.loop-number-test.true c.instruction-item.is

pub returns-in-Err-clause-first : goal.returns-in-Err-clause-first
returns-in-Err-clause-first g c =
    let env = g.W.MethodWorld.environment c.args.world.now in
    let items = c.as_slice-instruction-items.result.now in
    let are : env.steps ≡ items = c.loop-number.invariant.walked.steps ∙ sym c.as_slice-instruction-items.ensures in
    let item = c.instruction-item.result in
    let at : slice_get env.steps c.in-Ok.step ≡ Some item =
    there env items are c.in-Ok.step c.loop-number.number item c.in-Ok.ensures.1 c.loop-number-test.true c.instruction-item.is in
    walking_stops env (g.P.PoolOperands.operands c.args.pool.now) c.args.method.now c.loop-number.walk c.in-Ok.step c.loop-number.number item c.in-Ok.ensures.1 at c.loop-number.invariant
    c.in-Err.stop c.refusal_at.result c.refusal_at.ensures c.in-Err.ensures.told

pub loop-number-preserved : goal.loop-number-preserved
loop-number-preserved g c =
    let env = g.W.MethodWorld.environment c.args.world.now in
    let items = c.as_slice-instruction-items.result.now in
    let are : env.steps ≡ items = c.loop-number.invariant.walked.steps ∙ sym c.as_slice-instruction-items.ensures in
    let item = c.instruction-item.result in
    let at : slice_get env.steps c.in-Ok.step ≡ Some item =
    there env items are c.in-Ok.step c.loop-number.number item c.in-Ok.ensures.1 c.loop-number-test.true c.instruction-item.is in
    let told = c.in_default-step.ensures in
    walking_on env (g.P.PoolOperands.operands c.args.pool.now) c.args.method.now c.loop-number.walk c.in-Ok.step c.loop-number.number item c.in-Ok.ensures.1 at c.loop-number.invariant
    c.step.new.self told.walked told.comes told.falls told.told

pub returns-clause-safe : goal.returns-clause-safe
returns-clause-safe g c =
    let env = g.W.MethodWorld.environment c.args.world.now in
    let are : env.steps ≡ c.as_slice-instruction-items.result.now = c.loop-number.invariant.walked.steps ∙ sym c.as_slice-instruction-items.ensures in
    ends env c.loop-number.number _ (subst (λ s. length s ≤ c.loop-number.number) (sym are) c.loop-number-test.false) c.loop-number.invariant.kept
