use Rattle.std.proofs.Common.{Err, subst, ◌∙◌, ap}
use Rattle.std.proofs.lemmas.Result.{err_from_is_err_and}
use Rattle.instructions.specs.What.{targets_of}
use Rattle.type_rules.specs.TypeFaults.{flows_fault}
use Rattle.typing_frames.specs.Frames.{shown}
use Rattle.handler_frames.proofs.MethodLaws.{made_follow}
use Rattle.method_check.proofs.Flowing.{Flows, flows_go_on, flows_break}
use Rattle.method_check.proofs.flows.check_flows.Goals as goal

pub check_flow-requires-clause-made : goal.check_flow-requires-clause-made
check_flow-requires-clause-made g c =
    made_follow c.args.stores.now c.loop-target.stores c.args.method c.loop-target.invariant.2.leaves.follows c.requires.made

pub loop-target-preserved : goal.loop-target-preserved
loop-target-preserved g c =
    let h = g.H.ClassHierarchy.hierarchy c.args.hierarchy.now in
    let all = targets_of c.args.what.now in
    let now = c.in_ok-check_flow.ensures in (
      tt,
      tt,
      flows_go_on h c.args.method c.args.frame c.args.stores.now c.loop-target.stores c.check_flow.new.stores all c.in-Some.target c.next.new.self c.requires.frame
          (subst (λ left. Flows h c.args.method c.args.frame c.args.stores.now c.loop-target.stores all left) c.in-Some.ensures.steps c.loop-target.invariant.2)
          now.leaves now.remembered now.told,
    )

pub returns-in_err-check_flow-clause-told : goal.returns-in_err-check_flow-clause-told
returns-in_err-check_flow-clause-told g c = λ env operands same are.
    let h = g.H.ClassHierarchy.hierarchy c.args.hierarchy.now in
    let all = targets_of c.args.what.now in
    let p = err_from_is_err_and c.from_residual.result c.from_residual.ensures.1 in
    flows_break (Unit {0}) (Unit {0}) h c.args.method c.args.frame c.args.stores.now c.loop-target.stores all c.in-Some.target c.next.new.self
    c.from_residual.result c.in_err-check_flow.field-0.0 (p.1 ∙ ap Err p.2) c.requires.frame
    (subst (λ left. Flows h c.args.method c.args.frame c.args.stores.now c.loop-target.stores all left) c.in-Some.ensures.steps c.loop-target.invariant.2)
    c.in_err-check_flow.ensures.told env operands same are

pub returns-clause-told : goal.returns-clause-told
returns-clause-told g c = λ env operands same are.
    c.loop-target.invariant.2.rest env operands same are
    ∙ ap (flows_fault env (shown c.args.stores.now c.args.frame)) c.in-None.ensures.steps.0
