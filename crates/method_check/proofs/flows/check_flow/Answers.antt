use Rattle.std.proofs.Common.{Some, None, ap, ◌∙◌}
use Rattle.type_rules.specs.MapFrames.{map_frame_at}
use Rattle.type_rules.specs.declared.refusal.VerifyKind.TheVariants.{FrameMismatch}
use Rattle.type_rules.specs.TypeFaults.{unless}
use Rattle.typing_frames.specs.Frames.{shown}
use Rattle.method_check.proofs.Flowing.{map_there, none_there, taken}
use Rattle.method_check.proofs.Kept.{room_at}
use Rattle.method_check.proofs.flows.check_flow.Goals as goal

pub returns-in_default-clause-told : goal.returns-in_default-clause-told
returns-in_default-clause-told g c = λ env operands same are.
    let stores = c.args.stores.now in
    none_there env (shown stores c.args.frame) stores (env.map_at c.args.step)
    (map_there stores env operands c.args.method None c.args.step c.in_default.ensures are)

pub takes-requires-clause-map : goal.takes-requires-clause-map
takes-requires-clause-map g c =
    let made = c.requires.made in
    room_at c.args.stores.now (Some c.in-Some.map) (map_frame_at made.item made.constructs made.values c.args.method.frames.now c.args.step)
    (c.in-Some.ensures c.args.stores.now made.item made.constructs made.values made.are)

pub returns-then-not-branch-clause-told : goal.returns-then-not-branch-clause-told
returns-then-not-branch-clause-told g c = λ env operands same are.
    let stores = c.args.stores.now in
    taken env (shown stores c.args.frame) stores c.in-Some.map (env.map_at c.args.step) _
    (map_there stores env operands c.args.method (Some c.in-Some.map) c.args.step c.in-Some.ensures are) (λ h maps. c.in_ok-takes.ensures.told env h same maps)
    ∙ ap (λ b. unless b FrameMismatch) c.if-not-branch.true

pub returns-clause-told : goal.returns-clause-told
returns-clause-told g c = λ env operands same are.
    let stores = c.args.stores.now in
    taken env (shown stores c.args.frame) stores c.in-Some.map (env.map_at c.args.step) _
    (map_there stores env operands c.args.method (Some c.in-Some.map) c.args.step c.in-Some.ensures are) (λ h maps. c.in_ok-takes.ensures.told env h same maps)
    ∙ ap (λ b. unless b FrameMismatch) c.if-not-branch.false
