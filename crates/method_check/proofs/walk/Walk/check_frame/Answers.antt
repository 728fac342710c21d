use Rattle.std.proofs.Common.{◌+◌, Ok, Err, sym, subst, ap, ◌∙◌}
use Rattle.std.proofs.lemmas.Result.{err_from_is_err_and}
use Rattle.type_rules.specs.TypeFaults.{end_fault}
use Rattle.typing_frames.specs.Frames.{shown, StoresRemember}
use Rattle.typing_frames.specs.declared.stores.CurrentFrame.{CurrentFrame}
use Rattle.handler_frames.specs.Known.{FitsStores}
use Rattle.handler_frames.specs.Methods.{AreHandlersOf}
use Rattle.handler_frames.proofs.KnownLaws.{fits_follow, knows_follow}
use Rattle.handler_frames.proofs.MethodLaws.{handlers_follow, made_follow}
use Rattle.method_check.proofs.Kept.{walked_kept}
use Rattle.method_check.proofs.Stepped.{IsBehind, is_behind, flows_told, end_told}
use Rattle.method_check.proofs.Told.{only_broken}
use Rattle.method_check.proofs.walk.Walk.check_frame.Goals as goal

pub check_flows-requires-clause-made : goal.check_flows-requires-clause-made
check_flows-requires-clause-made g c =
    let method = c.args.method.now.handlers in
    made_follow c.check.new.stores c.frame_behind.new.stores method c.in_ok-behind.ensures.follows
    (made_follow c.args.self.now.stores c.check.new.stores method c.in_ok-check.ensures.leaves.follows c.requires.walked.handlers.made)

pub returns-in_err-check_flows-clause-told : goal.returns-in_err-check_flows-clause-told
returns-in_err-check_flows-clause-told g c =
    let env = g.W.MethodWorld.environment c.args.world.now in
    let i = c.args.instruction.now in
    let first = c.args.self.now.stores in
    let second = c.check.new.stores in
    let third = c.frame_behind.new.stores in
    let f = shown first c.args.frame in
    let behind = shown third c.in_ok-behind.behind in
    let passed : IsBehind env c.args.step i f behind =
    is_behind env c.args.step i first second c.args.frame behind c.in_ok-check.ensures.leaves c.requires.frame
    (c.in_ok-check.ensures.told env c.classes.ensures c.requires.walked.handlers c.requires.comes.knows) c.in_ok-behind.ensures.told c.in_ok-behind.ensures.shown in
    let operands = g.P.PoolOperands.operands c.args.pool.now in
    let method = c.args.method.now.handlers in
    let there : AreHandlersOf env third operands method = handlers_follow second third env operands method c.in_ok-behind.ensures.follows
    (handlers_follow first second env operands method c.in_ok-check.ensures.leaves.follows c.requires.walked.handlers) in
    let r = c.from_residual-in_err-check_flows.result in
    let p = err_from_is_err_and r c.from_residual-in_err-check_flows.ensures.1 in
    flows_told env c.args.step i f behind passed (Unit {0}) CurrentFrame r c.in_err-check_flows.field-0.0 (p.1 ∙ ap Err p.2)
    (c.in_err-check_flows.ensures.told env operands c.classes-2.ensures there)

pub returns-in_err-check_end-clause-told : goal.returns-in_err-check_end-clause-told
returns-in_err-check_end-clause-told g c =
    let env = g.W.MethodWorld.environment c.args.world.now in
    let i = c.args.instruction.now in
    let first = c.args.self.now.stores in
    let second = c.check.new.stores in
    let third = c.frame_behind.new.stores in
    let f = shown first c.args.frame in
    let behind = shown third c.in_ok-behind.behind in
    let passed : IsBehind env c.args.step i f behind =
    is_behind env c.args.step i first second c.args.frame behind c.in_ok-check.ensures.leaves c.requires.frame
    (c.in_ok-check.ensures.told env c.classes.ensures c.requires.walked.handlers c.requires.comes.knows) c.in_ok-behind.ensures.told c.in_ok-behind.ensures.shown in
    let operands = g.P.PoolOperands.operands c.args.pool.now in
    let method = c.args.method.now.handlers in
    let there : AreHandlersOf env third operands method = handlers_follow second third env operands method c.in_ok-behind.ensures.follows
    (handlers_follow first second env operands method c.in_ok-check.ensures.leaves.follows c.requires.walked.handlers) in
    let r = c.from_residual-in_err-check_end.result in
    let p = err_from_is_err_and r c.from_residual-in_err-check_end.ensures.1 in
    end_told env c.args.step i f behind passed CurrentFrame r (c.in_ok-check_flows.ensures.told env operands c.classes-2.ensures there)
    (only_broken (Unit {0}) CurrentFrame (end_fault env c.args.step i.what) r c.in_err-check_end.field-0.0 (p.1 ∙ ap Err p.2) (c.in_err-check_end.ensures env c.requires.walked.steps))

pub returns-clause-told : goal.returns-clause-told
returns-clause-told g c =
    let env = g.W.MethodWorld.environment c.args.world.now in
    let i = c.args.instruction.now in
    let first = c.args.self.now.stores in
    let second = c.check.new.stores in
    let third = c.frame_behind.new.stores in
    let f = shown first c.args.frame in
    let behind = shown third c.in_ok-behind.behind in
    let passed : IsBehind env c.args.step i f behind =
    is_behind env c.args.step i first second c.args.frame behind c.in_ok-check.ensures.leaves c.requires.frame
    (c.in_ok-check.ensures.told env c.classes.ensures c.requires.walked.handlers c.requires.comes.knows) c.in_ok-behind.ensures.told c.in_ok-behind.ensures.shown in
    let operands = g.P.PoolOperands.operands c.args.pool.now in
    let method = c.args.method.now.handlers in
    let there : AreHandlersOf env third operands method = handlers_follow second third env operands method c.in_ok-behind.ensures.follows
    (handlers_follow first second env operands method c.in_ok-check.ensures.leaves.follows c.requires.walked.handlers) in
    end_told env c.args.step i f behind passed CurrentFrame (Ok c.in_ok-behind.behind) (c.in_ok-check_flows.ensures.told env operands c.classes-2.ensures there)
    (c.in_ok-check_end.ensures env c.requires.walked.steps)

pub returns-clause-walked : goal.returns-clause-walked
returns-clause-walked g c =
    let env = g.W.MethodWorld.environment c.args.world.now in
    let operands = g.P.PoolOperands.operands c.args.pool.now in
    let method = c.args.method.now in
    let first = c.args.self.now.stores in
    let second = c.check.new.stores in
    let third = c.frame_behind.new.stores in
    let last = c.check_flows.new.stores in
    walked_kept env operands method third last c.in_ok-check_flows.ensures.leaves.follows (subst (λ h. StoresRemember h last) (sym c.classes-2.ensures) c.in_ok-check_flows.ensures.remembered)
    (walked_kept env operands method second third c.in_ok-behind.ensures.follows c.in_ok-behind.ensures.stores.remembered
    (walked_kept env operands method first second c.in_ok-check.ensures.leaves.follows (subst (λ h. StoresRemember h second) (sym c.classes.ensures) c.in_ok-check.ensures.remembered) c.requires.walked))

pub returns-clause-fits : goal.returns-clause-fits
returns-clause-fits g c =
    let h = (g.W.MethodWorld.environment c.args.world.now).hierarchy in
    let known = c.check.new.self in
    fits_follow h c.frame_behind.new.stores c.check_flows.new.stores known c.in_ok-check_flows.ensures.leaves.follows
    (fits_follow h c.check.new.stores c.frame_behind.new.stores known c.in_ok-behind.ensures.follows
    (subst (λ x. FitsStores x c.check.new.stores known) (sym c.classes.ensures) c.in_ok-check.ensures.fits))

pub returns-clause-knows : goal.returns-clause-knows
returns-clause-knows g c =
    let env = g.W.MethodWorld.environment c.args.world.now in
    let known = c.check.new.self in
    knows_follow c.frame_behind.new.stores c.check_flows.new.stores known env (c.args.step + 1) c.in_ok-check_flows.ensures.leaves.follows
    (knows_follow c.check.new.stores c.frame_behind.new.stores known env (c.args.step + 1) c.in_ok-behind.ensures.follows
    (c.in_ok-check.ensures.knows env c.requires.comes.knows))
