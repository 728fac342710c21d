use Rattle.std.proofs.Common.{Ok, sym, subst}
use Rattle.typing_frames.specs.Frames.{shown, StoresRemember}
use Rattle.typing_frames.specs.declared.stores.CurrentFrame.{CurrentFrame}
use Rattle.map_frames.specs.Mapped.{MapsAt}
use Rattle.map_frames.specs.Here.{shown_if}
use Rattle.method_check.proofs.Flowing.{map_there}
use Rattle.method_check.proofs.Kept.{room_at, comes_kept, walked_kept}
use Rattle.method_check.proofs.Stepped.{falls, told_here}
use Rattle.method_check.proofs.walk.Walk.step.Goals as goal

pub frame_here-requires-clause-map : goal.frame_here-requires-clause-map
frame_here-requires-clause-map g c =
    let env = g.W.MethodWorld.environment c.args.world.now in
    let stores = c.args.self.now.stores in
    room_at stores c.at-map.result (env.map_at c.args.step)
    (map_there stores env (g.P.PoolOperands.operands c.args.pool.now) c.args.method.now.handlers c.at-map.result c.args.step c.at-map.ensures c.requires.walked.handlers)

pub check_frame-requires-clause-walked : goal.check_frame-requires-clause-walked
check_frame-requires-clause-walked g c =
    let env = g.W.MethodWorld.environment c.args.world.now in
    let new = c.frame_here.new.stores in
    walked_kept env (g.P.PoolOperands.operands c.args.pool.now) c.args.method.now c.args.self.now.stores new c.in_ok-frame.ensures.leaves.follows
    (subst (λ h. StoresRemember h new) (sym c.classes.ensures) c.in_ok-frame.ensures.remembered) c.requires.walked

pub check_frame-requires-clause-comes : goal.check_frame-requires-clause-comes
check_frame-requires-clause-comes g c =
    comes_kept (g.W.MethodWorld.environment c.args.world.now) c.args.self.now c.frame_here.new.stores c.args.step c.in_ok-frame.ensures.leaves c.requires.comes

pub returns-clause-falls : goal.returns-clause-falls
returns-clause-falls g c =
    let env = g.W.MethodWorld.environment c.args.world.now in
    let stores = c.args.self.now.stores in
    let frame = shown c.frame_here.new.stores c.in_ok-frame.frame in
    record {
      frame = frame;
      here = c.in_ok-frame.ensures.here env c.requires.walked.begins
          (map_there stores env (g.P.PoolOperands.operands c.args.pool.now) c.args.method.now.handlers c.at-map.result c.args.step c.at-map.ensures c.requires.walked.handlers);
      falls = falls env c.args.step c.args.instruction.now c.check_frame.new.self.stores c.fallen-self.result c.in_ok-behind.behind frame c.fallen-self.ensures c.in_ok-behind.ensures.shown;
    }

pub returns-clause-told : goal.returns-clause-told
returns-clause-told g c =
    let env = g.W.MethodWorld.environment c.args.world.now in
    let stores = c.args.self.now.stores in
    let maps : MapsAt stores c.at-map.result (env.map_at c.args.step) =
    map_there stores env (g.P.PoolOperands.operands c.args.pool.now) c.args.method.now.handlers c.at-map.result c.args.step c.at-map.ensures c.requires.walked.handlers in
    told_here env c.args.step c.args.instruction.now CurrentFrame (shown_if stores c.args.self.now.before) (shown c.frame_here.new.stores c.in_ok-frame.frame) (Ok c.in_ok-behind.behind)
    (c.in_ok-frame.ensures.told env c.requires.walked.begins c.classes.ensures maps) (c.in_ok-frame.ensures.here env c.requires.walked.begins maps) c.in_ok-behind.ensures.told
