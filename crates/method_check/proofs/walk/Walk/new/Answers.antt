use Rattle.std.proofs.Common.{sym, subst}
use Rattle.handler_frames.specs.Known.{FitsStores}
use Rattle.handler_frames.proofs.MethodLaws.{handlers_follow, made_follow}
use Rattle.method_check.proofs.Kept.{walked_kept}
use Rattle.method_check.proofs.walk.Walk.new.Goals as goal

pub new-requires : goal.new-requires
new-requires g c = record {
  made = made_follow c.args.stores c.entry_frame.new.stores c.args.method.now.handlers c.in_ok-frame.ensures.follows c.requires.walked.handlers.made;
}

pub returns-clause-walked : goal.returns-clause-walked
returns-clause-walked g c =
    let env = g.W.MethodWorld.environment c.args.world.now in
    walked_kept env (g.P.PoolOperands.operands c.args.pool.now) c.args.method.now c.args.stores c.entry_frame.new.stores c.in_ok-frame.ensures.follows
    (c.in_ok-frame.ensures.remembered env.hierarchy c.requires.walked.room.remembered) c.requires.walked

pub returns-clause-comes : goal.returns-clause-comes
returns-clause-comes g c =
    let env = g.W.MethodWorld.environment c.args.world.now in
    let stores = c.entry_frame.new.stores in
    record {
      fits = subst (λ h. FitsStores h stores c.in_ok-handlers.handlers) (sym c.classes.ensures) c.in_ok-handlers.ensures.fits;
      knows = c.in_ok-handlers.ensures.knows env c.classes.ensures
          (handlers_follow c.args.stores stores env (g.P.PoolOperands.operands c.args.pool.now) c.args.method.now.handlers c.in_ok-frame.ensures.follows c.requires.walked.handlers);
      before = c.in_ok-frame.ensures.frame;
    }
