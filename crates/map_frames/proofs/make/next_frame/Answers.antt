use Rattle.std.proofs.Common.{◌≡◌, map, subst, sym}
use Rattle.code_frames.specs.Locals.{changed}
use Rattle.type_rules.specs.MapFrames.{item_type}
use Rattle.map_frames.proofs.make.next_frame.Goals as goal

pub returns-clause-items : goal.returns-clause-items
returns-clause-items g c = λ types is.
    let operands = g.P.PoolOperands.operands c.args.pool.now in
    subst (λ e. c.change.new.self.items.items ≡ map (item_type operands e) (changed types c.args.frame.now.locals)) c.as_slice.ensures.value
    (c.in_ok-change.ensures.items types (subst (λ e. c.args.locals.now.items.items ≡ map (item_type operands e) types) (sym c.as_slice.ensures.value) is))
