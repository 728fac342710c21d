use Rattle.std.proofs.Common.{sym, subst, arith}
use Rattle.type_rules.specs.Environments.{typed_handler}
use Rattle.type_rules.specs.MapFrames.{map_frame_at}
use Rattle.typing_frames.specs.Frames.{shown}
use Rattle.typing_frames.specs.Told.{Tells}
use Rattle.map_frames.specs.Mapped.{MapsAt}
use Rattle.handler_frames.proofs.RuleLaws.{maps_listed, one_covered}
use Rattle.handler_frames.proofs.ordered.check_covering.Goals as goal

pub check_handler-requires-clause-map : goal.check_handler-requires-clause-map
check_handler-requires-clause-map g c =
    let made = c.requires.made in
    maps_listed c.args.stores.now c.at-map.result (map_frame_at made.item made.constructs made.values c.args.method.frames.now c.args.handler.now.entry)
    (c.at-map.ensures c.args.stores.now made.item made.constructs made.values made.are)

pub returns-clause-told : goal.returns-clause-told
returns-clause-told g c = λ env same are.
    let h = typed_handler (g.P.PoolOperands.operands c.args.pool.now) c.args.handler.now in
    let stores = c.args.stores.now in
    let made = are.made in
    subst (λ o. Tells c.check_handler.result o) (sym (one_covered env c.args.step (shown stores c.args.frame) h (omega arith) (omega arith)))
    (c.check_handler.ensures.told env h same (sym c.caught_type.ensures)
    (subst (λ at. MapsAt stores c.at-map.result (at h.entry)) (sym are.maps) (c.at-map.ensures stores made.item made.constructs made.values made.are)))
