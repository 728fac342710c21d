use Rattle.std.proofs.Common.{◌≡◌, Some, refl, sym, subst}
use Rattle.type_rules.specs.Assignable.{is_object_assignable}
use Rattle.type_rules.specs.Environments.{typed_handler}
use Rattle.type_rules.specs.MapFrames.{map_frame_at}
use Rattle.type_rules.specs.Wants.{throwable_type}
use Rattle.map_frames.specs.Mapped.{MapsAt}
use Rattle.handler_frames.specs.Methods.{takes_only}
use Rattle.handler_frames.proofs.RuleLaws.{maps_listed}
use Rattle.handler_frames.proofs.SpanLaws.{handler_stands}
use Rattle.handler_frames.proofs.find.span_of.Goals as goal

pub returns-clause-kept : goal.returns-clause-kept
returns-clause-kept g c = λ stores made.
    maps_listed stores (Some c.in_ok-map.map) (map_frame_at made.item made.constructs made.values c.args.method.frames.now c.args.handler.now.entry)
    (c.in_ok-map.ensures stores made.item made.constructs made.values made.are)

pub returns-clause-stands : goal.returns-clause-stands
returns-clause-stands g c = λ stores env same are.
    let h = typed_handler (g.P.PoolOperands.operands c.args.pool.now) c.args.handler.now in
    let map = c.in_ok-map.map in
    let caught = c.caught_type-caught.result in
    let made = are.made in
    handler_stands env stores h map _ caught c.takes_caught.result c.is_thrown.result
    (subst (λ at. MapsAt stores (Some map) (at h.entry)) (sym are.maps) (c.in_ok-map.ensures stores made.item made.constructs made.values made.are))
    c.if-map.false c.caught_type-caught.ensures
    (subst (λ k. c.takes_caught.result ≡ takes_only k map.only caught) (sym same) c.takes_caught.ensures) c.if-not-takes_caught.false
    (subst (λ k. c.is_thrown.result ≡ is_object_assignable k caught throwable_type) (sym same) c.is_thrown.ensures) c.if-not-is_thrown.false
    refl refl refl
