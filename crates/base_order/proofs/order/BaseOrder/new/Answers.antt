use Rattle.std.proofs.Common.{◌≡◌, length, ap, subst, arith}
use Rattle.link_rules.proofs.Numbers.{class_count_is}
use Rattle.base_order.specs.Places.{ArePlaces}
use Rattle.base_order.proofs.order.BaseOrder.new.Goals as goal

pub returns : goal.returns
returns c =
    let many = class_count_is c.args.supers.now in
    let units : length c.units.result.now ≡ length c.args.supers.now = ap length c.units.ensures in
    let count = c.in_ok-places.ensures.0 in
    record {
      bases = c.in_ok-bases.ensures;
      count = omega arith;
      places = subst (λ bs. ArePlaces bs (length bs) c.in_ok-places.places.items) c.deref.ensures.value c.in_ok-places.ensures.1;
    }
