use Rattle.std.proofs.Common.{◌∙◌}
use Rattle.std.proofs.lemmas.Option.{slice_get-get_or}
use Rattle.base_order.proofs.PlaceLaws.{places_more}
use Rattle.base_order.proofs.order.places_of.Goals as goal

pub loop-place-preserved : goal.loop-place-preserved
loop-place-preserved c = record {
  count = c.put_place.ensures.count ∙ c.loop-place.invariant.count;
  places = places_more c.args.bases.now c.loop-place.place _ c.loop-place.places.items c.put_place.new.places.items
      (slice_get-get_or c.args.bases.now c.loop-place.place _ c.loop-place-test.true) c.loop-place.invariant.places c.put_place.ensures.count c.put_place.ensures.here c.put_place.ensures.elsewhere;
}
