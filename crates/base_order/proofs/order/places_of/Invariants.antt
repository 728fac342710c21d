use Rattle.std.proofs.Common.{◌≡◌, length}
use Rattle.base_order.specs.Places.{ArePlaces}
use Rattle.base_order.proofs.order.places_of.Given as goal

abbrev pub invariant-loop-place : goal.invariant-loop-place
invariant-loop-place l = record {
  count : length l.places.items ≡ l.count;
  places : ArePlaces l.bases l.place l.places.items;
}
