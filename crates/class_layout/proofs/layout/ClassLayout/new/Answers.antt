use Rattle.std.proofs.Common.{◌≡◌, ◌∙◌, ◌<◌, length, All, ap, sym, subst, arith}
use Rattle.link_rules.specs.Classes.{classes_of}
use Rattle.link_rules.proofs.Numbers.{class_count_is}
use Rattle.class_layout.specs.Objects.{ArePlacesOf}
use Rattle.class_layout.proofs.ObjectLaws.{rows_few}
use Rattle.class_layout.proofs.layout.ClassLayout.new.Goals as goal

pub place_objects-requires-clause-few : goal.place_objects-requires-clause-few
place_objects-requires-clause-few c =
    let many = class_count_is c.args.supers.now in
    let count : length c.deref.result.now ≡ length (classes_of c.args.supers.now) = ap length c.deref.ensures.value ∙ c.in_ok-rows.ensures.count in
    omega (arith, c.requires.few)

pub place_objects-requires-clause-small : goal.place_objects-requires-clause-small
place_objects-requires-clause-small c =
    subst (λ rows. All (λ r. r.static_words < 131072) rows) (sym c.deref.ensures.value) (rows_few c.args.supers.now c.in_ok-rows.rows.items c.requires.decoded c.in_ok-rows.ensures)

pub returns : goal.returns
returns c =
    let many = class_count_is c.args.supers.now in
    record {
      few = omega (arith, c.requires.few);
      rows = c.in_ok-rows.ensures;
      objects = subst (λ rows. ArePlacesOf rows c.in_ok-places.places) c.deref.ensures.value c.in_ok-places.ensures;
    }
