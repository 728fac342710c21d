use Rattle.std.proofs.Common.{◌≡◌, ◌∙◌, Some, slice_get, map, length, refl, ap, subst, arith}
use Rattle.std.specs.Option.{option_map}
use Rattle.std.proofs.lemmas.List.{length-map}
use Rattle.std.proofs.lemmas.Option.{slice_get-map, slice_get_read}
use Rattle.link_rules.specs.Classes.{member_of_file}
use Rattle.link_rules.specs.Layout.{field_words}
use Rattle.access_flags.specs.Flags.{has}
use Rattle.access_flags.specs.declared.TheConstants.{STATIC}
use Rattle.class_layout.specs.Row.{IsJustPlaced}
use Rattle.class_layout.proofs.FieldLaws.{placed_few, placed_more, all_placed}
use Rattle.class_layout.proofs.row.place_fields.Goals as goal

pub place-requires-clause-static_room : goal.place-requires-clause-static_room
place-requires-clause-static_room c =
    let few = placed_few (map (member_of_file c.args.pool.now) c.args.fields.now) c.args.inherited c.loop-field.field-index c.loop-field.placed c.loop-field.invariant in
    let one = few.0 in
    omega (arith, c.requires.few, c.loop-field-test.true)

pub place-requires-clause-instance_room : goal.place-requires-clause-instance_room
place-requires-clause-instance_room c =
    let few = placed_few (map (member_of_file c.args.pool.now) c.args.fields.now) c.args.inherited c.loop-field.field-index c.loop-field.placed c.loop-field.invariant in
    let other = few.1 in
    omega (arith, c.requires.few, c.requires.room, c.loop-field-test.true)

pub loop-field-preserved : goal.loop-field-preserved
loop-field-preserved c =
    let member = member_of_file c.args.pool.now in
    let fields = c.args.fields.now in
    let m = c.field-item.result in
    let there = slice_get_read fields (length fields) c.loop-field.field-index m refl c.loop-field-test.true c.field-item.is in
    let at : slice_get (map (member_of_file c.args.pool.now) c.args.fields.now) c.loop-field.field-index ≡ Some (member_of_file c.args.pool.now c.field-item.result) =
    slice_get-map (member_of_file c.args.pool.now) c.args.fields.now c.loop-field.field-index ∙ ap (option_map (member_of_file c.args.pool.now)) there in
    let placed : IsJustPlaced c.loop-field.placed (has m.flags STATIC) (field_words (member_of_file c.args.pool.now c.field-item.result)) c.place.new.self =
    subst (λ w. IsJustPlaced c.loop-field.placed (has m.flags STATIC) w c.place.new.self) c.field_words-words.ensures.value
    (subst (λ b. IsJustPlaced c.loop-field.placed b c.field_words-words.result c.place.new.self) c.has.ensures c.in_ok-place.ensures) in
    placed_more (map (member_of_file c.args.pool.now) c.args.fields.now) c.args.inherited c.loop-field.field-index (member_of_file c.args.pool.now c.field-item.result) c.loop-field.placed c.place.new.self at c.loop-field.invariant placed

pub returns : goal.returns
returns c =
    let fields = map (member_of_file c.args.pool.now) c.args.fields.now in
    all_placed (map (member_of_file c.args.pool.now) c.args.fields.now) c.args.inherited c.loop-field.field-index c.loop-field.placed (omega (arith, c.loop-field-test.false, length-map c.args.fields.now (member_of_file c.args.pool.now))) c.loop-field.invariant
