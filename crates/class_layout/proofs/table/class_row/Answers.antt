use Rattle.std.proofs.Common.{◌≡◌, ◌<◌, ◌∙◌, Some, None, refl, ap, sym, subst, length, map}
use Rattle.link_rules.specs.Classes.{classes_of, superclass_of, unit_numbered, member_of_file}
use Rattle.link_rules.specs.Layout.{instance_words}
use Rattle.class_layout.specs.Rows.{instance_in}
use Rattle.class_layout.specs.Row.{ArePlaced}
use Rattle.class_layout.proofs.RowLaws.{library_class_row, file_class_row, no_class_row, not_of_library, unit_is_read, unit_few}
use Rattle.class_layout.proofs.table.class_row.Goals as goal

pub returns-in-Some : goal.returns-in-Some
returns-in-Some c =
    library_class_row c.args.supers.now c.requires.ordered.0 c.requires.ordered.1 c.args.class c.in-Some.builtin c.new.result (c.in-Some.ensures.found.0 refl) c.in-Some.ensures.row c.new.ensures

pub returns-in_default-unit_at : goal.returns-in_default-unit_at
returns-in_default-unit_at c =
    let none : unit_numbered c.args.supers.now c.args.class ≡ None = subst (λ us. unit_numbered us c.args.class ≡ None) c.units.ensures (sym c.in_default-unit_at.ensures) in
    no_class_row c.args.supers.now c.args.class c.new-in_default-unit_at.result (not_of_library c.args.class (λ low high. let t = c.in_default.ensures.found.1 (low, high) in cc)) none c.new-in_default-unit_at.ensures

pub place_fields-requires-clause-few : goal.place_fields-requires-clause-few
place_fields-requires-clause-few c =
    let at : unit_numbered c.args.supers.now c.args.class ≡ Some c.in-Some-unit_at.unit.now = subst (λ us. unit_numbered us c.args.class ≡ Some c.in-Some-unit_at.unit.now) c.units.ensures (sym c.in-Some-unit_at.ensures) in
    let few : length c.in-Some-unit_at.unit.now.file.fields < 65536 = unit_few c.args.supers.now c.args.class c.in-Some-unit_at.unit.now c.requires.decoded at in
    subst (λ fields. length fields < 65536) (sym c.as_slice-2.ensures) few

pub returns : goal.returns
returns c =
    let us = c.args.supers.now in
    let u = c.in-Some-unit_at.unit.now in
    let at : unit_numbered c.args.supers.now c.args.class ≡ Some c.in-Some-unit_at.unit.now = subst (λ us. unit_numbered us c.args.class ≡ Some c.in-Some-unit_at.unit.now) c.units.ensures (sym c.in-Some-unit_at.ensures) in
    let above : c.instance_words_in-inherited.result ≡ instance_words (classes_of c.args.supers.now) (superclass_of (classes_of c.args.supers.now) c.args.class) =
    c.instance_words_in-inherited.ensures ∙ ap (instance_in c.args.rows.now) c.superclass.ensures ∙ c.requires.above in
    file_class_row us c.requires.ordered.0 c.requires.ordered.1 c.args.class u c.instance_words_in-inherited.result c.in_ok-row.row (unit_is_read us c.args.class u at) at above
    (subst (λ pool. ArePlaced (map (member_of_file pool) u.file.fields) c.instance_words_in-inherited.result c.in_ok-row.row) c.as_slice.ensures
    (subst (λ fields. ArePlaced (map (member_of_file c.as_slice.result.now) fields) c.instance_words_in-inherited.result c.in_ok-row.row) c.as_slice-2.ensures c.in_ok-row.ensures))
