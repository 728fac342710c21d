use Rattle.std.proofs.Common.{◌≡◌, [], ◌∷◌, length, slice_get, Some, flat_map, ◌++◌, replicate, refl, sym, ap, subst, ◌∙◌}
use Rattle.std.proofs.lemmas.List.{take_all}
use Rattle.std.proofs.lemmas.Option.{slice_get_read}
use Rattle.link_rules.specs.Arrays.{arguments_array, arrays_always, arrays_of_unit}
use Rattle.link_rules.proofs.Named.{one_number}
use Rattle.link_rules.specs.Classes.{classes_of}
use Rattle.array_uses.specs.Most.{IsArrayIn, IsMost}
use Rattle.array_uses.specs.Uses.{IsFileOf}
use Rattle.array_uses.proofs.Growing.{none_most, more_items}
use Rattle.array_uses.proofs.Right.{codes_right, arguments_in, units_array, units_in}
use Rattle.array_uses.proofs.uses.most_dimensions.Goals as goal

pub loop-file-init : goal.loop-file-init
loop-file-init c =
    let us = c.args.supers.now in
    let none = none_most us c.args.order.now c.in_ok-most.most.items (c.in_ok-most.ensures ∙ ap (λ n. replicate n 0) (ap length c.bases.ensures)) in
    let chars : IsArrayIn (classes_of us) c.primitive_array.result units_array = subst (λ a. IsArrayIn (classes_of us) a units_array) (sym c.primitive_array.ensures) (units_in us) in
    c.add_array-2.ensures us arguments_array c.requires.order (one_number us c.requires.linked) (arguments_in us) (units_array ∷ [])
    (c.add_array.ensures us units_array c.requires.order (one_number us c.requires.linked) chars [] none)

pub loop-file-preserved : goal.loop-file-preserved
loop-file-preserved c =
    let us = c.args.supers.now in
    let units = c.units-units.result.now in
    let u = c.index-units-file.result in
    let at = slice_get_read units (length units) c.loop-file.file u refl c.loop-file-test.true c.index-units-file.is in
    let there : slice_get c.args.supers.now c.loop-file.file ≡ Some c.index-units-file.result = ap (λ xs. slice_get xs c.loop-file.file) (sym c.units-units.ensures) ∙ at in
    let file : IsFileOf c.args.supers.now c.loop-file.file c.index-units-file.result c.args.types.now c.args.order.now = record { there = there; types_are = c.requires.types; order_is = c.requires.order; names = one_number c.args.supers.now c.requires.linked } in
    more_items us c.args.order.now arrays_of_unit arrays_always units c.loop-file.file u c.loop-file.most.items c.add_unit.new.most.items at c.loop-file.invariant
    (c.add_unit.ensures us file (codes_right us c.loop-file.file u c.requires.decoded c.requires.linked there))

pub returns : goal.returns
returns c =
    subst (λ ys. IsMost c.args.supers.now c.args.order.now (arrays_always ++ flat_map arrays_of_unit ys) c.loop-file.most.items)
    (take_all c.loop-file.file c.units-units.result.now c.loop-file-test.false ∙ c.units-units.ensures) c.loop-file.invariant
