use Rattle.std.proofs.Common.{◌≡◌, suc, sym, ◌∙◌, ap, arith}
use Rattle.link_rules.specs.Classes.{classes_of, fields_of, methods_of, number_of_file}
use Rattle.link_rules.proofs.Objects.{fields_of_file}
use Rattle.member_lookup.proofs.SourceLaws.{builtin_fields, builtin_methods, file_methods, no_class, no_fields, no_methods}
use Rattle.member_lookup.proofs.source.class_source.Goals as goal

pub returns-in-Some-class_at : goal.returns-in-Some-class_at
returns-in-Some-class_at c =
    let us = c.args.units.now in
    let cs = classes_of c.args.units.now in
    let bs = c.builtins.result.now in
    let same : c.args.class ≡ suc c.in-Some.place = omega (arith, c.in-Some.ensures) in
    let at = sym c.in-Some-class_at.ensures in (
      ap (fields_of cs) same ∙ builtin_fields us bs c.in-Some.place c.in-Some-class_at.builtin.now c.builtins.ensures.rows at,
      ap (methods_of cs) same ∙ builtin_methods us bs c.in-Some.place c.in-Some-class_at.builtin.now c.builtins.ensures.rows at,
    )

pub returns-in-Some-unit_at : goal.returns-in-Some-unit_at
returns-in-Some-unit_at c =
    let us = c.args.units.now in
    let cs = classes_of c.args.units.now in
    let k = c.in-Some-checked_sub.file in
    let same : c.args.class ≡ number_of_file c.in-Some-checked_sub.file = omega (arith, c.in-Some.ensures, c.in-Some-checked_sub.ensures) in
    let at = sym c.in-Some-unit_at.ensures in
    (at, ap (fields_of cs) same ∙ fields_of_file us k c.in-Some-unit_at.unit.now at, ap (methods_of cs) same ∙ file_methods us k c.in-Some-unit_at.unit.now at)

pub returns-in-None : goal.returns-in-None
returns-in-None c =
    let us = c.args.units.now in
    let cs = classes_of c.args.units.now in
    let k = c.in-Some-checked_sub.file in
    let same : c.args.class ≡ number_of_file c.in-Some-checked_sub.file = omega (arith, c.in-Some.ensures, c.in-Some-checked_sub.ensures) in
    let none = no_class us k (sym c.in-None.ensures) in
    (ap (fields_of cs) same ∙ no_fields us (number_of_file k) none, ap (methods_of cs) same ∙ no_methods us (number_of_file k) none)
