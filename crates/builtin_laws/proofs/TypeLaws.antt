-- The table passes the tests, by one computation each.
use Rattle.std.proofs.Common.{false, refl}
use Rattle.class_names.specs.Names.{IsClassName}
use Rattle.class_names.specs.Reading.{spells_class_name, split_at_semicolon, base_at, kind_at}
use Rattle.class_names.specs.Kinds.{kinds_within}
use Rattle.class_names.proofs.NameLaws.{name_spelled}
use Rattle.std.specs.List.{All}
use Rattle.builtin_world.specs.Library.{Class, library}
use Rattle.builtin_laws.specs.Types.{IsTypedField, IsTypedMethod, ClassesAreNamed, FieldsAreTyped, MethodsAreTyped}
use Rattle.builtin_laws.proofs.Tests.{all_pass, all_passed, is_field, field_tells, is_method, method_tells}

pub classes_are_named : ClassesAreNamed
unfolding library spells_class_name
classes_are_named = all_passed (λ (c : Class). spells_class_name false c.name) (λ c. IsClassName c.name) (λ c. name_spelled c.name) library refl

pub fields_are_typed : FieldsAreTyped
unfolding library spells_class_name split_at_semicolon base_at kind_at
fields_are_typed = all_passed (λ (c : Class). all_pass is_field c.fields) (λ c. All IsTypedField c.fields) (λ c. all_passed is_field IsTypedField field_tells c.fields) library refl

pub methods_are_typed : MethodsAreTyped
unfolding library spells_class_name split_at_semicolon base_at kind_at kinds_within
methods_are_typed = all_passed (λ (c : Class). all_pass is_method c.methods) (λ c. All IsTypedMethod c.methods) (λ c. all_passed is_method IsTypedMethod method_tells c.methods) library refl
