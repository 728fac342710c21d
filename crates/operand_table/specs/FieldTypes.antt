-- The types of texts as descriptors of fields (JVMS 4.3.2).
use Rattle.std.specs.Prelude.{◌≡◌, ℕ, Option, List, map}
use Rattle.std.specs.Option.{option_and_then}
use Rattle.class_names.specs.Kinds.{field_kind}
use Rattle.class_texts.specs.Texts.{ProgramTexts}
use Rattle.code_decode.specs.declared.code.ClassUnit.{ClassUnit}
use Rattle.link_types.specs.declared.types.ValueType.{ValueType}
use Rattle.link_rules.specs.Names.{program_names, value_type}
use Rattle.operand_table.specs.declared.field_types.FieldTypes.{FieldTypes}

abbrev pub field_type : List ClassUnit → List ℕ → Option ValueType
field_type us text = option_and_then (value_type (program_names us)) (field_kind text)

-- the types of the texts of a program in the order of their numbers
pub record AreFieldTypes (p : ProgramTexts) (types : FieldTypes) : Type 0 where
  pub are : types.types.items ≡ map (field_type p.units) p.texts
