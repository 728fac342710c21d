-- What is asked of a linked program by numbers. A number that is no class has no words, no name and no elements.
use Rattle.std.specs.Prelude.{ℕ, Option, Some, List, [], drop, slice_get, unwrap_or, option_map, option_and_then, if◌then◌else◌}
use Rattle.std.specs.Option.{option_map_or}
use Rattle.code_decode.specs.declared.code.ClassUnit.{ClassUnit}
use Rattle.instructions.specs.declared.operation.PrimitiveType.{PrimitiveType}
use Rattle.link_types.specs.declared.operands.Layout.{Layout}
use Rattle.link_types.specs.declared.types.ObjectType.{ObjectType}
use Rattle.link_rules.specs.Classes.{NamedClass, class_numbered, is_array_name}
use Rattle.class_names.specs.Kinds.{field_kind}
use Rattle.link_rules.specs.Descriptors.{class_of_kind}
use Rattle.link_rules.specs.Arrays.{primitive_array}
use Rattle.link_rules.specs.Strings.{literal_text}
use Rattle.link_rules.specs.Names.{ProgramNames, array_number, array_numbered, number_named, type_named, is_class_number}
use Rattle.link_rules.specs.Layout.{instance_words, static_words}
use Rattle.link_rules.specs.FixedObjects.{class_object, class_object_at_start}

-- the words of a class and the reference of its class object
abbrev pub layout : ProgramNames → ℕ → Layout
layout p c = record {
  instance_words = instance_words p.classes c;
  static_words = static_words p.classes c;
  object = if is_class_number p c then class_object p c else 0;
}

-- the array class that newarray makes (JVMS 6.5)
abbrev pub primitive_array_number : ProgramNames → PrimitiveType → Option ℕ
primitive_array_number p kind = array_number p (primitive_array kind)

-- the type of the arrays of a number
abbrev pub array_type : ProgramNames → ℕ → Option ObjectType
array_type p c = option_map (type_named p) (array_numbered p c)

-- the class or array class of the elements of an array class, by its name; none where they are no references
abbrev pub element_name : List ℕ → Option (List ℕ)
element_name name =
    if is_array_name (drop 1 name) then Some (drop 1 name) else option_and_then class_of_kind (field_kind (drop 1 name))

abbrev pub element_class : ProgramNames → ℕ → Option ℕ
element_class p c = option_and_then (number_named p) (option_and_then element_name (array_numbered p c))

-- a word of a class object as the program begins
abbrev pub static_value : ProgramNames → List ClassUnit → ℕ → ℕ → ℕ
static_value p us c i = unwrap_or (slice_get (class_object_at_start p us c).words i) 0

-- the name of a class, or the descriptor of an array class, and its text
abbrev pub name_numbered : ProgramNames → ℕ → List ℕ
name_numbered p c =
    unwrap_or (array_numbered p c) (option_map_or (λ (k : NamedClass). k.name) (class_numbered p.classes c) [])

abbrev pub class_text : ProgramNames → ℕ → List ℕ
class_text p c = literal_text (name_numbered p c)
