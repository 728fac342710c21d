-- What has a number in a program, and types by numbers.
use Rattle.std.specs.Prelude.{ℕ, suc, ◌+◌, ◌-◌, ◌==◌, ◌&&◌, Bool, false, nat_le, Option, None, Some, List, [], ◌∷◌, ◌++◌, length, flat_map, filter_map, slice_get, bytes_eq, unwrap_or, option_map, if◌then◌else◌}
use Rattle.std.specs.List.{position_from}
use Rattle.std.specs.Option.{option_map_or}
use Rattle.builtin_world.specs.declared.number.TheConstants.{OBJECT}
use Rattle.class_walk.specs.declared.class.Constant.{Constant}
use Rattle.class_walk.specs.declared.class.Constant.TheVariants.{Utf8}
use Rattle.class_names.specs.declared.kind.BaseKind.{BaseKind}
use Rattle.class_names.specs.declared.kind.BaseKind.TheVariants as bases
use Rattle.class_names.specs.declared.kind.Kind.{Kind}
use Rattle.class_names.specs.declared.kind.Kind.TheVariants as kinds
use Rattle.class_names.specs.Reading.{spells_class_name}
use Rattle.code_decode.specs.declared.code.ClassUnit.{ClassUnit}
use Rattle.link_types.specs.declared.types.ElementType.{ElementType}
use Rattle.link_types.specs.declared.types.ElementType.TheVariants as elements
use Rattle.link_types.specs.declared.types.ObjectType.{ObjectType}
use Rattle.link_types.specs.declared.types.ObjectType.TheVariants.{Class, Other, Array}
use Rattle.link_types.specs.declared.types.ValueType.{ValueType}
use Rattle.link_types.specs.declared.types.ValueType.TheVariants as values
use Rattle.link_types.specs.Subtypes.{is_object_below}
use Rattle.link_rules.specs.Classes.{NamedClass, classes_of, class_number, superclass_of, is_array_name}
use Rattle.link_rules.specs.Supers.{is_class_below}
use Rattle.link_rules.specs.Descriptors.{descriptor_kinds, named_kind, class_of_kind}
use Rattle.link_rules.specs.Arrays.{array_names}
use Rattle.link_rules.specs.Strings.{string_texts}

-- the class name that a text is, and the class names that occur in it as a descriptor
abbrev pub class_names_in : List ℕ → List (List ℕ)
class_names_in text = (if spells_class_name false text then text ∷ [] else []) ++ filter_map class_of_kind (descriptor_kinds text)

abbrev pub class_names_of : Constant → List (List ℕ)
class_names_of (Utf8 text) = class_names_in text
class_names_of _ = []

-- What has a number in a program, each by its place: the classes from 1 on and the array classes after them, any
-- class name that a file has from 0 on, and the string literals from 0 on.
pub record ProgramNames : Type 0 where
  pub classes : List NamedClass
  pub arrays : List (List ℕ)
  pub others : List (List ℕ)
  pub strings : List (List ℕ)

abbrev pub program_names : List ClassUnit → ProgramNames
program_names us = record {
  classes = classes_of us;
  arrays = array_names us;
  others = flat_map (λ (u : ClassUnit). flat_map class_names_of u.file.pool) us;
  strings = string_texts us;
}

-- how many class numbers there are
abbrev pub class_count : ProgramNames → ℕ
class_count p = length p.classes + length p.arrays

-- the number of an array class
abbrev pub array_number : ProgramNames → List ℕ → Option ℕ
array_number p name = option_map (λ i. suc (length p.classes + i)) (position_from (bytes_eq name) 0 p.arrays)

-- the number of a class or array class
abbrev pub number_named : ProgramNames → List ℕ → Option ℕ
number_named p name =
    if is_array_name name then array_number p name
    else if class_number p.classes name == 0 then None
    else Some (class_number p.classes name)

-- the array class of a number, by its descriptor
abbrev pub array_numbered : ProgramNames → ℕ → Option (List ℕ)
array_numbered p c = if nat_le c (length p.classes) then None else slice_get p.arrays (c - suc (length p.classes))

abbrev pub other_number : ProgramNames → List ℕ → ℕ
other_number p name = unwrap_or (position_from (bytes_eq name) 0 p.others) 0

abbrev pub string_number : ProgramNames → List ℕ → ℕ
string_number p text = unwrap_or (position_from (bytes_eq text) 0 p.strings) 0

-- the type of a class name
abbrev pub class_type : ProgramNames → List ℕ → ObjectType
class_type p name =
    if class_number p.classes name == 0 then Other (other_number p name) else Class (class_number p.classes name)

abbrev pub element_class_type : ProgramNames → List ℕ → ElementType
element_class_type p name =
    if class_number p.classes name == 0 then elements.Other (other_number p name) else elements.Class (class_number p.classes name)

abbrev pub element_type_of : ProgramNames → BaseKind → ElementType
element_type_of p bases.Int = elements.Int
element_type_of p bases.Byte = elements.Byte
element_type_of p bases.Char = elements.Char
element_type_of p bases.Short = elements.Short
element_type_of p bases.Boolean = elements.Boolean
element_type_of p bases.Long = elements.Long
element_type_of p bases.Float = elements.Float
element_type_of p bases.Double = elements.Double
element_type_of p (bases.Class name) = element_class_type p name

-- the type of a value of a kind; none of a float or a double
abbrev pub base_type : ProgramNames → BaseKind → Option ValueType
base_type p bases.Int = Some values.Int
base_type p bases.Byte = Some values.Byte
base_type p bases.Char = Some values.Char
base_type p bases.Short = Some values.Short
base_type p bases.Boolean = Some values.Boolean
base_type p bases.Long = Some values.Long
base_type p bases.Float = None
base_type p bases.Double = None
base_type p (bases.Class name) = Some (values.Object (class_type p name))

abbrev pub value_type : ProgramNames → Kind → Option ValueType
value_type p (kinds.Base base) = base_type p base
value_type p (kinds.Array dimensions base) = Some (values.Object (Array dimensions (element_type_of p base)))

-- the type that a Class entry of this name stands for
abbrev pub kind_object : ProgramNames → List ℕ → Kind → ObjectType
kind_object p name (kinds.Base base) = class_type p name
kind_object p name (kinds.Array dimensions base) = Array dimensions (element_type_of p base)

abbrev pub type_named : ProgramNames → List ℕ → ObjectType
type_named p name = kind_object p name (named_kind name)

-- the type of the objects of a class number
abbrev pub type_numbered : ProgramNames → ℕ → ObjectType
type_numbered p c = unwrap_or (option_map (type_named p) (array_numbered p c)) (Class c)

abbrev pub is_class_number : ProgramNames → ℕ → Bool
is_class_number p c = nat_le 1 c && nat_le c (class_count p)

-- the superclass of a class or array class, 0 of Object
abbrev pub super_number : ProgramNames → ℕ → ℕ
super_number p c = option_map_or (λ _. OBJECT) (array_numbered p c) (superclass_of p.classes c)

-- an object of the first class passes instanceof of the second one (JVMS 6.5); what is no class is below none
abbrev pub is_subclass : ProgramNames → ℕ → ℕ → Bool
is_subclass p low high =
    is_class_number p low
    && (is_class_number p high && is_object_below (is_class_below p.classes) (type_numbered p low) (type_numbered p high))
