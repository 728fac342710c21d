-- The kinds and the classes in descriptors (JVMS 4.3).
use Rattle.std.specs.Prelude.{ℕ, Bool, true, false, Option, None, Some, List, ◌++◌, option_to_list, unwrap_or, if◌then◌else◌}
use Rattle.std.specs.List.{list_any}
use Rattle.std.specs.Option.{option_map_or}
use Rattle.class_names.specs.declared.kind.BaseKind.{BaseKind}
use Rattle.class_names.specs.declared.kind.BaseKind.TheVariants as bases
use Rattle.class_names.specs.declared.kind.Kind.{Kind}
use Rattle.class_names.specs.declared.kind.Kind.TheVariants.{Base, Array}
use Rattle.class_names.specs.Kinds.{field_kind, method_kinds}
use Rattle.link_rules.specs.Classes.{is_array_name}

-- the kinds in a field's or a method's descriptor; none in another text
abbrev pub descriptor_kinds : List ℕ → List Kind
descriptor_kinds text =
    option_map_or (λ (m : List Kind × Option Kind). m.0 ++ option_to_list m.1) (method_kinds text) (option_to_list (field_kind text))

-- the kind of the innermost elements of an array, and what is no array itself
abbrev pub innermost : Kind → BaseKind
innermost (Base base) = base
innermost (Array dimensions base) = base

abbrev pub is_float_base : BaseKind → Bool
is_float_base bases.Float = true
is_float_base bases.Double = true
is_float_base _ = false

-- a kind, an element, a parameter or the result is float or double
abbrev pub has_float : List ℕ → Bool
has_float descriptor = list_any (λ kind. is_float_base (innermost kind)) (descriptor_kinds descriptor)

abbrev pub base_class : BaseKind → Option (List ℕ)
base_class (bases.Class name) = Some name
base_class _ = None

-- the class that a kind names, of an array that of its innermost elements
abbrev pub class_of_kind : Kind → Option (List ℕ)
class_of_kind kind = base_class (innermost kind)

-- the kind that a Class entry of this name stands for (JVMS 4.4.1)
abbrev pub named_kind : List ℕ → Kind
named_kind name = if is_array_name name then unwrap_or (field_kind name) (Base (bases.Class name)) else Base (bases.Class name)
