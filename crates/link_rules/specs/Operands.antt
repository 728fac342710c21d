-- What an index of a constant pool stands for (JVMS 5.1, 5.4.3).
use Rattle.std.specs.Prelude.{ℕ, ◌==◌, Option, None, Some, List, slice_get, option_map, option_and_then, if◌then◌else◌}
use Rattle.std.specs.Option.{option_map_or}
use Rattle.builtin_world.specs.declared.number.TheConstants.{SYSTEM}
use Rattle.class_walk.specs.declared.class.Constant.{Constant}
use Rattle.class_walk.specs.declared.class.Constant.TheVariants as constants
use Rattle.class_pool.specs.Pool.{Reference}
use Rattle.code_decode.specs.declared.code.ClassUnit.{ClassUnit}
use Rattle.link_types.specs.declared.operands.ClassOperand.{ClassOperand}
use Rattle.link_types.specs.declared.operands.FieldOperand.{FieldOperand}
use Rattle.link_types.specs.declared.operands.MethodOperand.{MethodOperand}
use Rattle.link_types.specs.declared.operands.MethodId.{MethodId}
use Rattle.link_types.specs.declared.operands.Operand.{Operand}
use Rattle.link_types.specs.declared.operands.Operand.TheVariants.{Nothing, Int, Long, Text, Class, Out, Field, Method}
use Rattle.link_types.specs.declared.types.ValueType.{ValueType}
use Rattle.access_flags.specs.declared.TheConstants.{STATIC}
use Rattle.access_flags.specs.Flags.{has}
use Rattle.link_rules.specs.Classes.{unit_numbered, utf8_at, class_name_at, reference_at}
use Rattle.link_rules.specs.Members.{Declared, found_field, found_method, is_initializer, special, method_id}
use Rattle.class_names.specs.Kinds.{field_kind}
use Rattle.link_rules.specs.Arrays.{array_of}
use Rattle.link_rules.specs.Strings.{literal_text}
use Rattle.link_rules.specs.Names.{ProgramNames, program_names, array_number, number_named, string_number, type_named, value_type}
use Rattle.link_rules.specs.Layout.{field_place}

abbrev pub class_operand : ProgramNames → List ℕ → ClassOperand
class_operand p name = record {
  kind = type_named p name;
  number = number_named p name;
  array = array_number p (array_of name);
}

abbrev pub field_operand : ProgramNames → Reference → Declared → ValueType → FieldOperand
field_operand p r d kind = record {
  named = type_named p r.class;
  owner = d.class;
  is_static = has d.member.flags STATIC;
  kind = kind;
  place = field_place p.classes d.class d.place d.member;
}

-- the only field of a built-in class is System's `out`
abbrev pub field_named : ProgramNames → Reference → Option Declared → Operand
field_named p r None = Nothing
field_named p r (Some d) =
    if d.class == SYSTEM then Out
    else option_map_or (λ kind. Field (field_operand p r d kind)) (option_and_then (value_type p) (field_kind d.member.descriptor)) Nothing

-- what invokespecial calls in a class, where look-up finds this method
abbrev pub special_id : ProgramNames → ℕ → Reference → Declared → Option MethodId
special_id p this r d = if has d.member.flags STATIC then None else option_map method_id (special p.classes this r d)

abbrev pub method_operand : ProgramNames → ℕ → Reference → Declared → MethodOperand
method_operand p this r d = record {
  named = type_named p r.class;
  method = method_id d;
  special = special_id p this r d;
  constructs = is_initializer r;
}

abbrev pub method_found : ProgramNames → ℕ → Reference → Option Declared → Operand
method_found p this r found = option_map_or (λ d. Method (method_operand p this r d)) found Nothing

-- what an entry of the pool of a class stands for
abbrev pub operand_of : ProgramNames → ℕ → List Constant → ℕ → Option Constant → Operand
operand_of p this pool at (Some (constants.Integer n)) = Int n
operand_of p this pool at (Some (constants.Long n)) = Long n
operand_of p this pool at (Some (constants.Str text)) = Text (string_number p (literal_text (utf8_at pool text)))
operand_of p this pool at (Some (constants.Class name)) = Class (class_operand p (class_name_at pool at))
operand_of p this pool at (Some (constants.Field class member)) =
    field_named p (reference_at pool at) (found_field p.classes (reference_at pool at))
operand_of p this pool at (Some (constants.Method class member)) =
    method_found p this (reference_at pool at) (found_method p.classes (reference_at pool at))
operand_of p this pool at (Some (constants.IfaceMethod class member)) =
    method_found p this (reference_at pool at) (found_method p.classes (reference_at pool at))
operand_of p this pool at _ = Nothing

-- what an index of the pool of a class of a file stands for
abbrev pub operand : List ClassUnit → ℕ → ℕ → Operand
operand us c at =
    option_map_or (λ (u : ClassUnit). operand_of (program_names us) c u.file.pool at (slice_get u.file.pool at)) (unit_numbered us c) Nothing
