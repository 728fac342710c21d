-- The environments of the methods of a program, from its decoded classes.
use Rattle.std.specs.Prelude.{ℕ, zero, suc, ◌==◌, ◌&&◌, Bool, not, Option, List, [], ◌∷◌, ◌++◌, map, flat_map, slice_get, option_map, option_and_then, if◌then◌else◌}
use Rattle.std.specs.List.{list_any}
use Rattle.std.specs.Option.{option_map_or}
use Rattle.builtin_world.specs.declared.number.TheConstants.{OBJECT}
use Rattle.access_flags.specs.declared.TheConstants.{STATIC, INTERFACE}
use Rattle.access_flags.specs.Flags.{has}
use Rattle.instructions.specs.declared.operation.ClassUse.TheVariants as uses
use Rattle.instructions.specs.declared.what.What.{What}
use Rattle.instructions.specs.declared.what.What.TheVariants as whats
use Rattle.instructions.specs.declared.what.Instr.{Instr}
use Rattle.instructions.specs.declared.what.Target.{Target}
use Rattle.instructions.specs.Steps.{number_at}
use Rattle.code_decode.specs.declared.code.Code.{Code}
use Rattle.code_decode.specs.declared.code.Handler.{Handler}
use Rattle.code_decode.specs.declared.code.ClassUnit.{ClassUnit}
use Rattle.link_types.specs.declared.types.ObjectType.{ObjectType}
use Rattle.link_types.specs.declared.types.ObjectType.TheVariants.{Class}
use Rattle.link_types.specs.declared.types.ValueType.{ValueType}
use Rattle.link_types.specs.declared.operands.Operand.{Operand}
use Rattle.link_types.specs.declared.operands.MethodId.{MethodId}
use Rattle.link_rules.specs.Classes.{NamedClass, NamedMember, classes_of, class_has, superclass_of}
use Rattle.link_rules.specs.Supers.{superclasses}
use Rattle.link_rules.specs.Members.{is_initializer, signature_of}
use Rattle.link_rules.specs.Methods.{method_named, method_code, parameter_types, result_type}
use Rattle.link_rules.specs.Names.{ProgramNames, program_names}
use Rattle.link_rules.specs.Operands.{operand}
use Rattle.type_rules.specs.declared.types.VerificationType.{VerificationType}
use Rattle.type_rules.specs.declared.types.VerificationType.TheVariants.{UninitThis, Object}
use Rattle.type_rules.specs.Assignable.{Hierarchy}
use Rattle.type_rules.specs.Environment.{Environment, TypedHandler, in_locals, type_of_value}
use Rattle.type_rules.specs.Wants.{throwable_type}
use Rattle.type_rules.specs.MapFrames.{object_type, item_type, map_frame_at}

abbrev pub hierarchy_of : List NamedClass → Hierarchy
hierarchy_of cs = record {
  is_interface = λ c. class_has cs c INTERFACE;
  is_superclass = λ low high. list_any (λ c. c == high) (superclasses cs low);
}

-- an <init> that isn't static
abbrev pub is_constructor : NamedMember → Bool
is_constructor m = is_initializer (signature_of m) && not (has m.flags STATIC)

-- what a method of a class begins with: its receiver, if it has one, which a constructor has yet to initialize, and its
-- parameters (JVMS 4.10.1.6)
abbrev pub receiver_values : ℕ → NamedMember → List VerificationType
receiver_values c m =
    if has m.flags STATIC then [] else if is_constructor m then UninitThis ∷ [] else Object (Class c) ∷ []

abbrev pub entry_values : ProgramNames → ℕ → NamedMember → List VerificationType
entry_values p c m = receiver_values c m ++ map type_of_value (parameter_types p m.descriptor)

abbrev pub words_of_values : List VerificationType → List VerificationType
words_of_values values = flat_map in_locals values

-- a handler of no class catches everything: each Throwable (JVMS 4.7.3)
abbrev pub caught_type : (ℕ → Operand) → ℕ → ObjectType
caught_type operand_at zero = throwable_type
caught_type operand_at (suc index) = object_type (operand_at (suc index))

abbrev pub typed_handler : (ℕ → Operand) → Handler → TypedHandler
typed_handler operand_at h =
    record { first = h.first; end = h.end; entry = h.entry; caught = caught_type operand_at h.kind }

abbrev pub made_by : (ℕ → Operand) → What Target → ObjectType
made_by operand_at (whats.Class uses.New index) = object_type (operand_at index)
made_by operand_at _ = Class OBJECT

-- what the `new` at an offset makes
abbrev pub type_made_at : (ℕ → Operand) → List (Instr Target) → ℕ → ObjectType
type_made_at operand_at steps at =
    option_map_or (λ (i : Instr Target). made_by operand_at i.what) (option_and_then (slice_get steps) (number_at steps at)) (Class OBJECT)

-- the types of the parameters and of the result of any method of the program
abbrev pub parameters_of_method : ProgramNames → MethodId → List ValueType
parameters_of_method p id = option_map_or (λ (m : NamedMember). parameter_types p m.descriptor) (method_named p.classes id) []

abbrev pub result_of_method : ProgramNames → MethodId → Option ValueType
result_of_method p id = option_and_then (λ (m : NamedMember). result_type p m.descriptor) (method_named p.classes id)

-- of a method of a class, with its code, where indices of the class's pool stand for this
abbrev pub environment : ProgramNames → (ℕ → Operand) → ℕ → NamedMember → Code → Environment
environment p operand_at c m code = record {
  hierarchy = hierarchy_of p.classes;
  class = c;
  super = superclass_of p.classes c;
  constructs = is_constructor m;
  entry = words_of_values (entry_values p c m);
  return_type = result_type p m.descriptor;
  max_locals = code.max_locals;
  max_stack = code.max_stack;
  steps = code.steps;
  map_at = map_frame_at (item_type operand_at (words_of_values (entry_values p c m))) (is_constructor m) (entry_values p c m) code.frames;
  handlers = map (typed_handler operand_at) code.handlers;
  operand = operand_at;
  made_at = type_made_at operand_at code.steps;
  parameters = parameters_of_method p;
  result = result_of_method p;
}

-- of a method of a program; none where it has no code
abbrev pub environment_of : List ClassUnit → MethodId → Option Environment
environment_of us id =
    option_and_then (λ (m : NamedMember). option_map (environment (program_names us) (operand us id.class) id.class m) (method_code us id))
    (method_named (classes_of us) id)
