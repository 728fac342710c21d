-- The method with which a program begins (JLS 12.1.4).
use Rattle.std.specs.Prelude.{ℕ, Bool, ◌&&◌, Option, List, slice_get, position, option_map, option_and_then, codes, bytes_eq}
use Rattle.access_flags.specs.declared.TheConstants.{STATIC}
use Rattle.access_flags.specs.Flags.{has}
use Rattle.class_read.specs.declared.class_file.Member.{Member}
use Rattle.code_decode.specs.declared.code.ClassUnit.{ClassUnit}
use Rattle.link_types.specs.declared.operands.MethodId.{MethodId}
use Rattle.link_rules.specs.Classes.{NamedMember, class_of_unit, member_of_file}
use Rattle.type_rules.specs.VerifyRules.{method_of_file}

-- static void main(String[])
abbrev pub is_main : NamedMember → Bool
is_main m = has m.flags STATIC && (bytes_eq m.name (codes "main") && bytes_eq m.descriptor (codes "([Ljava/lang/String;)V"))

abbrev pub is_named : List ℕ → ClassUnit → Bool
is_named name u = bytes_eq (class_of_unit u).name name

-- the one that the class of the file at a place declares itself
abbrev pub main_of_file : ℕ → ClassUnit → Option MethodId
main_of_file file u = option_map (method_of_file file) (position (λ (m : Member). is_main (member_of_file u.file.pool m)) u.file.methods)

abbrev pub main_at : List ClassUnit → ℕ → Option MethodId
main_at us file = option_and_then (main_of_file file) (slice_get us file)

-- the one of the class of a name, among those of the files
abbrev pub main_method : List ClassUnit → List ℕ → Option MethodId
main_method us name = option_and_then (main_at us) (position (is_named name) us)
