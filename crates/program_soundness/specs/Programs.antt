-- What is said of accepted programs.
use Rattle.std.specs.Prelude.{◌≡◌, ◌≤◌, ◌<◌, ◌^◌, ℕ, true, Some, List, codes}
use Rattle.access_flags.specs.declared.TheConstants.{STATIC}
use Rattle.access_flags.specs.Flags.{has}
use Rattle.builtin_world.specs.declared.number.TheConstants.{COUNT}
use Rattle.code_decode.specs.declared.code.ClassUnit.{ClassUnit}
use Rattle.link_types.specs.declared.operands.MethodId.{MethodId}
use Rattle.link_rules.specs.Classes.{NamedMember, classes_of}
use Rattle.link_rules.specs.Layout.{object_words}
use Rattle.link_rules.specs.Methods.{method_named}
use Rattle.link_rules.specs.Names.{program_names}
use Rattle.row_soundness.specs.Knowledge.{CanBeMade}

abbrev pub ObjectsHaveRoom : List ClassUnit → Type 0
ObjectsHaveRoom us = (c n : ℕ) → CanBeMade us c n → object_words (program_names us) c n ≤ 2 ^ 32

-- static void main(String[]), of a class of a file; whatever its name is
pub record IsMainMethod (us : List ClassUnit) (main : MethodId) : Type 0 where
  pub member : NamedMember
  pub named : method_named (classes_of us) main ≡ Some member
  pub read : COUNT < main.class
  pub static : has member.flags STATIC ≡ true
  pub descriptor : member.descriptor ≡ codes "([Ljava/lang/String;)V"
