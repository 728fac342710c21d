-- From acceptance alone.
use Rattle.std.proofs.Common.{◌≡◌, ◌<◌, ℕ, false, cond, List, [], ◌∷◌, ◌++◌, length, map, codes, refl, sym, ap, subst, ◌∙◌}
use Rattle.access_flags.specs.declared.TheConstants.{STATIC}
use Rattle.access_flags.specs.Flags.{has}
use Rattle.builtin_world.specs.Library.{library}
use Rattle.builtin_world.specs.declared.number.TheConstants.{STRING}
use Rattle.class_names.specs.Reading.{spells_class_name, split_at_semicolon, base_at, kind_at}
use Rattle.class_names.specs.Kinds.{kinds_within}
use Rattle.code_decode.specs.declared.code.ClassUnit.{ClassUnit}
use Rattle.link_types.specs.declared.operands.MethodId.{MethodId}
use Rattle.link_types.specs.declared.types.ElementType.TheVariants as elements
use Rattle.link_types.specs.declared.types.ObjectType.TheVariants.{Class, Array}
use Rattle.link_types.specs.declared.types.ValueType.TheVariants as values
use Rattle.link_rules.specs.Classes.{NamedMember, classes_of}
use Rattle.link_rules.specs.Methods.{parameter_types}
use Rattle.link_rules.specs.Names.{program_names}
use Rattle.op_core.specs.Orderly.{IsOrderly}
use Rattle.type_rules.specs.declared.types.VerificationType.TheVariants.{Object, UninitThis}
use Rattle.type_rules.specs.Environment.{type_of_value}
use Rattle.type_rules.specs.Environments.{is_constructor, receiver_values, words_of_values}
use Rattle.java_rows.specs.Thread.{java_code, first_state}
use Rattle.row_soundness.specs.Accepted.{IsMain}
use Rattle.row_soundness.specs.Fits.{CodeOf}
use Rattle.program_soundness.specs.SoundPrograms.{IsSound}
use Rattle.program_soundness.proofs.ChosenMethods.{code_there, file_body}
use Rattle.program_soundness.proofs.MethodFlags.{method_class_numbered, static_concrete}
use Rattle.program_soundness.proofs.AcceptedPrograms.{accepted}
use Rattle.std.proofs.lemmas.Option.{same_Some}
use Rattle.program_soundness.proofs.SoundnessLaws.{goes_in_order}
use Rattle.program_soundness.specs.Programs.{IsMainMethod}
use Rattle.program_soundness.proofs.Rooms.{have_room}

takes_strings : (us : List ClassUnit) → parameter_types (program_names us) (codes "([Ljava/lang/String;)V") ≡ values.Object (Array 1 (elements.Class STRING)) ∷ []
unfolding library spells_class_name split_at_semicolon base_at kind_at kinds_within
takes_strings us = refl

pub main_begins : (us : List ClassUnit) (order : List ℕ) (main : MethodId) → IsSound us order → IsMainMethod us main → IsMain us main
main_begins us order main sound is = record {
  code = code;
  body = file_body us sound.units sound.linked.rules main is.member is.named is.read concrete;
  entry = entry_of code.member (sym member);
  class = method_class_numbered us main is.member is.named;
}
  where
    concrete : has is.member.flags Rattle.access_flags.specs.declared.TheConstants.ABSTRACT ≡ false
    concrete = static_concrete us sound.units main is.member is.named is.static

    code : CodeOf us main
    code = code_there us sound.units sound.linked.rules main is.member is.named is.read concrete

    member : is.member ≡ code.member
    member = same_Some is.member code.member (sym is.named ∙ code.named)

    entry_of : (m : NamedMember) → m ≡ is.member → words_of_values (receiver_values main.class m ++ map type_of_value (parameter_types (program_names us) m.descriptor)) ≡ Object (Array 1 (elements.Class STRING)) ∷ []
    entry_of m same =
        subst (λ (x : NamedMember). words_of_values (receiver_values main.class x ++ map type_of_value (parameter_types (program_names us) x.descriptor)) ≡ Object (Array 1 (elements.Class STRING)) ∷ []) (sym same)
        (ap (λ b. words_of_values ((cond b [] (cond (is_constructor is.member) (UninitThis ∷ []) (Object (Class main.class) ∷ []))) ++ map type_of_value (parameter_types (program_names us) is.member.descriptor))) is.static
        ∙ (ap (λ d. words_of_values (map type_of_value (parameter_types (program_names us) d))) is.descriptor
        ∙ ap (λ ts. words_of_values (map type_of_value ts)) (takes_strings us)))

pub go_in_order : (us : List ClassUnit) (order : List ℕ) (main : MethodId) (classes : ℕ) → IsSound us order → IsMainMethod us main → length (classes_of us) < classes → IsOrderly java_code (first_state us main) classes
go_in_order us order main classes sound is below = goes_in_order us (accepted us order sound) (have_room us order sound) main classes (main_begins us order main sound is) below
