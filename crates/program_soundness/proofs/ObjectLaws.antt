-- What holds of the objects of a sound program, field by field.
use Rattle.std.proofs.Common.{◌≤◌, ◌^◌, ℕ, List}
use Rattle.code_decode.specs.declared.code.ClassUnit.{ClassUnit}
use Rattle.link_rules.specs.FixedObjects.{first_free}
use Rattle.link_rules.specs.Names.{program_names}
use Rattle.row_soundness.specs.ClassesFollow.{ClassesFollow}
use Rattle.row_soundness.specs.Accepted.{Accepted}
use Rattle.program_soundness.specs.Soundness.{HasRoom}
use Rattle.program_soundness.specs.SoundPrograms.{IsSound}
use Rattle.program_soundness.proofs.AcceptedPrograms.{accepted}
use Rattle.program_soundness.specs.ClassFacts.{ClassesGoUp}
use Rattle.program_soundness.proofs.ClassLaws.{classes_go_up}
use Rattle.program_soundness.proofs.ThreadLaws.{programs_have_room}
use Rattle.program_soundness.proofs.BuiltInWords.{message_there, priority_there, target_there, text_there, units_there}
use Rattle.program_soundness.proofs.ElementWords.{elements_fit, references_fit}
use Rattle.program_soundness.proofs.FieldWords.{object_field_fits}
use Rattle.program_soundness.proofs.FixedFit.{arguments_fit, class_field_fits, class_object_fits, literal_fits, main_thread_fits, out_fits}
use Rattle.program_soundness.proofs.OneContent.{one_content}
use Rattle.program_soundness.proofs.TypesGoUp.{goes_above, goes_up}

module _ (us : List ClassUnit) (order : List ℕ) (sound : IsSound us order) (room : first_free (program_names us) ≤ 2 ^ 32) where
  go_up : ClassesGoUp us
  go_up = classes_go_up us order sound

  pub classes_follow : ClassesFollow us
  classes_follow = record {
    up = goes_up us order sound;
    above = goes_above us order sound;
    own = go_up.own;
    exceptions = go_up.exceptions;
    throwable = go_up.throwable;
    below = go_up.below;
    below_throwable = go_up.below_throwable;
    selected = go_up.selected;
    one = λ r i o k j fits first second. one_content us order sound r o i k j first second;
    object_field = object_field_fits us order sound;
    class_field = class_field_fits us order sound room;
    priority = priority_there us order sound;
    target = target_there us order sound;
    message = message_there us order sound;
    units = units_there us order sound;
    text = text_there us order sound;
    top = go_up.top;
    elements = λ r i o kind s numeric fits stands test within. elements_fit us order sound r o fits i kind s numeric stands test within;
    references = λ r i o s fits stands test within. references_fit us order sound r o fits i s stands test within;
    class_objects = class_object_fits us order sound room;
    literals = literal_fits us order sound room;
    out = out_fits us order sound room;
    arguments = arguments_fit us order sound room;
    main_thread = main_thread_fits us order sound room;
  }

  pub programs_sound : Accepted us × HasRoom us × ClassesFollow us
  programs_sound = (accepted us order sound, programs_have_room us order sound room, classes_follow)
