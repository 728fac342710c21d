-- What holds of a sound program from its start on.
use Rattle.std.proofs.Common.{◌≤◌, ◌^◌, ℕ, List}
use Rattle.code_decode.specs.declared.code.ClassUnit.{ClassUnit}
use Rattle.link_types.specs.declared.operands.MethodId.{MethodId}
use Rattle.link_rules.specs.FixedObjects.{first_free}
use Rattle.link_rules.specs.Names.{program_names}
use Rattle.java_rows.specs.Start.{start_of_program}
use Rattle.row_soundness.specs.Accepted.{Accepted}
use Rattle.row_soundness.specs.ClassesFollow.{ClassesFollow}
use Rattle.program_soundness.specs.Soundness.{HasRoom, StateFits}
use Rattle.program_soundness.proofs.SoundnessLaws as java
use Rattle.program_soundness.specs.SoundPrograms.{IsSound}
use Rattle.program_soundness.proofs.AcceptedPrograms.{accepted}
use Rattle.program_soundness.specs.Programs.{IsMainMethod}
use Rattle.program_soundness.proofs.ThreadLaws.{programs_have_room}
use Rattle.program_soundness.proofs.ObjectLaws.{classes_follow}
use Rattle.program_soundness.specs.Starts.{RunsFit}
use Rattle.program_soundness.proofs.Starts.{starts_fit}

pub runs_fit : (us : List ClassUnit) (order : List ℕ) (main : MethodId) → IsSound us order → first_free (program_names us) ≤ 2 ^ 32 → IsMainMethod us main → RunsFit us (start_of_program us main)
runs_fit us order main sound room is = record {
  first = start_is;
  grounded = java.grounded us accepts has_room follow (start_of_program us main) start_is;
  start_words = java.start_words us accepts has_room follow (start_of_program us main) start_is;
  reached = λ s leads. java.executions us accepts has_room follow (start_of_program us main) s start_is leads;
  go_on = λ s t l leads there. java.live_threads us accepts has_room follow s t l (java.executions us accepts has_room follow (start_of_program us main) s start_is leads) there;
  wait = λ s t from leads there blocked. java.waits us accepts has_room follow (start_of_program us main) s t from start_is leads there blocked;
}
  where
    start_is : StateFits us (start_of_program us main)
    start_is = starts_fit us order main sound room is

    accepts : Accepted us
    accepts = accepted us order sound

    has_room : HasRoom us
    has_room = programs_have_room us order sound room

    follow : ClassesFollow us
    follow = classes_follow us order sound room
