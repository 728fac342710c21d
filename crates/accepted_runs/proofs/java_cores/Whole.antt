-- Runs of a sound program on shared words fit.
use Rattle.std.proofs.Common.{◌≡◌, ◌≤◌, ◌^◌, ◌+◌, ℕ, true, List, length, sym, subst, arith}
use Rattle.builtin_world.specs.declared.number.TheConstants.{THREAD}
use Rattle.code_decode.specs.declared.code.ClassUnit.{ClassUnit}
use Rattle.link_types.specs.declared.operands.MethodId.{MethodId}
use Rattle.link_types.specs.declared.types.ObjectType.TheVariants.{Class}
use Rattle.link_rules.specs.Classes.{classes_of}
use Rattle.link_rules.specs.FixedObjects.{first_free}
use Rattle.link_rules.specs.Names.{program_names}
use Rattle.link_rules.proofs.Numbers.{class_count_is}
use Rattle.op_core.specs.InPlaceList.{IsGrounded}
use Rattle.op_core.specs.Orderly.{StartWordsAreKept}
use Rattle.op_core.specs.OrdinaryState.{OrdinaryState}
use Rattle.java_rows.specs.Start.{start_of_program}
use Rattle.java_rows.specs.Thread.{Local, java_code, first_state}
use Rattle.opening_cores.specs.KeptCores.{KeepsFitting}
use Rattle.opening_cores.proofs.kept_cores.CoreLemmas.{cores_keep}
use Rattle.row_soundness.specs.Accepted.{Accepted}
use Rattle.row_soundness.specs.Knowledge.{Knows}
use Rattle.row_soundness.specs.Runs.{IsThread, MayStand, MayStandFor, ObjectFits, RunsLocal, runs}
use Rattle.row_soundness.specs.ClassesFollow.{ClassesFollow}
use Rattle.row_soundness.proofs.RunsKnow.{runs_know}
use Rattle.row_soundness.proofs.RowsTogether.{rows_fit}
use Rattle.program_soundness.specs.Soundness.{HasRoom, StateFits}
use Rattle.program_soundness.proofs.SoundLemmas.{java_keeps}
use Rattle.program_soundness.proofs.SoundnessLaws as java
use Rattle.program_soundness.specs.SoundPrograms.{IsSound}
use Rattle.program_soundness.proofs.ClassNumbers.{type_of_class}
use Rattle.program_soundness.proofs.AcceptedPrograms.{accepted}
use Rattle.program_soundness.specs.Programs.{IsMainMethod}
use Rattle.program_soundness.proofs.Programs.{main_begins}
use Rattle.program_soundness.proofs.ThreadLaws.{programs_have_room}
use Rattle.program_soundness.proofs.ObjectLaws.{classes_follow}
use Rattle.program_soundness.proofs.Starts.{starts_fit}
use Rattle.accepted_runs.specs.JavaCores.{CoreStatesFit}

module _ (us : List ClassUnit) (order : List ℕ) (sound : IsSound us order) (room : first_free (program_names us) ≤ 2 ^ 32) where
  pub accepts : Accepted us
  accepts = accepted us order sound

  pub has_room : HasRoom us
  has_room = programs_have_room us order sound room

  pub follow : ClassesFollow us
  follow = classes_follow us order sound room

  knows : Knows (runs us) us
  knows = runs_know us follow

  -- a Thread may be used where one is wanted
  thread_stands : (c : ℕ) → IsThread us c ≡ true → MayStandFor us c (Class THREAD)
  thread_stands c is =
      let count : length (classes_of us) ≡ 28 + length us = class_count_is us in
      subst (λ t. MayStandFor us c t) (type_of_class (program_names us) THREAD (omega (arith, count))) (follow.below c THREAD is)

  pub fitting : KeepsFitting java_code (IsThread us) (RunsLocal us) (MayStand us) (ObjectFits us)
  fitting = record {
    keeps = java_keeps us knows accepts (rows_fit (runs us) us knows accepts) has_room;
    threads = λ r o fits thread. (has_room.threads r o fits (thread_stands o.class thread)).1;
    few = λ r o fits. fits.few;
  }

  pub core_states_fit : (main : MethodId) → IsMainMethod us main → CoreStatesFit us main
  core_states_fit main is b classes c acts below run at =
      let start : StateFits us (start_of_program us main) = starts_fit us order main sound room is in
      cores_keep java_code (RunsLocal us) (MayStand us) (ObjectFits us) (IsThread us) fitting b (first_state us main) classes c acts
      (java.orderly us accepts has_room main classes (main_begins us order main sound is) below)
      (subst (λ (s : OrdinaryState Local). IsGrounded java_code s) (sym at) (java.grounded us accepts has_room follow (start_of_program us main) start))
      (subst (λ (s : OrdinaryState Local). StartWordsAreKept java_code (IsThread us) s) (sym at) (java.start_words us accepts has_room follow (start_of_program us main) start))
      run (subst (StateFits us) (sym at) start)
