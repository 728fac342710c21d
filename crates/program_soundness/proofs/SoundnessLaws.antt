-- The laws of accepted programs.
use Rattle.std.proofs.Common.{◌<◌, ◌≤◌, ◌^◌, ℕ, List, length}
use Rattle.code_decode.specs.declared.code.ClassUnit.{ClassUnit}
use Rattle.link_types.specs.declared.operands.MethodId.{MethodId}
use Rattle.link_rules.specs.Classes.{classes_of}
use Rattle.link_rules.specs.Layout.{object_words}
use Rattle.link_rules.specs.Names.{program_names}
use Rattle.op_core.specs.Orderly.{IsOrderly}
use Rattle.java_rows.specs.Thread.{java_code, first_state}
use Rattle.row_soundness.specs.Accepted.{Accepted, IsMain}
use Rattle.row_soundness.specs.ClassesFollow.{ClassesFollow}
use Rattle.row_soundness.specs.Kinds.{kinds}
use Rattle.row_soundness.specs.Knowledge.{CanBeMade}
use Rattle.row_soundness.specs.Runs.{runs}
use Rattle.program_soundness.specs.Soundness.{HasRoom, LiveThreadsGoOn, BlockedThreadsWait, ExecutionsFit, ListsFit, StartsAreGrounded, StartsKeepStartWords}
use Rattle.row_soundness.proofs.KindsKnow.{kinds_know}
use Rattle.row_soundness.proofs.RunsKnow.{runs_know}
use Rattle.row_soundness.proofs.RowsTogether.{rows_fit}
use Rattle.row_soundness.proofs.FirstState.{first_fits}
use Rattle.program_soundness.proofs.WaitLemmas.{blocked_wait}
use Rattle.program_soundness.proofs.SoundLemmas as runs_of
use Rattle.program_soundness.proofs.OrderlyLemmas as kinds_of

-- of all that is asked of room, that objects have few words is enough for the order of operations
pub goes_in_order : (us : List ClassUnit) → Accepted us → ((c n : ℕ) → CanBeMade us c n → object_words (program_names us) c n ≤ 2 ^ 32)
    → (main : MethodId) (classes : ℕ) → IsMain us main → length (classes_of us) < classes → IsOrderly java_code (first_state us main) classes
goes_in_order us accepted few main classes is below =
    kinds_of.orderly us accepted (rows_fit (kinds us) us (kinds_know us) accepted) few (first_state us main) classes (first_fits (kinds us) us (kinds_know us) accepted (λ me. rows_fit (kinds us) us (kinds_know us) accepted) main is tt) below

module _ (us : List ClassUnit) (accepted : Accepted us) (room : HasRoom us) where
  pub lists : ClassesFollow us → ListsFit us
  lists follow = runs_of.lists_fit us (runs_know us follow) accepted (rows_fit (runs us) us (runs_know us follow) accepted) room

  pub grounded : ClassesFollow us → StartsAreGrounded us
  grounded follow = runs_of.grounded us (runs_know us follow) accepted (rows_fit (runs us) us (runs_know us follow) accepted) room

  pub start_words : ClassesFollow us → StartsKeepStartWords us
  start_words follow = runs_of.start_words us (runs_know us follow) accepted (rows_fit (runs us) us (runs_know us follow) accepted) room

  pub orderly : (main : MethodId) (classes : ℕ) → IsMain us main → length (classes_of us) < classes → IsOrderly java_code (first_state us main) classes
  orderly = goes_in_order us accepted room.few

  pub live_threads : ClassesFollow us → LiveThreadsGoOn us
  live_threads follow = runs_of.go_on us (runs_know us follow) accepted (rows_fit (runs us) us (runs_know us follow) accepted) room

  pub waits : ClassesFollow us → BlockedThreadsWait us
  waits follow = blocked_wait us (runs_know us follow) accepted (rows_fit (runs us) us (runs_know us follow) accepted) room

  pub executions : ClassesFollow us → ExecutionsFit us
  executions follow = runs_of.executions_fit us (runs_know us follow) accepted (rows_fit (runs us) us (runs_know us follow) accepted) room
