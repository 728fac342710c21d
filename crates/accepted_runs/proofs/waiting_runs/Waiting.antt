-- A run of a sound program that is stuck is one in which each thread waits.
use Rattle.std.proofs.Common.{◌≡◌, ◌≤◌, ◌^◌, ℕ, suc, Bool, true, false, cond, nat_eq, List, length, refl, subst, arith}
use Rattle.code_decode.specs.declared.code.ClassUnit.{ClassUnit}
use Rattle.link_types.specs.declared.operands.MethodId.{MethodId}
use Rattle.link_rules.specs.Classes.{classes_of}
use Rattle.link_rules.specs.FixedObjects.{first_free}
use Rattle.link_rules.specs.Names.{program_names}
use Rattle.op_core.specs.OrdinaryState.{live, unused}
use Rattle.op_core.specs.Orderly.{CanStand, at_first, IsOrderly}
use Rattle.op_core.specs.OrderlyLaws.{AllCanStand}
use Rattle.ordinary_machine.specs.Start.{start_of}
use Rattle.java_rows.specs.Start.{opening_of, start_of_program}
use Rattle.java_rows.specs.Thread.{Local, first_state, java_code}
use Rattle.program_soundness.specs.SoundPrograms.{IsSound}
use Rattle.program_soundness.specs.Programs.{IsMainMethod}
use Rattle.program_soundness.proofs.Programs.{go_in_order}
use Rattle.program_soundness.specs.Starts.{RunsFit}
use Rattle.program_soundness.proofs.StartLaws.{runs_fit}
use Rattle.standing_runs.proofs.Standing.{orderly_stuck}
use Rattle.accepted_runs.specs.Waiting.{StuckRunsWait}

module _ (us : List ClassUnit) (main : MethodId) where
  -- thread 1 is at its first local state, and no other one has begun
  one_stands : AllCanStand java_code (first_state us main) (start_of_program us main)
  one_stands t l e = by_number (nat_eq t 1) e
    where
      same : (a b : Local) → live a ≡ live b → a ≡ b
      same a b is = cc

      by_number : (b : Bool) → cond b (live (first_state us main)) unused ≡ live l → CanStand java_code (first_state us main) l
      by_number true is = subst (CanStand java_code (first_state us main)) (same (first_state us main) l is) at_first
      by_number false is = cc

  pub stuck_wait : (order : List ℕ) → IsSound us order → first_free (program_names us) ≤ 2 ^ 32 → IsMainMethod us main → StuckRunsWait us main
  stuck_wait order sound room is schedule limits keeping outcome ran how =
      let orderly : IsOrderly java_code (first_state us main) (suc (length (classes_of us))) = go_in_order us order main (suc (length (classes_of us))) sound is (omega arith) in
      let fit : RunsFit us (start_of_program us main) = runs_fit us order main sound room is in
      let (events, kept, (last, leads, stuck), lines) = orderly_stuck java_code (first_state us main) (suc (length (classes_of us))) (start_of (opening_of us) (first_state us main)) schedule limits keeping outcome orderly one_stands refl ran how in (
        events,
        kept,
        record {
          last = last;
          leads = leads;
          stuck = stuck;
          all_wait = λ t l there. fit.wait last t l (events, leads) there (stuck.all_blocked t l there);
        },
        lines,
      )
