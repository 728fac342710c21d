-- What is left of a run of a program that ends where no thread is enabled is stuck, and each thread waits.
use Rattle.std.proofs.Common.{sym, subst, List}
use Rattle.code_decode.specs.declared.code.ClassUnit.{ClassUnit}
use Rattle.link_types.specs.declared.operands.MethodId.{MethodId}
use Rattle.op_core.specs.CleanCut.{kept_by}
use Rattle.op_core.specs.Execution.{IsStuck}
use Rattle.java_rows.specs.Start.{start_of_program}
use Rattle.java_rows.specs.Thread.{java_code, first_state}
use Rattle.row_soundness.specs.Runs.{IsThread}
use Rattle.program_soundness.specs.Starts.{RunsFit}
use Rattle.core_law.specs.Erasure.{is_left_out}
use Rattle.core_law.specs.Idle.{NoneIsEnabled}
use Rattle.core_law.proofs.EndLemmas.{idle_runs_end_stuck, held_up_turns_are_idle}
use Rattle.accepted_runs.specs.Runs.{AreErasedTurns, ProgramTurnsAreErased}
use Rattle.accepted_runs.specs.HeldUp.{IdleRunsEndWaiting, HeldUpTurnsEndWaiting}

module _ (us : List ClassUnit) (main : MethodId) (fit : RunsFit us (start_of_program us main)) where
  pub idle_runs_end_waiting : IdleRunsEndWaiting us main
  idle_runs_end_waiting b classes c acts run idle = record {
    last = run.erasure.last;
    leads = run.execution;
    stuck = stuck;
    all_wait = λ t l there. fit.wait run.erasure.last t l (kept_by (is_left_out c acts) run.erasure.entries, run.execution) there (stuck.all_blocked t l there);
  }
    where
      stuck : IsStuck java_code run.erasure.last
      stuck = idle_runs_end_stuck java_code b (IsThread us) (first_state us main) classes c acts run.kept.run idle run.erasure

  pub held_up_turns_end_waiting : ProgramTurnsAreErased us main → HeldUpTurnsEndWaiting us main
  held_up_turns_end_waiting are_erased b first heap sections rest keeps threads last follows up = record {
    turns = turns;
    waits = idle_runs_end_waiting b turns.classes turns.cores last.state.acts turns.erased (subst (NoneIsEnabled java_code) (sym turns.ends) (held_up_turns_are_idle java_code b last up));
  }
    where
      turns : AreErasedTurns us main b last.state
      turns = are_erased b first heap sections rest keeps threads last follows
