-- The launch of threads.
use Rattle.std.proofs.Common.{◌≡◌, ℕ, Option, None, Some, List, [], ◌∷◌, refl, sym, subst}
use Rattle.builtin_world.specs.declared.number.TheConstants.{THREAD, INCOMPATIBLE_CLASS_CHANGE_ERROR}
use Rattle.code_decode.specs.declared.code.ClassUnit.{ClassUnit}
use Rattle.link_types.specs.declared.operands.MethodId.{MethodId}
use Rattle.link_types.specs.declared.types.ObjectType.TheVariants.{Class}
use Rattle.java_rows.specs.Calls.{invokes_selected}
use Rattle.java_rows.specs.Plan.{asks_class}
use Rattle.java_rows.specs.Program.{select, thread_run}
use Rattle.java_rows.specs.Thread.{launch}
use Rattle.row_soundness.specs.Senses.{Sense}
use Rattle.row_soundness.specs.Fits.{Returns, ValuesFit, PlanFits, anything, UseFits}
use Rattle.row_soundness.specs.Knowledge.{Knows}
use Rattle.row_soundness.specs.Accepted.{Accepted}
use Rattle.row_soundness.proofs.Plans.{ends_fit, asks_class_fit}
use Rattle.row_soundness.proofs.CallsFit.{raises_fit}
use Rattle.row_soundness.proofs.ChosenFit.{NativesFit, chosen_fits}

module _ {P : Type 0} (know : Sense P) (us : List ClassUnit) (knows : Knows know us) (accepted : Accepted us) where
  -- the lowest frame of a thread ends it, whatever its method gives
  pub launch_fits : (h : P) (tells : Returns) → UseFits know us h None tells launch
  launch_fits h tells = record {
    ends = record {
      value = λ h' words more fits made. ends_fit know us knows None h' None;
      thrown = λ h' r c more thrown. ends_fit know us knows None h' (Some c);
    };
    again = λ h' task more none unmade operand. (tt, (refl, operand));
  }

  pub child_plan_fits : (me : ℕ) (natives : NativesFit know us knows accepted me) (h : P) → know.is_of h me (Class THREAD)
      → PlanFits know us None anything (asks_class me (λ c n. invokes_selected us me (me ∷ []) launch (select us c thread_run))) h
  child_plan_fits me natives h mine =
      asks_class_fit know us knows None h me (λ c n. invokes_selected us me (me ∷ []) launch (select us c thread_run)) (knows.looks h me (knows.there_of h me (Class THREAD) (knows.raw_of h me (Class THREAD) mine)))
      (λ h' c n more is. by_selected h' c n (knows.of_more h h' me (Class THREAD) more mine) is (select us c thread_run) refl)
    where
      by_selected : (h' : P) (c n : ℕ) → know.is_of h' me (Class THREAD) → know.is_exactly h' me c n → (o : Option MethodId) → select us c thread_run ≡ o → PlanFits know us None anything (invokes_selected us me (me ∷ []) launch o) h'
      by_selected h' c n mine is None same =
          raises_fit know us knows accepted me h' None launch INCOMPATIBLE_CLASS_CHANGE_ERROR refl (λ h'' r d more thrown. ends_fit know us knows None h'' (Some d))
      by_selected h' c n mine is (Some found) same =
          chosen_fits know us knows accepted me natives h' None thread_run found me [] launch (accepted.runs c found same) mine
          (knows.selected h' me c n (Class THREAD) thread_run found mine is (λ p. mine) same)
          (subst (λ ts. ValuesFit know h' ts []) (sym accepted.run_takes) tt) (λ tells e. launch_fits h' tells)
