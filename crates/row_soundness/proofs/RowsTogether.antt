-- The rows together, with calls that begin again and the launch of threads.
use Rattle.std.proofs.Common.{◌≡◌, ℕ, Bool, true, false, Option, None, Some, List, [], ◌∷◌, drop, refl, sym, subst, ap, ◌∙◌, if◌then◌else◌}
use Rattle.builtin_world.specs.declared.number.TheConstants.{THREAD, RUNNABLE, INCOMPATIBLE_CLASS_CHANGE_ERROR}
use Rattle.code_decode.specs.declared.code.ClassUnit.{ClassUnit}
use Rattle.link_types.specs.declared.operands.MethodId.{MethodId}
use Rattle.link_types.specs.declared.types.ObjectType.TheVariants.{Class}
use Rattle.link_types.specs.declared.types.ValueType.{ValueType}
use Rattle.link_rules.specs.Operands.{operand}
use Rattle.java_rows.specs.Calls.{invokes_selected, goes_on_at}
use Rattle.java_rows.specs.Plan.{Task, at_step, notifies, finds, Frame, Use, use_in}
use Rattle.java_rows.specs.Program.{select_for, select, runnable_run, is_subclass}
use Rattle.java_rows.specs.Thread.{launch}
use Rattle.row_soundness.specs.Senses.{Sense}
use Rattle.row_soundness.specs.Fits.{Returns, ResultFits, ValuesFit, StandsIn, BetweenCalls, OperandFits, PlanFits, anything, UseFits, returns_of}
use Rattle.row_soundness.specs.Knowledge.{Knows}
use Rattle.row_soundness.specs.Accepted.{Accepted}
use Rattle.row_soundness.proofs.CallsFit.{raises_fit}
use Rattle.row_soundness.proofs.Flow.{stands_more}
use Rattle.row_soundness.proofs.More.{between_more}
use Rattle.row_soundness.proofs.Plans.{asks_class_fit}
use Rattle.row_soundness.proofs.PartsBegin.{tasks_begin}
use Rattle.row_soundness.proofs.ChosenFit.{chosen_fits}
use Rattle.row_soundness.proofs.NativesFit.{notify_all_fits}
use Rattle.row_soundness.proofs.NativesTable.{natives_fit}
use Rattle.row_soundness.proofs.TasksFit.{between_use, notify_task_fits}
use Rattle.row_soundness.proofs.LaunchFit.{launch_fits, child_plan_fits}
use Rattle.row_soundness.proofs.EachRowFits.{each_row_fits}
use Rattle.row_soundness.specs.Rows.{RowsFit}
use Rattle.row_soundness.proofs.RowsBegin.{row_begins}

module _ {P : Type 0} (know : Sense P) (us : List ClassUnit) (knows : Knows know us) (accepted : Accepted us) where
  -- the run of a Thread's target
  target_task_fits : (me : ℕ) (h : P) (res : Option Returns) (u : Use) → know.is_of h me (Class THREAD) → ((h' : P) (tells : Returns) → know.extends h h' → tells.value ≡ None → UseFits know us h' res tells u) → (v : ℕ) → know.is_of h v (Class RUNNABLE)
      → PlanFits know us res anything (goes_on_at us me u (finds v)) h
  target_task_fits me h res u mine on v of =
      asks_class_fit know us knows res h v (λ c n. invokes_selected us me (v ∷ []) u (select_for us RUNNABLE runnable_run c)) (knows.looks h v (knows.there_of h v (Class RUNNABLE) (knows.raw_of h v (Class RUNNABLE) of)))
      (λ h' c n more is. by_test h' c n more is (is_subclass us c RUNNABLE) refl)
    where
      missing : (h' : P) → know.extends h h' → PlanFits know us res anything (invokes_selected us me (v ∷ []) u None) h'
      missing h' more = raises_fit know us knows accepted me h' res u INCOMPATIBLE_CLASS_CHANGE_ERROR refl (λ h'' r d more' thrown. (on h' (record { value = None; made = None }) more refl).ends.thrown h'' r d more' thrown)

      by_selected : (h' : P) (c n : ℕ) → know.extends h h' → know.is_exactly h' v c n → is_subclass us c RUNNABLE ≡ true → (o : Option MethodId) → select us c runnable_run ≡ o → PlanFits know us res anything (invokes_selected us me (v ∷ []) u o) h'
      by_selected h' c n more is below None same = missing h' more
      by_selected h' c n more is below (Some found) same =
          chosen_fits know us knows accepted me (natives_fit know us knows accepted me) h' res runnable_run found v [] u
          (accepted.target_runs c found (ap (λ b. if b then select us c runnable_run else None) below ∙ same)) (knows.of_more h h' me (Class THREAD) more mine)
          (knows.selected h' v c n (Class RUNNABLE) runnable_run found (knows.of_more h h' v (Class RUNNABLE) more of) is (λ p. knows.of_more h h' v (Class RUNNABLE) more of) same)
          (subst (λ ts. ValuesFit know h' ts []) (sym accepted.target_takes) tt) (λ tells e. on h' tells more (e ∙ accepted.target_void))

      by_test : (h' : P) (c n : ℕ) → know.extends h h' → know.is_exactly h' v c n → (b : Bool) → is_subclass us c RUNNABLE ≡ b → PlanFits know us res anything (invokes_selected us me (v ∷ []) u (if b then select us c runnable_run else None)) h'
      by_test h' c n more is true e = by_selected h' c n more is e (select us c runnable_run) refl
      by_test h' c n more is false e = missing h' more

  launched_fits : (me : ℕ) (h : P) (task : Task) → know.is_of h me (Class THREAD) → OperandFits know us h task → PlanFits know us None anything (goes_on_at us me launch task) h
  launched_fits me h at_step mine operand = absurd operand
  launched_fits me h (notifies r) mine operand = notify_all_fits know us knows accepted me h None launch (record { value = None; made = None }) refl refl (launch_fits know us knows accepted h (record { value = None; made = None })) r operand
  launched_fits me h (finds v) mine operand = target_task_fits me h None launch mine (λ h' tells more e. launch_fits know us knows accepted h' tells) v operand

  -- a call that ends without a value, whatever it returns
  any_tells : (h : P) (res : Option Returns) (u : Use) (tells : Returns) → tells.value ≡ None → UseFits know us h res (record { value = None; made = None }) u → UseFits know us h res tells u
  any_tells h res u tells void on = record {
    ends = record {
      value = λ h' words more fits made. on.ends.value h' words more (subst (λ (x : Option ValueType). ResultFits know h' x words) void fits) tt;
      thrown = on.ends.thrown;
    };
    again = λ h' task more none unmade operand. on.again h' task more refl refl operand;
  }

  tasks_fit : (me : ℕ) (h : P) (f : Frame) (s : StandsIn know us h f) (task : Task) → know.is_of h me (Class THREAD) → OperandFits know us h task → BetweenCalls know us h f s
      → PlanFits know us (Some (returns_of know us h f s)) anything (goes_on_at us me (use_in f (drop 1 f.stack)) task) h
  tasks_fit me h f s at_step mine operand between = absurd operand
  tasks_fit me h f s (notifies r) mine operand between = notify_task_fits know us knows accepted me h f s between r operand
  tasks_fit me h f s (finds v) mine operand between =
      target_task_fits me h (Some (returns_of know us h f s)) (use_in f (drop 1 f.stack)) mine
      (λ h' tells more void. any_tells h' (Some (returns_of know us h f s)) (use_in f (drop 1 f.stack)) tells void (between_use know us knows accepted me h' f (stands_more know us knows accepted h h' more f s) (between_more know us knows accepted h h' more f s between))) v operand

  -- all that the invariant asks of the rows
  pub rows_fit : RowsFit know us
  rows_fit = record {
    rows = λ me h f i b mine. each_row_fits know us knows accepted me h f i b mine;
    tasks = λ me h f s task mine operand between. tasks_fit me h f s task mine operand between;
    launched = λ me h task mine operand. launched_fits me h task mine operand;
    children = λ me h mine. child_plan_fits know us knows accepted me (natives_fit know us knows accepted me) h mine;
    rows_begin = λ me f what. row_begins us me f what;
    tasks_begin = λ me u task. tasks_begin us me u task;
  }
