-- Calls that begin again: notifyAll, and run of a Thread's target.
use Rattle.std.proofs.Common.{◌≤◌, ℕ, None, Some, List, [], ◌∷◌, length, drop, refl, sym, ap, subst, ◌∙◌}
use Rattle.code_decode.specs.declared.code.ClassUnit.{ClassUnit}
use Rattle.type_rules.specs.Environment.{TypeFrame}
use Rattle.java_rows.specs.Calls.{goes_on_at}
use Rattle.java_rows.specs.Plan.{Task, at_step, notifies, operand_of_task, Frame, use_in}
use Rattle.row_soundness.specs.Senses.{Sense}
use Rattle.row_soundness.specs.Fits.{Returns, HaveTypes, ResultFits, StandsIn, BetweenCalls, OperandFits, TaskFits, PlanFits, anything, UseFits, env_of, returns_of}
use Rattle.row_soundness.specs.Knowledge.{Knows}
use Rattle.row_soundness.specs.Accepted.{Accepted}
use Rattle.row_soundness.proofs.Basics.{types_more}
use Rattle.row_soundness.proofs.Flow.{next_from, stands_more, task_stands}
use Rattle.row_soundness.proofs.RowBasics.{bare_stands}
use Rattle.row_soundness.proofs.NativesFit.{notify_all_fits}

module _ {P : Type 0} (know : Sense P) (us : List ClassUnit) (knows : Knows know us) (accepted : Accepted us) (me : ℕ) where
  -- it ends without a value
  abbrev void : Returns
  void = record { value = None; made = None }

  module _ (h : P) (f : Frame) (s : StandsIn know us h f) (between : BetweenCalls know us h f s) where
    -- after a call that began again, and where it begins again once more
    pub between_use : UseFits know us h (Some (returns_of know us h f s)) void (use_in f (drop 1 f.stack))
    between_use = record {
      ends = record {
        value = λ h' words more fits made. answered h' more words fits;
        thrown = λ h' r c more thrown. (tt, (bare_stands know us knows accepted me h' f (stands_more know us knows accepted h h' more f s), refl, thrown));
      };
      again = λ h' task more none unmade operand. again h' task more operand;
    }
      where
        answered : (h' : P) → know.extends h h' → (words : List ℕ) → ResultFits know h' None words → PlanFits know us (Some (returns_of know us h f s)) anything ((use_in f (drop 1 f.stack)).value words) h'
        answered h' more [] fits =
            let s' = stands_more know us knows accepted h h' more f s in
            let env = env_of us f.method s.of in (
              tt,
              (next_from know us knows accepted h' f between.step s' between.there s.unset.made f.locals (drop 1 f.stack) between.falls (record {
                locals_fit = subst (λ (x : TypeFrame). HaveTypes know env s.unset h' f.locals x.locals) (sym between.same) s'.locals;
                stack_fits = types_more know us knows env s.unset h h' (drop 1 f.stack) _ more between.stack;
                set = λ constructs flag. s'.set constructs (sym (ap (λ (x : TypeFrame). x.flag_this_uninit) between.same) ∙ flag);
              })).0,
            )
        answered h' more (v ∷ words) fits = absurd fits

        at_task : (h' : P) (task : Task) (v : ℕ) → (more : know.extends h h') → length (v ∷ drop 1 f.stack) ≤ f.room → OperandFits know us h' task → TaskFits know us h' (record f { task = task; stack = v ∷ drop 1 f.stack }) (task_stands know us knows accepted h h' more f s task (v ∷ drop 1 f.stack)) task
        at_task h' at_step v more room operand = absurd operand
        at_task h' task v more room operand = (
          operand,
          record {
            step = between.step;
            there = between.there;
            falls = between.falls;
            same = between.same;
            stack = types_more know us knows (env_of us f.method s.of) s.unset h h' (drop 1 f.stack) _ more between.stack;
            fits = room;
            some = between.some;
          },
        )

        deep : (stack : List ℕ) → length stack ≤ f.room → 1 ≤ f.room → (v : ℕ) → length (v ∷ drop 1 stack) ≤ f.room
        deep [] fits some v = some
        deep (x ∷ stack) fits some v = fits

        again : (h' : P) (task : Task) → know.extends h h' → OperandFits know us h' task → PlanFits know us (Some (returns_of know us h f s)) anything ((use_in f (drop 1 f.stack)).again task) h'
        again h' task more operand = (
          tt,
          (
            record {
              stands = task_stands know us knows accepted h h' more f s task (operand_of_task task ∷ drop 1 f.stack);
              task = at_task h' task (operand_of_task task) more (deep f.stack between.fits between.some (operand_of_task task)) operand;
            },
            refl,
          ),
        )

    pub notify_task_fits : (r : ℕ) → OperandFits know us h (notifies r) → PlanFits know us (Some (returns_of know us h f s)) anything (goes_on_at us me (use_in f (drop 1 f.stack)) (notifies r)) h
    notify_task_fits r operand = notify_all_fits know us knows accepted me h (Some (returns_of know us h f s)) (use_in f (drop 1 f.stack)) void refl refl between_use r operand
