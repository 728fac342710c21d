-- The host's steps on the stop word leave the threads where they are.
use Rattle.std.proofs.Common.{◌≡◌, true, List, [], ◌∷◌, refl, sym, ◌∙◌, ap, subst}
use Rattle.op_core.specs.ThreadCode.{Code}
use Rattle.step_port.specs.declared.answer.StepAnswer.{StepAnswer}
use Rattle.step_port.specs.declared.step.Step.{Step}
use Rattle.core_runs.specs.OwnParts.{MakesOwn, is_beside}
use Rattle.thread_moves.specs.Thread.{thread_of}
use Rattle.thread_moves.specs.declared.thread.JThread.{JThread}
use Rattle.section_laws.specs.NextSteps.{step_made}
use Rattle.table_words.specs.declared.setup.Setup.{Setup}
use Rattle.table_words.specs.declared.setup.ThreadPart.{ThreadPart}
use Rattle.table_words.specs.Setups.{setup_bounds}
use Rattle.table_words.specs.Parts.{part_after}
use Rattle.table_words.specs.Views.{first_after, FirstIsInRun}
use Rattle.table_hosts.specs.Standing.{StandsAtView}

module _ {C S : Type 0} (state : C → S) (saved : C → List S) (code : Code S) (k : Setup C) where
  -- after a step of the host a thread is where it was
  pub host_stands : (x : JThread C) (v w : List (ThreadPart C)) (step : Step) (a : StepAnswer) → StandsAtView state saved code k x v → is_beside step ≡ true
      → w ≡ first_after v (step_made step a) → FirstIsInRun state code k w → StandsAtView state saved code k x w
  host_stands x v w step a st beside grown in_run =
      let th = thread_of state saved x in
      let one : w ≡ part_after st.part (step_made step a) ∷ [] = grown ∙ ap (λ u. first_after u (step_made step a)) st.one in
      record {
        part = part_after st.part (step_made step a);
        one = one;
        in_run = subst (FirstIsInRun state code k) one in_run;
        after = record {
          last = th;
          own = (st.after.last, th, st.after.moves, st.after.own, st.after.quietly, subst (λ t. MakesOwn t code (setup_bounds k) (step_made step a) th th) (sym beside) refl);
          moves = 0;
          quietly = refl;
        };
        bounds = st.bounds;
      }
