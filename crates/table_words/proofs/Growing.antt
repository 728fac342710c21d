-- Runs that grow by one step of one of their threads.
use Rattle.std.proofs.Common.{◌≡◌, ◌≢◌, ℕ, ◌≤◌, Bool, true, List, [], ◌∷◌, refl, sym, ◌∙◌, ap, subst, arith}
use Rattle.std.specs.Prelude.{Contains, if◌then◌else◌}
use mathlib.Core.Logic.{dite}
use native.Mathlib.Decide.{ℕ_discrete}
use Rattle.op_core.specs.ThreadCode.{Code}
use Rattle.heap_words.specs.declared.areas.Area.TheVariants.{Control}
use Rattle.step_port.specs.declared.answer.StepAnswer.{StepAnswer}
use Rattle.step_port.specs.declared.step.Step.{Step}
use Rattle.step_port.specs.declared.step.Step.TheVariants.{LoadThread, Split}
use Rattle.step_port.specs.Steps.{place_of, effect_of}
use Rattle.step_port.specs.Words.{Words, answer_of, words_after}
use Rattle.core_runs.specs.declared.StepMade.{StepMade}
use Rattle.core_runs.specs.declared.Birth.{Birth}
use Rattle.core_runs.specs.WordRuns.{RunEntry, words_by, part_of}
use Rattle.core_runs.specs.OwnParts.{is_beside, births, MakesOwn}
use Rattle.section_laws.specs.Runs.{IsRunFrom}
use Rattle.section_laws.proofs.WordLemmas.{stays_at}
use Rattle.section_laws.proofs.CoreRunLemmas.{begun_later}
use Rattle.section_laws.specs.NextSteps.{step_made}
use Rattle.section_laws.proofs.run_parts.NumberLemmas.{numbers_are_single, handed_out_is_new}
use Rattle.table_words.specs.declared.setup.Setup.{Setup}
use Rattle.table_words.specs.declared.setup.ThreadPart.{ThreadPart}
use Rattle.table_words.specs.Setups.{setup_bounds, setup_words, first_birth}
use Rattle.table_words.specs.Parts.{part_after, local_at_birth, state_at_birth, IsSetupRun, IsOwnOf, IsPartInRun}
use Rattle.table_words.proofs.Births.{same_test, other_number, Born, before, now, born, unborn}

abbrev pub entry_of : ℕ → StepMade → RunEntry
entry_of n m = record { thread = n; made = m }

-- the word that is loaded where a thread is handed out stays 0
seats_stay : (step : Step) (w : Words) → words_after step w (Control 0) ≡ w (Control 0)
seats_stay (Split n r p) w = refl
seats_stay (LoadThread which) w = refl
seats_stay step w = stays_at (effect_of step) w (place_of step) (Control 0) refl

pub seats_word : (w : Words) (run : List RunEntry) → w (Control 0) ≡ 0 → words_by w run (Control 0) ≡ 0
seats_word w [] zero_first = zero_first
seats_word w (e ∷ run) zero_first = seats_stay e.made.step (words_by w run) ∙ seats_word w run zero_first

-- the steps of the thread that made the last one
pub part_grows : (run : List RunEntry) (n : ℕ) (m : StepMade) → part_of n (entry_of n m ∷ run) ≡ m ∷ part_of n run
part_grows run n m = ap (λ (t : Bool). if t then m ∷ part_of n run else part_of n run) (same_test n)

-- the steps of another one
pub part_stays : (run : List RunEntry) (n i : ℕ) (m : StepMade) → n ≢ i → part_of i (entry_of n m ∷ run) ≡ part_of i run
part_stays run n i m apart = ap (λ (t : Bool). if t then m ∷ part_of i run else part_of i run) (other_number n i apart)

module _ {C S : Type 0} (state : C → S) (code : Code S) (k : Setup C) where
  pub begins : (run : List RunEntry) → IsSetupRun state code k run → IsRunFrom code (setup_bounds k) (state_at_birth state code k) (first_birth k) (setup_words k) run
  begins run is = record { sections = λ s. refl; threads = λ birth. (birth.number, birth.priority, local_at_birth state code k birth, refl); is_run = is }

  low : (first_birth k).number ≤ setup_words k (Control 4)
  low = omega arith

  pub single : (run : List RunEntry) → IsSetupRun state code k run → (x y : Birth) → Contains (births (first_birth k) run) x → Contains (births (first_birth k) run) y
      → x.number ≡ y.number → x ≡ y
  single run is x y at there same = numbers_are_single code (setup_bounds k) (state_at_birth state code k) (first_birth k) (setup_words k) run (begins run is) low x y at there same

  pub new_number : (run : List RunEntry) → IsSetupRun state code k run → (x : Birth) → Contains (births (first_birth k) run) x
      → (n r p : ℕ) (a : StepAnswer) → IsOwnOf state code k x (step_made (Split n r p) a ∷ part_of x.number run)
      → (y : Birth) → Contains (births (first_birth k) run) y → n ≢ y.number
  new_number run is x at n r p a own y there same =
      handed_out_is_new code (setup_bounds k) (state_at_birth state code k) (first_birth k) (setup_words k) run (begins run is) low x at n r p a own y there same

  pub nothing_yet : (x : Birth) → IsOwnOf state code k x []
  nothing_yet x = (state_at_birth state code k x, refl)

  -- a run goes on with the next step of one of its threads, which is answered as its words are
  pub run_grows : (run : List RunEntry) → IsSetupRun state code k run → (x : Birth) → Contains (births (first_birth k) run) x → (m : StepMade)
      → m.answer ≡ answer_of (words_by (setup_words k) run) m.step → IsOwnOf state code k x (m ∷ part_of x.number run) → IsSetupRun state code k (entry_of x.number m ∷ run)
  run_grows run is x at m answers own = record {
    words = (is.words, answers);
    begun = (is.begun, (x, at, refl));
    own = λ y there. owns y (born m.step (births (first_birth k) run) y there);
  }
    where
      owns : (y : Birth) → Born m.step (births (first_birth k) run) y → IsOwnOf state code k y (part_of y.number (entry_of x.number m ∷ run))
      owns y (before old) = dite (ℕ_discrete x.number y.number)
          (λ e. subst (λ (z : Birth). IsOwnOf state code k z (part_of z.number (entry_of x.number m ∷ run))) (single run is x y at old e)
          (subst (λ part. IsOwnOf state code k x part) (sym (part_grows run x.number m)) own))
          (λ ne. subst (λ part. IsOwnOf state code k y part) (sym (part_stays run x.number y.number m ne)) (is.own y old))
      owns y (now n r p step same) =
          let new : (z : Birth) → Contains (births (first_birth k) run) z → n ≢ z.number =
          new_number run is x at n r p m.answer (subst (λ st. IsOwnOf state code k x (step_made st m.answer ∷ part_of x.number run)) step own) in
          let number : n ≡ y.number = ap (λ (z : Birth). z.number) same in
          let empty : part_of y.number run ≡ [] = ap (λ i. part_of i run) (sym number) ∙ unborn (first_birth k) run n is.begun new in
          subst (λ part. IsOwnOf state code k y part) (sym (part_stays run x.number y.number m (λ e. new x at (number ∙ sym e)) ∙ empty)) (nothing_yet y)

  -- where a part of a run goes on with a step that the run's words answer so, it is a part of a run again
  pub goes_on : (p : ThreadPart C) (in_run : IsPartInRun state code k p) (m : StepMade) → m.answer ≡ answer_of (words_by (setup_words k) in_run.run) m.step
      → IsOwnOf state code k p.birth (m ∷ p.steps) → IsPartInRun state code k (part_after p m)
  goes_on p in_run m answers own =
      let was = in_run.is_part in
      record {
        run = entry_of p.birth.number m ∷ in_run.run;
        is_run = run_grows in_run.run in_run.is_run p.birth was.born m answers (subst (λ part. IsOwnOf state code k p.birth (m ∷ part)) was.steps own);
        is_part = record {
          setup = was.setup;
          steps = ap (λ part. m ∷ part) was.steps ∙ sym (part_grows in_run.run p.birth.number m);
          born = begun_later m.step (births (first_birth k) in_run.run) p.birth was.born;
        };
      }

  -- a step beside the threads goes on with any part
  pub beside_own : (x : Birth) (m : StepMade) (part : List StepMade) → is_beside m.step ≡ true → IsOwnOf state code k x part → IsOwnOf state code k x (m ∷ part)
  beside_own x m part is (y, own) = (y, (y, y, 0, own, refl, subst (λ t. MakesOwn t code (setup_bounds k) m y y) (sym is) refl))
