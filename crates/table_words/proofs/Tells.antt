-- What the table tells of a step is that the part has grown by the step that was to be made.
use Rattle.std.proofs.Common.{◌≡◌, ◌+◌, ◌-◌, ℕ, false, Some, List, [], ◌∷◌, refl, sym, ◌∙◌, ap, subst, arith}
use Rattle.std.proofs.lemmas.Option.{same_Some}
use Rattle.op_core.specs.ThreadCode.{Code}
use Rattle.heap_words.specs.declared.areas.Area.{Area}
use Rattle.heap_words.specs.declared.areas.Area.TheVariants.{Section, Object}
use Rattle.heap_words.specs.Areas.{begin_of, number_in, place_in}
use Rattle.step_port.specs.declared.answer.StepAnswer.{StepAnswer}
use Rattle.step_port.specs.declared.answer.StepAnswer.TheVariants.{Done}
use Rattle.step_port.specs.declared.step.Step.{Step}
use Rattle.step_port.specs.declared.step.Step.TheVariants.{LookMonitor, LookSection, BreakLevel}
use Rattle.step_port.specs.Steps.{effect_of, IsOwnStep}
use Rattle.step_port.specs.Words.{answer_to}
use Rattle.section_state.specs.SectionWord.{revoke_of}
use Rattle.core_runs.specs.OwnParts.{is_beside}
use Rattle.section_laws.specs.NextSteps.{step_made, next_step}
use Rattle.section_laws.proofs.run_parts.NextStepLemmas.{parts_decide}
use Rattle.table_words.specs.declared.setup.Setup.{Setup}
use Rattle.table_words.specs.declared.setup.ThreadPart.{ThreadPart}
use Rattle.table_words.specs.Setups.{setup_bounds, setup_areas}
use Rattle.table_words.specs.Parts.{part_after, state_at_birth, next_of_part, IsOwnOf, IsPartInRun, MayMakeNext}
use Rattle.table_words.specs.Views.{first_after, IsSeated, FirstIsInRun, FirstIsInItsRun, FirstMayMake}
use Rattle.table_words.specs.Plays.{number_in_area, MakesOwnStep, MakesThisStep}
use Rattle.table_words.proofs.Births.{own_not_beside}

-- the place of a word says its number
pub numbered : {C : Type 0} (k : Setup C) (v : List (ThreadPart C)) → IsSeated k v → (a b : Area) → begin_of (setup_areas k) a ≡ begin_of (setup_areas k) b
    → (i : ℕ) → place_in (setup_areas k) a ≡ i → number_in_area v i b ≡ number_in a
numbered k [] seated a b same i is = absurd seated
numbered k (p ∷ ps) seated a b same i is =
    let e : begin_of (setup_areas p.setup) b ≡ begin_of (setup_areas k) b = ap (λ (j : Setup _). begin_of (setup_areas j) b) seated in
    omega (arith, e, same, is)

module _ {C : Type 0} (k : Setup C) (v : List (ThreadPart C)) (seated : IsSeated k v) where
  plus_one : (n : ℕ) → n ≡ n + 1 - 1
  plus_one n = omega arith

  pub monitor_told : (r i : ℕ) → place_in (setup_areas k) (Object (r + 1)) ≡ i → LookMonitor r ≡ LookMonitor (number_in_area v i (Object 0) - 1)
  monitor_told r i at = ap LookMonitor (plus_one r) ∙ ap (λ n. LookMonitor (n - 1)) (sym (numbered k v seated (Object (r + 1)) (Object 0) refl i at))

  section_at : (s i : ℕ) → place_in (setup_areas k) (Section s) ≡ i → s ≡ number_in_area v i (Section 0)
  section_at s i at = sym (numbered k v seated (Section s) (Section 0) refl i at)

  pub section_told : (s i : ℕ) → place_in (setup_areas k) (Section s) ≡ i → LookSection s ≡ LookSection (number_in_area v i (Section 0))
  section_told s i at = ap LookSection (section_at s i at)

  pub level_told : (s i old level new : ℕ) → place_in (setup_areas k) (Section s) ≡ i → revoke_of new ≡ level
      → BreakLevel s old level ≡ BreakLevel (number_in_area v i (Section 0)) old (revoke_of new)
  level_told s i old level new at is = ap (λ n. BreakLevel n old level) (section_at s i at) ∙ ap (λ l. BreakLevel (number_in_area v i (Section 0)) old l) (sym is)

module _ {C S : Type 0} (state : C → S) (code : Code S) (k : Setup C) where
  abbrev Seat : Type 0
  Seat = List (ThreadPart C) × List (ℕ × Unit {0})

  pub next_is : (p : ThreadPart C) (step : Step) → is_beside step ≡ false → MayMakeNext state code k p step → next_of_part state code p ≡ Some step
  next_is p step own_step may =
      ap (λ (j : Setup C). next_step code (setup_bounds j) (state_at_birth state code j p.birth) p.steps) may.in_run.is_part.setup
      ∙ parts_decide code (setup_bounds k) (state_at_birth state code k p.birth) p.steps step Done own_step (may.own Done)

  step_is : (p : ThreadPart C) (step other : Step) (a : StepAnswer) → MayMakeNext state code k p step → is_beside step ≡ false → is_beside other ≡ false
      → IsPartInRun state code p.setup (part_after p (step_made other a)) → other ≡ step
  step_is p step other a may own_step own_other r =
      let part = r.is_part in
      let own : IsOwnOf state code p.setup p.birth (step_made other a ∷ p.steps) = subst (λ steps. IsOwnOf state code p.setup p.birth steps) (sym part.steps) (r.is_run.own p.birth part.born) in
      let one : next_of_part state code p ≡ Some other = parts_decide code (setup_bounds p.setup) (state_at_birth state code p.setup p.birth) p.steps other a own_other own in
      same_Some other step (sym one ∙ next_is p step own_step may)

  -- ---- a step of the thread's own

  pub own_told : (v : List (ThreadPart C)) (c : List (ℕ × Unit {0})) (step : Step) → FirstMayMake state code k v step → IsOwnStep step → (n : ℕ) (me' : Seat)
      → MakesOwnStep state code (v, c) n me' → me'.0 ≡ first_after v (step_made step (answer_to (effect_of step) n))
  own_told [] c step may is_own n me' told = absurd may
  own_told (p ∷ ps) c step may is_own n me' (other, own_other, (is, run)) =
      let same = step_is p step other (answer_to (effect_of other) n) may (own_not_beside step is_own) own_other (subst (λ (x : Seat). FirstIsInItsRun state code x.0) is run) in
      ap (λ x. x.0) is ∙ ap (λ st. first_after (p ∷ ps) (step_made st (answer_to (effect_of st) n))) same

  pub own_runs : (v : List (ThreadPart C)) (c : List (ℕ × Unit {0})) (step : Step) → FirstMayMake state code k v step → (n : ℕ) (me' : Seat)
      → MakesOwnStep state code (v, c) n me' → FirstIsInRun state code k me'.0
  own_runs [] c step may n me' told = absurd may
  own_runs (p ∷ ps) c step may n me' (other, own_other, (is, run)) =
      let here = subst (λ (x : Seat). FirstIsInItsRun state code x.0) is run in
      subst (λ (x : Seat). FirstIsInRun state code k x.0) (sym is)
      (subst (λ (j : Setup C). IsPartInRun state code j (part_after p (step_made other (answer_to (effect_of other) n)))) may.in_run.is_part.setup here)

  -- ---- a step beside the threads, told as `other`

  pub beside_told : (v : List (ThreadPart C)) (c : List (ℕ × Unit {0})) (step other : Step) → step ≡ other → (n : ℕ) (me' : Seat)
      → MakesThisStep state code other (v, c) n me' → me'.0 ≡ first_after v (step_made step (answer_to (effect_of step) n))
  beside_told v c step other is n me' told = ap (λ x. x.0) told.0 ∙ ap (λ st. first_after v (step_made st (answer_to (effect_of st) n))) (sym is)

  pub beside_runs : (v : List (ThreadPart C)) (c : List (ℕ × Unit {0})) (step : Step) → IsSeated k v → (n : ℕ) (me' : Seat)
      → MakesThisStep state code step (v, c) n me' → FirstIsInRun state code k me'.0
  beside_runs [] c step seated n me' told = absurd seated
  beside_runs (p ∷ ps) c step seated n me' (is, run) =
      let here = subst (λ (x : Seat). FirstIsInItsRun state code x.0) is run in
      subst (λ (x : Seat). FirstIsInRun state code k x.0) (sym is)
      (subst (λ (j : Setup C). IsPartInRun state code j (part_after p (step_made step (answer_to (effect_of step) n)))) seated here)
