-- In a run whose threads want what fits the objects, monitors lie apart from all other words of objects.
use Rattle.std.proofs.Common.{◌≡◌, ◌≢◌, inl, inr, ℕ, suc, ◌+◌, ◌<◌, ◌≤◌, Bool, Some, List, length, refl, sym, ◌∙◌, ap, subst, arith}
use Rattle.std.specs.Prelude.{slice_get}
use Rattle.std.proofs.lemmas.Option.{same_Some, slice_get_within}
use Rattle.op_core.specs.ThreadCode.{Code}
use Rattle.heap_words.specs.declared.areas.Area.{Area}
use Rattle.step_port.specs.declared.answer.StepAnswer.{StepAnswer}
use Rattle.step_port.specs.declared.step.Step.{Step}
use Rattle.step_port.specs.declared.step.Step.TheVariants.{SwapWord, RestoreWord, LoadMonitor, TakeMonitor, SetHeader, StartThread}
use Rattle.step_port.specs.Steps.{place_of}
use Rattle.thread_automaton.specs.declared.Bounds.{Bounds}
use Rattle.core_runs.specs.Cores.{Core}
use Rattle.core_runs.specs.Acts.{Act, did, DidAt}
use Rattle.section_laws.proofs.ClaimLemmas.{none_some}
use Rattle.section_laws.proofs.RunLemmas.{act_at}
use Rattle.section_laws.specs.Layout.{IsLaidRun}
use Rattle.section_laws.specs.Places.{FitsNumber, IsInObject}
use Rattle.section_laws.proofs.run_layout.PlaceLemmas.{one_place}
use Rattle.section_laws.proofs.run_layout.RunLemmas.{is_new, steps_stay, objects_stay, runs_keep_layout}
use Rattle.first_law.specs.RunMonitors.{written_place, monitor_met, IsObject, MonitorsLieApart}
use Rattle.first_law.proofs.run_monitors.DeedLemmas.{set_elsewhere}
use Rattle.first_law.proofs.run_monitors.ThreadLemmas.{object_came}

module _ {S : Type 0} (code : Code S) (b : Bounds) (is_thread : ℕ → Bool) (c : ℕ → Core S) (acts : List Act) (run : IsLaidRun code b is_thread c acts) where
  module _ (k t : ℕ) (step : Step) (a : StepAnswer) (here : slice_get acts k ≡ Some (did t step a)) where
    within : k < length acts
    within = slice_get_within acts k (did t step a) here

    at : DidAt code b c k t step a
    at = act_at code b c acts k (did t step a) run.run.leads here

    abbrev On : Step → ℕ → Type 0
    On m p = IsInObject is_thread (c (suc k)).objects m p

    on : (m : Step) → step ≡ m → (p : ℕ) → place_of m ≡ Area.Object p → On m p
    on m is p place = subst (λ s. On s p) is (steps_stay code b is_thread c acts run k t p step a here (ap place_of is ∙ place))

    -- a word that isn't a monitor isn't one of another object either
    written : (m : Step) (p r : ℕ) (so : On m p) → so.number ≢ 1 → IsObject (c k) r → p ≢ r + 1
    written m p r so other (o, there) same =
        other (one_place (c (suc k)).objects (runs_keep_layout code b is_thread c acts run (suc k) within).apart so.r r so.o o so.there
        (objects_stay code b is_thread c acts run k (suc k) r o (omega arith) within there) so.number 1 so.below (omega arith) (sym so.place ∙ same)).1

    not_one : (n : ℕ) → 2 ≤ n → n ≡ 1 → ⊥
    not_one n low is = omega (arith, low, is)

    zero_one : (n : ℕ) → n ≡ 0 → n ≡ 1 → ⊥
    zero_one n none is = omega (arith, none, is)

    three_one : (n : ℕ) → n ≡ 3 → n ≡ 1 → ⊥
    three_one n three is = omega (arith, three, is)

    pub sets_apart : (p r : ℕ) → written_place step ≡ Some p → IsObject (c k) r → p ≢ r + 1
    sets_apart p r place object = by_step step refl place
      where
        there : (m : Step) (q : ℕ) (so : On m q) → so.number ≢ 1 → Some q ≡ Some p → p ≢ r + 1
        there m q so other same = subst (λ n. n ≢ r + 1) (same_Some q p same) (written m q r so other object)

        by_step : (m : Step) → step ≡ m → written_place m ≡ Some p → p ≢ r + 1
        by_step (SwapWord q old new) is same = let so = on (SwapWord q old new) is q refl in there (SwapWord q old new) q so (not_one so.number so.fits.0) same
        by_step (RestoreWord q old) is same = let so = on (RestoreWord q old) is q refl in there (RestoreWord q old) q so (not_one so.number so.fits.0) same
        by_step (SetHeader q v) is same = let so = on (SetHeader q v) is q refl in there (SetHeader q v) q so (zero_one so.number so.fits) same
        by_step (StartThread q n) is same = let so = on (StartThread q n) is (q + 3) refl in there (StartThread q n) (q + 3) so (three_one so.number so.fits.0) same
        by_step m is same = none_some p same

    -- the monitor that is loaded or taken is one of an object that was there before
    monitor_there : (m : Step) → step ≡ m → (q : ℕ) → place_of m ≡ Area.Object (q + 1) → ((thread : Bool) (d : ℕ) → FitsNumber thread d m → d ≡ 1) → ((v : ℕ) → m ≡ SetHeader q v → ⊥) → IsObject (c k) q
    monitor_there m is q place one no_header =
        let so = on m is (q + 1) place in
        let number = one (is_thread so.o.class) so.number so.fits in
        let place_is = so.place in
        let same : so.r ≡ q = omega (arith, number, place_is) in
        elim (object_came code step at.from.local (code.next at.from.local) (c k).objects q (so.o, sym (ap (λ z. z.objects q) at.leads) ∙ subst (λ n. (c (suc k)).objects n ≡ Some so.o) same so.there)) [
          | inl old ↦ old
          | inr made ↦ absurd (no_header made.0 (sym is ∙ made.1))
        ]

    pub meets_object : (r : ℕ) → monitor_met step ≡ Some r → IsObject (c k) r
    meets_object r met = by_step step refl met
      where
        by_step : (m : Step) → step ≡ m → monitor_met m ≡ Some r → IsObject (c k) r
        by_step (LoadMonitor q) is same = subst (IsObject (c k)) (same_Some q r same) (monitor_there (LoadMonitor q) is q refl (λ thread d fits. fits) (λ v sets. cc))
        by_step (TakeMonitor q new) is same = subst (IsObject (c k)) (same_Some q r same) (monitor_there (TakeMonitor q new) is q refl (λ thread d fits. fits) (λ v sets. cc))
        by_step m is same = none_some r same

  -- the monitor of a new object is free
  made_free : (k t r w : ℕ) (a : StepAnswer) → slice_get acts k ≡ Some (did t (SetHeader r w) a) → (c k).words (Area.Object (r + 1)) ≡ 0
  made_free k t r w a here =
      let at = act_at code b c acts k (did t (SetHeader r w) a) run.run.leads here in
      let new = is_new code b is_thread c acts run k t (SetHeader r w) a here at r w refl in
      sym (set_elsewhere (c k).words r (r + 1) w (next_place r)) ∙ sym (ap (λ z. z.words (Area.Object (r + 1))) at.leads) ∙ new.3.empty (r + 1) (omega arith) (omega arith)
    where
      next_place : (r : ℕ) → r ≢ r + 1
      next_place r same = no r same
        where
          no : (r : ℕ) → r ≡ r + 1 → ⊥
          no r same = omega (arith, same)

  pub lie_apart : ((r : ℕ) → IsObject (c 0) r → (c 0).words (Area.Object (r + 1)) ≡ 0) → MonitorsLieApart c acts
  lie_apart free = record {
    begins = free;
    made = λ k t r w a here. made_free k t r w a here;
    wanted = λ k t r step a here met. meets_object k t step a here r met;
    apart = λ k t p r step a here place object. sets_apart k t step a here p r place object;
  }
