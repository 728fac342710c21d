-- The words of threads along a run.
use Rattle.std.proofs.Common.{◌≡◌, ℕ, suc, ◌≤◌, Bool, true, false, nat_eq, Option, None, Some, List, length, refl, sym, ◌∙◌, ap, subst, arith}
use Rattle.std.specs.Prelude.{slice_get, if◌then◌else◌}
use Rattle.std.proofs.lemmas.Option.{slice_get_within}
use Rattle.op_core.specs.ThreadCode.{Code}
use Rattle.op_core.specs.OrdinaryState.{set_at}
use Rattle.op_core.proofs.PointwiseLemmas.{set_at-at}
use Rattle.heap_words.specs.declared.areas.Area.{Area}
use Rattle.step_port.specs.declared.answer.StepAnswer.{StepAnswer}
use Rattle.step_port.specs.declared.step.Step.{Step}
use Rattle.step_port.specs.declared.step.Step.TheVariants.{Ticket, EndThread, LoadThread, Split, LoadStop, SetStop, LookMonitor, LookSection, BreakLevel}
use Rattle.step_port.specs.Steps.{place_of, effect_of}
use Rattle.step_port.specs.Words.{Words, words_after}
use Rattle.thread_automaton.specs.declared.Bounds.{Bounds}
use Rattle.thread_automaton.specs.ThreadState.{ThreadState, first_state}
use Rattle.thread_automaton.specs.Told.{after_answer, after_quiet}
use Rattle.core_runs.specs.OwnParts.{is_beside}
use Rattle.core_runs.specs.Cores.{Core, threads_by}
use Rattle.core_runs.specs.Acts.{Act, quiet, did, beside, QuietAt, DidAt, ActAt}
use Rattle.section_laws.specs.Runs.{IsRun}
use Rattle.section_laws.proofs.WordLemmas.{stays_at}
use Rattle.section_laws.proofs.RunLemmas.{along, facts_at}
use Rattle.section_laws.specs.Numbers.{AreNumbered}
use Rattle.section_laws.specs.Ends.{HasNoEnds, end_word, EndsAreKnown}
use Rattle.section_laws.proofs.run_threads.SeenLemmas.{IsQuiet, stays, prints_line, ends_thread, seen_steps}
use Rattle.section_laws.proofs.run_threads.NumberLemmas.{threads_are_numbered, threads_are_new}

-- a step that ends no thread changes no thread's word
abbrev EndsNone : Step → Type 0
EndsNone (EndThread n) = ⊥
EndsNone step = Unit {0}

end_stays : (step : Step) (w : Words) (t : ℕ) → EndsNone step → words_after step w (Area.Thread t) ≡ w (Area.Thread t)
end_stays (LoadThread which) w t none = refl
end_stays (EndThread n) w t none = absurd none
end_stays step w t none = stays_at (effect_of step) w (place_of step) (Area.Thread t) refl

quiet_ends_none : (step : Step) → IsQuiet step → EndsNone step
quiet_ends_none Ticket is = tt
quiet_ends_none (EndThread n) is = is
quiet_ends_none step is = tt

beside_ends_none : (step : Step) → is_beside step ≡ true → EndsNone step
beside_ends_none LoadStop is = tt
beside_ends_none SetStop is = tt
beside_ends_none (LookMonitor r) is = tt
beside_ends_none (LookSection s) is = tt
beside_ends_none (BreakLevel s old level) is = tt
beside_ends_none step is = cc

module _ {S : Type 0} (code : Code S) (b : Bounds) (c : ℕ → Core S) (acts : List Act) (run : IsRun code b c acts) (numbered : AreNumbered (c 0)) where
  abbrev EndsAt : ℕ → Type 0
  EndsAt k = (t : ℕ) → (c k).words (Area.Thread t) ≡ end_word ((c k).threads t)

  module _ (k t : ℕ) (step : Step) (a : StepAnswer) (here : slice_get acts k ≡ Some (did t step a)) (at : DidAt code b c k t step a) (before : EndsAt k) where
    up : k ≤ length acts
    up = let within = slice_get_within acts k (did t step a) here in omega (arith, within)

    abbrev y : ThreadState S
    y = after_answer code b at.from step a

    own_end : end_word (Some at.from) ≡ (c k).words (Area.Thread t)
    own_end = sym (before t ∙ ap end_word at.stands)

    abbrev Says : Step → Type 0
    Says m = (u : ℕ) → words_after m (c k).words (Area.Thread u) ≡ end_word (set_at (c k).threads t (Some y) u)

    same_over : y.over ≡ at.from.over → EndsNone step → Says step
    same_over over none u = end_stays step (c k).words u none ∙ set_at-at (λ (o : Option (ThreadState S)). (c k).words (Area.Thread u) ≡ end_word o) (c k).threads t (Some y) u
        (λ own. ap (λ n. (c k).words (Area.Thread n)) own ∙ sym own_end ∙ ap (λ (o : Bool). if o then 1 else 0) (sym over)) (λ other. before u)

    ends_own : step ≡ EndThread at.from.number → y.over ≡ true → Says step
    ends_own is over u =
        let number : at.from.number ≡ t = (threads_are_numbered code b c acts run numbered k up).own t at.from at.stands in
        ap (λ m. words_after m (c k).words (Area.Thread u)) (is ∙ ap EndThread number) ∙ by_test (nat_eq u t)
      where
        by_test : (x : Bool) → (if x then 1 else (c k).words (Area.Thread u)) ≡ end_word (if x then Some y else (c k).threads u)
        by_test true = ap (λ (o : Bool). if o then 1 else 0) (sym over)
        by_test false = before u

    after_ends : Says step
    after_ends = elim (seen_steps code b at.from (c k).words step a ((facts_at code b c acts run k up).fit t at.from at.stands).attempt at.move at.answered) [
      | stays calm same ↦ same_over (ap (λ v. v.over) same) (quiet_ends_none step calm)
      | prints_line n x is found wants same ↦ same_over (ap (λ v. v.over) same) (subst EndsNone (sym is) tt)
      | ends_thread is same ↦ ends_own is (ap (λ v. v.over) same)
    ]

    handed : (m : Step) → step ≡ m → (u : ℕ) → words_after step (c k).words (Area.Thread u) ≡ end_word (threads_by code m at.from.local (set_at (c k).threads t (Some y)) u)
    handed (Split n r p) is u =
        set_at-at (λ (o : Option (ThreadState S)). words_after step (c k).words (Area.Thread u) ≡ end_word o) (set_at (c k).threads t (Some y)) n (Some (first_state n p (code.child at.from.local r))) u
        (λ own. end_stays step (c k).words u (subst EndsNone (sym is) tt) ∙ ap (λ m. (c k).words (Area.Thread m)) own ∙ before n ∙ ap end_word (threads_are_new code b c acts run numbered k t n r p a (here ∙ ap (λ m. Some (did t m a)) is)))
        (λ other. after_ends u)
    handed m is u = after_ends u

    next_ends : EndsAt (suc k)
    next_ends = subst (λ (z : Core S). (u : ℕ) → z.words (Area.Thread u) ≡ end_word (z.threads u)) (sym at.leads) (λ u. handed step refl u)

  quiet_ends : (k t : ℕ) → QuietAt code b c k t → EndsAt k → EndsAt (suc k)
  quiet_ends k t at before = subst (λ (z : Core S). (u : ℕ) → z.words (Area.Thread u) ≡ end_word (z.threads u)) (sym at.leads)
      (λ u. set_at-at (λ (o : Option (ThreadState S)). (c k).words (Area.Thread u) ≡ end_word o) (c k).threads t (Some (after_quiet at.from at.local)) u
      (λ own. ap (λ n. (c k).words (Area.Thread n)) own ∙ before t ∙ ap end_word at.stands) (λ other. before u))

  act_ends : (k : ℕ) (act : Act) → slice_get acts k ≡ Some act → ActAt code b c k act → EndsAt k → EndsAt (suc k)
  act_ends k (quiet t) here at before = quiet_ends k t at before
  act_ends k (did t step a) here at before = next_ends k t step a here at before
  act_ends k (beside t step a) here at before = subst (λ (z : Core S). (u : ℕ) → z.words (Area.Thread u) ≡ end_word (z.threads u)) (sym at.leads)
      (λ u. end_stays step (c k).words u (beside_ends_none step at.is) ∙ before u)

  first_ends : HasNoEnds (c 0).words → EndsAt 0
  first_ends none t = by_thread ((c 0).threads t) refl
    where
      by_thread : (o : Option (ThreadState S)) → (c 0).threads t ≡ o → (c 0).words (Area.Thread t) ≡ end_word ((c 0).threads t)
      by_thread None is = none t ∙ ap end_word (sym is)
      by_thread (Some th) is = none t ∙ ap (λ (z : ThreadState S). end_word (Some z)) (sym (run.begins.threads t th is).3) ∙ ap end_word (sym is)

pub ends_are_known : {S : Type 0} (code : Code S) → EndsAreKnown code
ends_are_known code b c acts run numbered none k t within =
    along code b c acts run.leads (EndsAt code b c acts run numbered) (first_ends code b c acts run numbered none) (λ n act here at before. act_ends code b c acts run numbered n act here at before) k within t
