-- Along a run, the silent moves that are left of a thread since its event before are those that it counts.
use Rattle.std.proofs.Common.{◌≡◌, ◌≢◌, ◌⊎◌, inl, inr, ℕ, zero, suc, ◌+◌, ◌-◌, ◌<◌, ◌≤◌, Bool, true, false, Option, None, Some, List, length, refl, sym, ◌∙◌, ap, subst, arith}
use Rattle.std.specs.Prelude.{slice_get, nat_lt, if◌then◌else◌}
use Rattle.std.proofs.lemmas.Bool.{cases_lt}
use Rattle.std.proofs.lemmas.Option.{same_Some, slice_get_within}
use Rattle.op_core.specs.ThreadCode.{Code}
use Rattle.op_core.specs.OrdinaryState.{set_at}
use Rattle.op_core.specs.InPlaceList.{Entry, silent, event, put_back, give_back, go_back, unseen}
use Rattle.op_core.specs.CleanCut.{IsStepOf}
use Rattle.op_core.proofs.PointwiseLemmas.{same_or_other, set_at-hit, set_at-other}
use Rattle.step_port.specs.declared.answer.StepAnswer.{StepAnswer}
use Rattle.step_port.specs.declared.step.Step.{Step}
use Rattle.step_port.specs.declared.step.Step.TheVariants.{Split}
use Rattle.thread_automaton.specs.declared.Bounds.{Bounds}
use Rattle.thread_automaton.specs.ThreadState.{ThreadState, first_state}
use Rattle.thread_automaton.specs.Told.{after_answer, after_quiet}
use Rattle.core_runs.specs.Cores.{Core, threads_by}
use Rattle.core_runs.specs.Acts.{Act, quiet, did, beside, QuietAt, DidAt, BesideAt, mover}
use Rattle.core_runs.specs.Entries.{StepShows, Shows}
use Rattle.section_laws.specs.Settled.{count_more, to_undo}
use Rattle.section_laws.proofs.settled_lists.PartLemmas.{less_to_undo}
use Rattle.section_laws.proofs.FactLemmas.{each}
use Rattle.section_laws.proofs.RunLemmas.{act_at}
use Rattle.section_laws.proofs.run_threads.NumberLemmas.{threads_are_new}
use Rattle.first_law.proofs.settled_monitors.DoomedLemmas.{closes_none}
use Rattle.first_law.specs.Cuts.{is_cut_by}
use Rattle.core_law.specs.CleanCuts.{IsShownRun}
use Rattle.core_law.proofs.third_law.EntryLemmas.{IsGoBack}
use Rattle.core_law.proofs.third_law.LevelLemmas.{undone_is_cut}
use Rattle.core_law.proofs.run_journals.JournalLemmas.{silents_after, silents_with, silents_at}
use Rattle.core_law.proofs.run_journals.LevelSteps.{LevelStep, levels_shut, level_opens, levels_undone, StepAt}
use Rattle.core_law.proofs.run_journals.RowSteps.{step_of}
use Rattle.core_law.proofs.run_journals.SilentLemmas.{IsEvent, IsSilent, own_event, own_plain, own_back, own_moves, marks_go_back}
use Rattle.core_law.proofs.run_journals.TailLemmas.{goes_back_to}

module _ {S : Type 0} (code : Code S) (b : Bounds) (first : S) (classes : ℕ) (c : ℕ → Core S) (acts : List Act) (es : List Entry) (doomed : ℕ → Bool)
    (shown : IsShownRun code b first classes c acts es doomed) where
  abbrev cut : ℕ → Bool
  cut = is_cut_by doomed c acts

  -- the silent moves that are left
  abbrev moves : ℕ → ℕ → ℕ
  moves k = silents_at c cut acts es k

  moves_next : (k : ℕ) (e : Entry) → slice_get es k ≡ Some e → moves (suc k) ≡ silents_after c cut k (moves k) e
  moves_next k e there = ap (silents_with c cut acts es k (moves k)) there

  -- ---- what an entry makes of them

  moves_cut : (k : ℕ) (f : ℕ → ℕ) (e : Entry) → cut k ≡ true → silents_after c cut k f e ≡ f
  moves_cut k f (silent t) is = ap (λ z. if z then f else set_at f t (suc (f t))) is
  moves_cut k f (event t op reply) is = ap (λ z. if z then f else set_at f t 0) is
  moves_cut k f (put_back r i v) is = refl
  moves_cut k f (give_back t r n) is = refl
  moves_cut k f (go_back t p) is = refl
  moves_cut k f unseen is = refl

  either : {A : Type 0} (z : Bool) (f g : ℕ → A) (u : ℕ) → g u ≡ f u → (if z then f else g) u ≡ f u
  either true f g u same = refl
  either false f g u same = same

  moves_other : (k u : ℕ) (f : ℕ → ℕ) (e : Entry) → (IsStepOf u (Some e) → ⊥) → silents_after c cut k f e u ≡ f u
  moves_other k u f (silent t) other = either (cut k) f (set_at f t (suc (f t))) u (set_at-other f t (suc (f t)) u (λ same. other (sym same)))
  moves_other k u f (event t op reply) other = either (cut k) f (set_at f t 0) u (set_at-other f t 0 u (λ same. other (sym same)))
  moves_other k u f (put_back r i v) other = refl
  moves_other k u f (give_back t r n) other = refl
  moves_other k u f (go_back t p) other = refl
  moves_other k u f unseen other = refl

  step_or : (u : ℕ) (e : Entry) → IsStepOf u (Some e) ⊎ (IsStepOf u (Some e) → ⊥)
  step_or u (silent t) = same_or_other t u
  step_or u (event t op reply) = same_or_other t u
  step_or u (put_back r i v) = inr (λ is. is)
  step_or u (give_back t r n) = inr (λ is. is)
  step_or u (go_back t p) = inr (λ is. is)
  step_or u unseen = inr (λ is. is)

  -- what a thread goes back over leaves none
  moves_back : (k t p : ℕ) → slice_get es k ≡ Some (go_back t p) → (d : ℕ) → d + p ≤ k → k < length acts → moves (d + p) t ≡ moves p t
  moves_back k t p at zero low within = ap (λ n. moves n t) (none_more p)
    where
      none_more : (p : ℕ) → 0 + p ≡ p
      none_more p = omega arith
  moves_back k t p at (suc d) low within = by_step (step_of code b first classes c acts es doomed shown (d + p) (inside low)) (moves_back k t p at d (lower low) within)
    where
      inside : suc d + p ≤ k → d + p < length acts
      inside low = omega (arith, low, within)

      lower : suc d + p ≤ k → d + p ≤ k
      lower low = omega (arith, low)

      before : suc d + p ≤ k → d + p < k
      before low = omega (arith, low)

      next : suc d + p ≡ suc (d + p)
      next = omega arith

      since : p ≤ d + p
      since = omega arith

      by_step : (e : Entry) × (slice_get es (d + p) ≡ Some e) × StepAt code b first classes c acts es doomed shown (d + p) e → moves (d + p) t ≡ moves p t → moves (suc d + p) t ≡ moves p t
      by_step (e, there, step) was = ap (λ n. moves n t) next ∙ ap (λ f. f t) (moves_next (d + p) e there) ∙ elim (step_or t e) [
        | inl own ↦ ap (λ f. f t) (moves_cut (d + p) (moves (d + p)) e (undone_is_cut code b first classes c acts es doomed shown k t p at (d + p) since (before low) (subst (IsStepOf t) (sym there) own))) ∙ was
        | inr other ↦ moves_other (d + p) t (moves (d + p)) e other ∙ was
      ]

  moves_since : (k t p : ℕ) → slice_get es k ≡ Some (go_back t p) → p ≤ k → k < length acts → moves k t ≡ moves p t
  moves_since k t p at low within = ap (λ n. moves n t) (sum low) ∙ moves_back k t p at (k - p) (subst (λ n. n ≤ k) (sum low) (omega arith)) within
    where
      sum : p ≤ k → k ≡ (k - p) + p
      sum low = omega (arith, low)

  -- ---- along the run

  pub record AreMoves (k : ℕ) : Type 0 where
    -- a thread that has nothing to undo then or later counts what is left
    pub there : (t : ℕ) (th : ThreadState S) → (c k).threads t ≡ Some th → to_undo doomed ((c k).levels t) ≡ 0 → th.silents ≡ moves k t
    pub nobody : (t : ℕ) → (c k).threads t ≡ None → moves k t ≡ 0

  uncut : (k : ℕ) (act : Act) → slice_get acts k ≡ Some act → to_undo doomed ((c k).levels (mover (Some act))) ≡ 0 → cut k ≡ false
  uncut k act here none = ap (λ o. nat_lt 0 (to_undo doomed ((c k).levels (mover o)))) here ∙ ap (nat_lt 0) none

  own_silent : (k t : ℕ) (e : Entry) → cut k ≡ false → e ≡ silent t → silents_after c cut k (moves k) e t ≡ suc (moves k t)
  own_silent k t e kept is = ap (λ x. silents_after c cut k (moves k) x t) is ∙ ap (λ z. (if z then moves k else set_at (moves k) t (suc (moves k t))) t) kept ∙ set_at-hit (moves k) t (suc (moves k t))

  none_some : {A B : Type 0} (x : A) → None ≡ Some x → B
  none_some x is = cc

  module _ (k : ℕ) (within : k < length acts) (e : Entry) (there : slice_get es k ≡ Some e) (step : StepAt code b first classes c acts es doomed shown k e) (upto : (j : ℕ) → j ≤ k → AreMoves j) where
    was : AreMoves k
    was = upto k (omega arith)

    stays : (u : ℕ) → u ≢ mover (Some step.act) → moves (suc k) u ≡ moves k u
    stays u other = ap (λ f. f u) (moves_next k e there) ∙ moves_other k u (moves k) e (λ is. other (sym (step.own u is)))

    -- another thread
    other_moves : (u : ℕ) (uh : ThreadState S) → u ≢ mover (Some step.act) → (c k).threads u ≡ Some uh → to_undo doomed ((c (suc k)).levels u) ≡ 0 → uh.silents ≡ moves (suc k) u
    other_moves u uh other at none = was.there u uh at (ap (to_undo doomed) (sym (step.others u other)) ∙ none) ∙ sym (stays u other)

    quiet_moves : (t : ℕ) → step.act ≡ quiet t → e ≡ silent t → QuietAt code b c k t → AreMoves (suc k)
    quiet_moves t act_is is at = record {
      there = λ u uh stands none. each (λ z. to_undo doomed ((c (suc k)).levels u) ≡ 0 → z.silents ≡ moves (suc k) u) (c k).threads t (after_quiet at.from at.local) u
          (λ own none. subst (λ v. suc at.from.silents ≡ moves (suc k) v) (sym own)
          (ap suc (was.there t at.from at.stands (same_levels own none)) ∙ sym (own_silent k t e (uncut k step.act step.here (ap (λ o. to_undo doomed ((c k).levels (mover (Some o)))) act_is ∙ same_levels own none)) is)
          ∙ sym (ap (λ f. f t) (moves_next k e there))))
          (λ vh other stands none. other_moves u vh (λ same. other (same ∙ ap (λ o. mover (Some o)) act_is)) stands none)
          uh (sym (ap (λ (core : Core S). core.threads u) at.leads) ∙ stands) none;
      nobody = λ u none. by_thread u (same_or_other u t) (sym (ap (λ (core : Core S). core.threads u) at.leads) ∙ none);
    }
      where
        same_levels : {u : ℕ} → u ≡ t → to_undo doomed ((c (suc k)).levels u) ≡ 0 → to_undo doomed ((c k).levels t) ≡ 0
        same_levels own none = ap (λ (core : Core S). to_undo doomed (core.levels t)) (sym at.leads) ∙ ap (λ v. to_undo doomed ((c (suc k)).levels v)) (sym own) ∙ none

        by_thread : (u : ℕ) → (u ≡ t) ⊎ (u ≢ t) → set_at (c k).threads t (Some (after_quiet at.from at.local)) u ≡ None → moves (suc k) u ≡ 0
        by_thread u (inl own) none = none_some (after_quiet at.from at.local) (sym none ∙ ap (set_at (c k).threads t (Some (after_quiet at.from at.local))) own ∙ set_at-hit (c k).threads t (Some (after_quiet at.from at.local)))
        by_thread u (inr other) none = stays u (λ same. other (same ∙ ap (λ o. mover (Some o)) act_is)) ∙ was.nobody u (sym (set_at-other (c k).threads t (Some (after_quiet at.from at.local)) u other) ∙ none)

    beside_moves : (t : ℕ) (made : Step) (a : StepAnswer) → e ≡ unseen → BesideAt c k t made a → AreMoves (suc k)
    beside_moves t made a is at = record {
      there = λ u uh stands none. was.there u uh (sym (ap (λ (core : Core S). core.threads u) at.leads) ∙ stands) (ap (λ (core : Core S). to_undo doomed (core.levels u)) (sym at.leads) ∙ none) ∙ sym (same u);
      nobody = λ u none. same u ∙ was.nobody u (sym (ap (λ (core : Core S). core.threads u) at.leads) ∙ none);
    }
      where
        same : (u : ℕ) → moves (suc k) u ≡ moves k u
        same u = ap (λ f. f u) (moves_next k e there) ∙ ap (λ x. silents_after c cut k (moves k) x u) is

    module _ (t : ℕ) (made : Step) (a : StepAnswer) (act_is : step.act ≡ did t made a) (here : slice_get acts k ≡ Some (did t made a)) (at : DidAt code b c k t made a)
        (shows : StepShows code b (c k) t at.from made a e) where
      y : ThreadState S
      y = after_answer code b at.from made a

      after : ℕ → Option (ThreadState S)
      after = threads_by code made at.from.local (set_at (c k).threads t (Some y))

      now : (c (suc k)).threads ≡ threads_by code made at.from.local (set_at (c k).threads t (Some (after_answer code b at.from made a)))
      now = ap (λ (core : Core S). core.threads) at.leads

      is_mover : mover (Some step.act) ≡ t
      is_mover = ap (λ o. mover (Some o)) act_is

      moved : moves (suc k) t ≡ silents_after c cut k (moves k) e t
      moved = ap (λ f. f t) (moves_next k e there)

      -- an entry that doesn't go back, where nothing is to be undone
      plain : (IsGoBack e → ⊥) → to_undo doomed ((c k).levels t) ≡ 0 → (after_answer code b at.from made a).silents ≡ moves (suc k) t
      plain other none = by_entry e refl
        where
          kept : cut k ≡ false
          kept = uncut k step.act step.here (ap (λ n. to_undo doomed ((c k).levels n)) is_mover ∙ none)

          before : at.from.silents ≡ moves k t
          before = was.there t at.from at.stands none

          by_entry : (x : Entry) → e ≡ x → (after_answer code b at.from made a).silents ≡ moves (suc k) t
          by_entry (silent u) is = absurd (own_moves code b first classes c acts es doomed shown k t made a e here at shows (subst IsSilent (sym is) tt))
          by_entry (event u op reply) is =
              let own : t ≡ u = sym is_mover ∙ step.own u (subst (λ x. IsStepOf u (Some x)) (sym is) refl) in
              own_event code b first classes c acts es doomed shown k t made a e here at shows op reply (is ∙ ap (λ n. event n op reply) (sym own))
              ∙ sym (moved ∙ ap (λ x. silents_after c cut k (moves k) x t) is ∙ ap (λ z. (if z then moves k else set_at (moves k) u 0) t) kept ∙ ap (set_at (moves k) u 0) own ∙ set_at-hit (moves k) u 0)
          by_entry (put_back r i v) is = own_plain code b first classes c acts es doomed shown k t made a e here at shows (λ ev. subst IsEvent is ev) other ∙ before ∙ sym (moved ∙ ap (λ x. silents_after c cut k (moves k) x t) is)
          by_entry (give_back u r n) is = own_plain code b first classes c acts es doomed shown k t made a e here at shows (λ ev. subst IsEvent is ev) other ∙ before ∙ sym (moved ∙ ap (λ x. silents_after c cut k (moves k) x t) is)
          by_entry (go_back u p) is = absurd (other (subst IsGoBack (sym is) tt))
          by_entry unseen is = own_plain code b first classes c acts es doomed shown k t made a e here at shows (λ ev. subst IsEvent is ev) other ∙ before ∙ sym (moved ∙ ap (λ x. silents_after c cut k (moves k) x t) is)

      own_moves_so : LevelStep k t e ((c k).levels t) ((c (suc k)).levels t) → to_undo doomed ((c (suc k)).levels t) ≡ 0 → (after_answer code b at.from made a).silents ≡ moves (suc k) t
      own_moves_so (levels_shut other m few kept) none = plain other (elim (closes_none code b first classes c acts shown.levelled doomed shown.tells k t (length ((c k).levels t) - m) made a within here
          (λ s w marks. marks_go_back code b first classes c acts es doomed shown k t made a e here at shows s w marks other) kept) [
            | inl zero_so ↦ zero_so
            | inr inside ↦ absurd (too_many (to_undo doomed ((c k).levels t)) (length ((c k).levels t) - m) inside (sym (less_to_undo doomed (length ((c k).levels t) - m) ((c k).levels t)) ∙ ap (to_undo doomed) (sym kept) ∙ none))
          ])
        where
          too_many : (n j : ℕ) → j < n → n - j ≡ 0 → ⊥
          too_many n j low none = omega (arith, low, none)
      own_moves_so (level_opens is kept) none = plain (λ back. subst IsGoBack is back) (none_more (doomed k) (to_undo doomed ((c k).levels t)) (ap (to_undo doomed) (sym kept) ∙ none))
        where
          none_more : (z : Bool) (n : ℕ) → count_more z n ≡ 0 → n ≡ 0
          none_more z zero is = refl
          none_more z (suc n) is = cc
      own_moves_so (levels_undone m p is low kept opened) none =
          let back = goes_back_to code b first classes c acts es doomed shown k t p within (there ∙ ap Some is) in
          let then_ = own_back code b first classes c acts es doomed shown k t made a e here at shows p is in
          then_.2 ∙ (upto p (earlier back.earlier)).there p_thread then_.0 then_.1 (ap (to_undo doomed) (sym back.outside) ∙ none)
          ∙ sym (moved ∙ ap (λ x. silents_after c cut k (moves k) x t) is ∙ moves_since k t p (there ∙ ap Some is) (earlier back.earlier) within)
        where
          p_thread : ℕ
          p_thread = t

          earlier : p < k → p ≤ k
          earlier low = omega (arith, low)

      -- ---- each thread

      came_set : (u : ℕ) (uh : ThreadState S) → set_at (c k).threads t (Some (after_answer code b at.from made a)) u ≡ Some uh → to_undo doomed ((c (suc k)).levels u) ≡ 0 → uh.silents ≡ moves (suc k) u
      came_set u uh stands = each (λ z. to_undo doomed ((c (suc k)).levels u) ≡ 0 → z.silents ≡ moves (suc k) u) (c k).threads t (after_answer code b at.from made a) u
          (λ own none. subst (λ v. (after_answer code b at.from made a).silents ≡ moves (suc k) v) (sym own)
          (own_moves_so (subst (λ n. LevelStep k n e ((c k).levels n) ((c (suc k)).levels n)) is_mover step.level) (ap (λ v. to_undo doomed ((c (suc k)).levels v)) (sym own) ∙ none)))
          (λ vh other at_v none. other_moves u vh (λ same. other (same ∙ is_mover)) at_v none) uh stands

      nobody_set : (u : ℕ) → set_at (c k).threads t (Some (after_answer code b at.from made a)) u ≡ None → moves (suc k) u ≡ 0
      nobody_set u none = elim (same_or_other u t) [
        | inl own ↦ none_some (after_answer code b at.from made a) (sym none ∙ ap (set_at (c k).threads t (Some (after_answer code b at.from made a))) own ∙ set_at-hit (c k).threads t (Some (after_answer code b at.from made a)))
        | inr other ↦ stays u (λ same. other (same ∙ is_mover)) ∙ was.nobody u (sym (set_at-other (c k).threads t (Some (after_answer code b at.from made a)) u other) ∙ none)
      ]

      new : (n r p : ℕ) → made ≡ Split n r p → (c k).threads n ≡ None
      new n r p is = threads_are_new code b c acts shown.levelled.ordered.run shown.levelled.numbered k t n r p a (here ∙ ap (λ st. Some (did t st a)) is)

      not_mover : (n : ℕ) → (c k).threads n ≡ None → n ≢ t
      not_mover n none same = none_some at.from (sym none ∙ ap (c k).threads same ∙ at.stands)

      did_moves : (x : Step) → made ≡ x → (c (suc k)).threads ≡ threads_by code x at.from.local (set_at (c k).threads t (Some (after_answer code b at.from made a))) → AreMoves (suc k)
      did_moves (Split n r p) is threads = record {
        there = λ u uh stands. each (λ z. to_undo doomed ((c (suc k)).levels u) ≡ 0 → z.silents ≡ moves (suc k) u) (set_at (c k).threads t (Some (after_answer code b at.from made a))) n (first_state n p (code.child at.from.local r)) u
            (λ own none. sym (ap (moves (suc k)) own ∙ stays n (λ same. not_mover n (new n r p is) (same ∙ is_mover)) ∙ was.nobody n (new n r p is)))
            (λ vh other at_v. came_set u vh at_v) uh (ap (λ f. f u) (sym threads) ∙ stands);
        nobody = λ u none. elim (same_or_other u n) [
          | inl own ↦ none_some (first_state n p (code.child at.from.local r)) (sym none ∙ ap (λ f. f u) threads ∙ ap (set_at (set_at (c k).threads t (Some (after_answer code b at.from made a))) n (Some (first_state n p (code.child at.from.local r)))) own
              ∙ set_at-hit (set_at (c k).threads t (Some (after_answer code b at.from made a))) n (Some (first_state n p (code.child at.from.local r))))
          | inr other ↦ nobody_set u (sym (set_at-other (set_at (c k).threads t (Some (after_answer code b at.from made a))) n (Some (first_state n p (code.child at.from.local r))) u other) ∙ ap (λ f. f u) (sym threads) ∙ none)
        ];
      }
      did_moves x is threads = record {
        there = λ u uh stands. came_set u uh (ap (λ f. f u) (sym threads) ∙ stands);
        nobody = λ u none. nobody_set u (ap (λ f. f u) (sym threads) ∙ none);
      }

  next_moves : (k : ℕ) (e : Entry) → slice_get es k ≡ Some e → (step : StepAt code b first classes c acts es doomed shown k e) → ((j : ℕ) → j ≤ k → AreMoves j) → AreMoves (suc k)
  next_moves k e there step upto = by_act step.act refl step.here step.shows
    where
      within : k < length acts
      within = slice_get_within acts k step.act step.here

      by_act : (x : Act) → step.act ≡ x → slice_get acts k ≡ Some x → Shows code b (c k) x e → AreMoves (suc k)
      by_act (quiet t) is here shows = quiet_moves k within e there step upto t is shows (act_at code b c acts k (quiet t) shown.levelled.ordered.run.leads here)
      by_act (beside t made a) is here shows = beside_moves k within e there step upto t made a shows (act_at code b c acts k (beside t made a) shown.levelled.ordered.run.leads here)
      by_act (did t made a) is here (th, stands, shows) =
          let at = act_at code b c acts k (did t made a) shown.levelled.ordered.run.leads here in
          did_moves k within e there step upto t made a is here at (subst (λ (x : ThreadState S). StepShows code b (c k) t x made a e) (same_Some th at.from (sym stands ∙ at.stands)) shows)
          made refl (ap (λ (core : Core S). core.threads) at.leads)

  first_moves : AreMoves 0
  first_moves = record { there = λ t th at none. let begins = shown.levelled.ordered.run.begins.threads t th at in ap (λ (x : ThreadState S). x.silents) begins.3; nobody = λ t none. refl }

  moves_upto : (k : ℕ) → k ≤ length acts → (j : ℕ) → j ≤ k → AreMoves j
  moves_upto zero within j low = subst AreMoves (none_more low) first_moves
    where
      none_more : j ≤ 0 → 0 ≡ j
      none_more low = omega (arith, low)
  moves_upto (suc k) within j low = by_place (cases_lt k j) (moves_upto k (lower within))
    where
      lower : suc k ≤ length acts → k ≤ length acts
      lower within = omega (arith, within)

      inside : suc k ≤ length acts → k < length acts
      inside within = omega (arith, within)

      last : k < j → suc k ≡ j
      last high = omega (arith, high, low)

      by_place : (k < j) ⊎ (j ≤ k) → ((i : ℕ) → i ≤ k → AreMoves i) → AreMoves j
      by_place (inl high) before = let found = step_of code b first classes c acts es doomed shown k (inside within) in subst AreMoves (last high) (next_moves k found.0 found.1 found.2 before)
      by_place (inr within_k) before = before j within_k

  pub moves_at : (k : ℕ) → k ≤ length acts → AreMoves k
  moves_at k within = moves_upto k within k (omega arith)
