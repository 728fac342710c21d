-- The conditions of a clean cut that are of levels alone.
use Rattle.std.proofs.Common.{◌≡◌, ◌⊎◌, inl, inr, ℕ, zero, suc, ◌+◌, ◌-◌, ◌<◌, ◌≤◌, Bool, true, Option, None, Some, List, length, refl, sym, ◌∙◌, ap, subst, arith}
use Rattle.std.specs.Prelude.{nat_lt, slice_get}
use Rattle.std.proofs.lemmas.Option.{same_Some, slice_get_within}
use Rattle.op_core.specs.ThreadCode.{Code}
use Rattle.op_core.specs.InPlaceList.{Entry, go_back}
use Rattle.op_core.specs.CleanCut.{IsStepOf, IsGoneBackOver}
use Rattle.section_state.specs.SectionWord.{revoke_of, undone_of}
use Rattle.step_port.specs.declared.answer.StepAnswer.{StepAnswer}
use Rattle.step_port.specs.declared.step.Step.TheVariants.{MarkUndone}
use Rattle.step_port.specs.Words.{answer_of}
use Rattle.thread_automaton.specs.declared.Bounds.{Bounds}
use Rattle.thread_automaton.specs.declared.Attempt.{Attempt}
use Rattle.thread_automaton.specs.declared.Attempt.TheVariants.{Undoing}
use Rattle.thread_automaton.specs.ThreadState.{ThreadState}
use Rattle.core_runs.specs.Cores.{Core}
use Rattle.core_runs.specs.Acts.{Act, quiet, did, beside, DidAt, mover}
use Rattle.core_runs.specs.Entries.{back_to, go_back_to, Shows}
use Rattle.core_runs.specs.Revoked.{RevokesAt, levels_from}
use Rattle.section_laws.specs.LevelRun.{is_undone, In, IsDoomedAt, GoesBackAt}
use Rattle.section_laws.proofs.level_runs.LevelLemmas.{below, falls, doomed_are_undone, were_doomed, are_nested}
use Rattle.section_laws.specs.Settled.{to_undo}
use Rattle.section_laws.proofs.RunLemmas.{act_at}
use Rattle.section_laws.specs.Levels.{core_at, levels_in, revoked_in, UndoesAt, RunsInLevels}
use Rattle.section_laws.proofs.section_levels.RowLemmas.{LevelsGo, goes_out, goes_in}
use Rattle.section_laws.proofs.section_levels.RunLemmas.{Counted, counted_at, goes, own_levels}
use Rattle.section_laws.proofs.section_levels.LevelLemmas.{at_place, in_drop, level_in, runs_in_levels, doomed_at}
use Rattle.first_law.proofs.settled_monitors.DoomedLemmas.{Outermost, outermost_of, some_in}
use Rattle.first_law.specs.Cuts.{is_cut_by}
use Rattle.first_law.proofs.doomed_cuts.CutLemmas.{some_is, is_some, contains_of}
use Rattle.core_law.specs.CleanCuts.{IsShownRun, UndoneIsCut, UndoingsNest, CutIsCovered, RestedThreadsHaveGoneBack}
use Rattle.core_law.proofs.third_law.EntryLemmas.{IsGoBack, GoesBackBy, goes_back_by, step_is_own, opening_is_unseen, shown_at, entry_at}

abbrev seen_word : Attempt → ℕ
seen_word (Undoing w) = w
seen_word attempt = 0

upto : (k n : ℕ) → k < n → k ≤ n
upto k n is = omega (arith, is)

module _ {S : Type 0} (code : Code S) (b : Bounds) (first : S) (classes : ℕ) (c : ℕ → Core S) (acts : List Act) (es : List Entry) (doomed : ℕ → Bool)
    (shown : IsShownRun code b first classes c acts es doomed) where
  abbrev runs : (t : ℕ) → RunsInLevels c acts t
  runs t = runs_in_levels code b first classes c acts shown.levelled t

  place_is : (k : ℕ) → k ≤ length acts → core_at c acts k ≡ c k
  place_is k low = at_place code b first classes c acts shown.levelled k low

  -- ---- entries that go back

  record Back (j t p : ℕ) : Type 0 where
    level : ℕ
    within : j < length acts
    is : GoesBackAt (levels_in c acts t) (runs t).act j level p

  back_at : (j t p : ℕ) → slice_get es j ≡ Some (go_back t p) → Back j t p
  back_at j t p at = let found = shown_at code b c acts es j (go_back t p) shown.shows at in by_act found.0 found.1 found.2
    where
      by_act : (x : Act) → slice_get acts j ≡ Some x → Shows code b (c j) x (go_back t p) → Back j t p
      by_act (quiet u) here shows = absurd (subst IsGoBack shows tt)
      by_act (beside u step a) here shows = absurd (subst IsGoBack shows tt)
      by_act (did u step a) here shows = record {
        level = notes.0;
        within = within;
        is = record {
          undoes = notes.1;
          opened = ap (λ (core : Core S). slice_get (core.levels t) (length (core.levels t) - notes.0)) (place_is j (upto j (length acts) within))
              ∙ ap (λ n. slice_get ((c j).levels t) (length ((c j).levels t) - n)) (undoes.level ∙ ap revoke_of same_word)
              ∙ subst (λ n. slice_get ((c j).levels n) (length ((c j).levels n) - revoke_of mark.word) ≡ Some p) mark.own mark.opened;
        };
      }
        where
          within : j < length acts
          within = slice_get_within acts j (did u step a) here

          mark : GoesBackBy u t p shows.0.attempt ((c j).levels u) step
          mark = goes_back_by code b (c j) u t shows.0 p step a shows.2

          at_act : DidAt code b c j u step a
          at_act = act_at code b c acts j (did u step a) shown.levelled.ordered.run.leads here

          notes : (n : ℕ) × ((runs t).act j ≡ is_undone n)
          notes = (runs t).notes j mark.section mark.mark (here ∙ ap (λ n. Some (did n step a)) mark.own ∙ ap (λ st. Some (did t st a)) mark.is
              ∙ ap (λ an. Some (did t (MarkUndone mark.section mark.mark) an)) (at_act.answered ∙ ap (answer_of (c j).words) mark.is))

          undoes : UndoesAt c acts j t notes.0
          undoes = (runs t).undoes j notes.0 notes.1

          same : undoes.th ≡ shows.0
          same = same_Some undoes.th shows.0 (sym undoes.stands ∙ ap (c j).threads (sym mark.own) ∙ shows.1)

          same_word : undoes.word ≡ mark.word
          same_word = ap seen_word (sym undoes.undoing ∙ ap (λ (x : ThreadState S). x.attempt) same ∙ mark.undoing)

  -- where a thread undoes its section, its entry says so
  back_shown : (k t n q : ℕ) → GoesBackAt (levels_in c acts t) (runs t).act k n q → slice_get es k ≡ Some (go_back t q)
  back_shown k t n q goes_back = entry.1 ∙ ap Some (entry.2.2 ∙ ap (λ g. back_to t g ((c k).levels t)) (ap (λ (x : ThreadState S). x.attempt) same ∙ undoes.undoing) ∙ ap (go_back_to t) opened)
    where
      undoes : UndoesAt c acts k t n
      undoes = (runs t).undoes k n goes_back.undoes

      entry : (e : Entry) × (slice_get es k ≡ Some e) × Shows code b (c k) (did t (MarkUndone undoes.th.section (undone_of undoes.word)) StepAnswer.Done) e
      entry = entry_at code b c acts es k (did t (MarkUndone undoes.th.section (undone_of undoes.word)) StepAnswer.Done) shown.shows undoes.notes

      same : entry.2.0 ≡ undoes.th
      same = same_Some entry.2.0 undoes.th (sym entry.2.1 ∙ undoes.stands)

      within : k < length acts
      within = slice_get_within acts k _ undoes.notes

      opened : slice_get ((c k).levels t) (length ((c k).levels t) - revoke_of undoes.word) ≡ Some q
      opened = ap (λ m. slice_get ((c k).levels t) (length ((c k).levels t) - m)) (sym undoes.level)
          ∙ ap (λ (core : Core S). slice_get (core.levels t) (length (core.levels t) - n)) (sym (place_is k (upto k (length acts) within))) ∙ goes_back.opened

  -- ---- steps of a thread

  record StepAt (i t : ℕ) : Type 0 where
    act : Act
    entry : Entry
    here : slice_get acts i ≡ Some act
    at : slice_get es i ≡ Some entry
    shows : Shows code b (c i) act entry
    is : IsStepOf t (Some entry)
    own : mover (Some act) ≡ t

  step_at : (i t : ℕ) → IsStepOf t (slice_get es i) → StepAt i t
  step_at i t is = by_entry (slice_get es i) refl is
    where
      own_of : (e : Entry) (x : Act) → Shows code b (c i) x e → IsStepOf t (Some e) → mover (Some x) ≡ t
      own_of e (quiet u) shows is = subst (λ x. IsStepOf t (Some x)) shows is
      own_of e (beside u step a) shows is = absurd (subst (λ x. IsStepOf t (Some x)) shows is)
      own_of e (did u step a) shows is = step_is_own code b (c i) u t shows.0 e step a shows.2 is

      by_entry : (o : Option Entry) → slice_get es i ≡ o → IsStepOf t o → StepAt i t
      by_entry None at is = absurd is
      by_entry (Some e) at is =
          let found = shown_at code b c acts es i e shown.shows at in
          record { act = found.0; entry = e; here = found.1; at = at; shows = found.2; is = is; own = own_of e found.0 found.2 is }

  step_within : {i t : ℕ} → StepAt i t → i < length acts
  step_within {i} step = slice_get_within acts i step.act step.here

  cut_of : (i t : ℕ) → StepAt i t → is_cut_by doomed c acts i ≡ nat_lt 0 (to_undo doomed ((c i).levels t))
  cut_of i t step = ap (λ o. nat_lt 0 (to_undo doomed ((c i).levels (mover o)))) step.here ∙ ap (λ n. nat_lt 0 (to_undo doomed ((c i).levels n))) step.own

  -- made with such a level open, it is cut
  cut_in : (i t p : ℕ) → StepAt i t → In p ((c i).levels t) → doomed p ≡ true → is_cut_by doomed c acts i ≡ true
  cut_in i t p step there so = cut_of i t step ∙ is_some (to_undo doomed ((c i).levels t)) (some_in doomed p ((c i).levels t) there so)

  -- a level that is revoked in the run of levels is so by an act
  doomed_of : (t p : ℕ) → IsDoomedAt (levels_in c acts t) (runs t).act p → doomed p ≡ true
  doomed_of t p is =
      let by = (runs t).revokes is.0 is.1 is.2 in
      (shown.tells p).1 (record {
        place = is.0;
        section = by.0.section;
        level = is.1;
        revokes = by.2;
        thread = t;
        th = by.0;
        stands = by.1;
        own = refl;
        was_open = contains_of p (levels_from is.1 ((c is.0).levels t))
            (subst (λ (core : Core S). In p (levels_from is.1 (core.levels t))) (place_is is.0 (upto is.0 (length acts) (revokes_within by.2))) is.3);
      })
    where
      revokes_within : {j s n : ℕ} → RevokesAt acts j s n → j < length acts
      revokes_within {j} (u, old, is) = elim is [ inl here ↦ slice_get_within acts j _ here | inr here ↦ slice_get_within acts j _ here ]

  not_itself : (p : ℕ) → p < p → ⊥
  not_itself p is = omega (arith, is)

  not_open_yet : (p t : ℕ) → p < length acts → In p ((c p).levels t) → ⊥
  not_open_yet p t within there = not_itself p (below p p (levels_in c acts t p) (falls (levels_in c acts t) (revoked_in c acts t) (runs t).act (runs t).is_run p)
      (subst (λ (core : Core S). In p (core.levels t)) (sym (place_is p (upto p (length acts) within))) there))

  -- the act that opens a level shows nothing
  opens_unseen : (p t : ℕ) → StepAt p t → In p ((c (suc p)).levels t) → ⊥
  opens_unseen p t step there = by_act step.act step.entry step.here step.own step.shows step.is
    where
      within : p < length acts
      within = step_within step

      by_act : (x : Act) (e : Entry) → slice_get acts p ≡ Some x → mover (Some x) ≡ t → Shows code b (c p) x e → IsStepOf t (Some e) → ⊥
      by_act (quiet u) e here own shows is =
          let at = act_at code b c acts p (quiet u) shown.levelled.ordered.run.leads here in
          not_open_yet p t within (subst (In p) (ap (λ (core : Core S). core.levels t) at.leads) there)
      by_act (beside u made a) e here own shows is =
          let at = act_at code b c acts p (beside u made a) shown.levelled.ordered.run.leads here in
          not_open_yet p t within (subst (In p) (ap (λ (core : Core S). core.levels t) at.leads) there)
      by_act (did u made a) e here own shows is = by_levels (goes code b first classes c acts shown.levelled p within u made a here at counted)
          (subst (In p) (ap (c (suc p)).levels (sym own) ∙ ap (λ (core : Core S). core.levels u) at.leads ∙ own_levels code b first classes c acts shown.levelled p within u made a here at counted) there)
        where
          at : DidAt code b c p u made a
          at = act_at code b c acts p (did u made a) shown.levelled.ordered.run.leads here

          counted : Counted code b first classes c acts shown.levelled (c p)
          counted = counted_at code b first classes c acts shown.levelled p (upto p (length acts) within)

          by_levels : {before_levels after_levels : ℕ} {behind : List ℕ} → LevelsGo made p before_levels after_levels ((c p).levels u) behind → In p behind → ⊥
          by_levels {after_levels = after_levels} (goes_out few kept) is_in =
              not_open_yet p u within (in_drop (length ((c p).levels u) - after_levels) p ((c p).levels u) (subst (In p) kept is_in))
          by_levels (goes_in opening more kept) is_in = subst (λ x. IsStepOf t (Some x)) (opening_is_unseen code b (c p) u t shows.0 e made a opening shows.2) is

  -- ---- what is undone

  undone_here : (j t p : ℕ) → slice_get es j ≡ Some (go_back t p) → (i : ℕ) → p ≤ i → i < j → IsStepOf t (slice_get es i) → is_cut_by doomed c acts i ≡ true
  undone_here j t p at i low less is = elim (first_or i p low) [
    | inl same ↦ absurd (opens_unseen p t (step_at p t (subst (λ n. IsStepOf t (slice_get es n)) same is))
        (subst (λ (core : Core S). In p (core.levels t)) (place_is (suc p) (next p i j low less back.within)) (were.1 (suc p) (one p) (under p i j low less))))
    | inr later ↦ cut_in i t p (step_at i t is) (subst (λ (core : Core S). In p (core.levels t)) (place_is i (inside i j less back.within)) (were.1 i later (upto i j less))) (doomed_of t p were.0)
  ]
    where
      back : Back j t p
      back = back_at j t p at

      were : IsDoomedAt (levels_in c acts t) (runs t).act p × ((n : ℕ) → p < n → n ≤ j → In p (levels_in c acts t n))
      were = were_doomed (levels_in c acts t) (revoked_in c acts t) (runs t).act (runs t).is_run j back.level p back.is

      first_or : (i p : ℕ) → p ≤ i → (i ≡ p) ⊎ (p < i)
      first_or zero zero low = inl refl
      first_or zero (suc p) low = absurd (no p low)
        where
          no : (p : ℕ) → suc p ≤ 0 → ⊥
          no p low = omega (arith, low)
      first_or (suc i) zero low = inr (omega arith)
      first_or (suc i) (suc p) low = elim (first_or i p (omega (arith, low))) [ inl same ↦ inl (ap suc same) | inr later ↦ inr (omega (arith, later)) ]

      one : (p : ℕ) → p < suc p
      one p = omega arith

      under : (p i j : ℕ) → p ≤ i → i < j → suc p ≤ j
      under p i j low less = omega (arith, low, less)

      next : {n : ℕ} (p i j : ℕ) → p ≤ i → i < j → j < n → suc p ≤ n
      next p i j low less within = omega (arith, low, less, within)

      inside : {n : ℕ} (i j : ℕ) → i < j → j < n → i ≤ n
      inside i j less within = omega (arith, less, within)

  nested_here : (j t p : ℕ) → slice_get es j ≡ Some (go_back t p) → (i q : ℕ) → p ≤ i → i < j → slice_get es i ≡ Some (go_back t q) → p ≤ q
  nested_here j t p at i q low less earlier =
      let back = back_at j t p at in
      let before = back_at i t q earlier in
      are_nested (levels_in c acts t) (revoked_in c acts t) (runs t).act (runs t).is_run j back.level p i before.level q back.is before.is low less

  -- ---- what is cut

  module _ (i t : ℕ) (cut : is_cut_by doomed c acts i ≡ true) (is : IsStepOf t (slice_get es i)) where
    step : StepAt i t
    step = step_at i t is

    low_i : i ≤ length acts
    low_i = upto i (length acts) (step_within step)

    out : Outermost doomed ((c i).levels t)
    out = outermost_of doomed ((c i).levels t) (some_is (to_undo doomed ((c i).levels t)) (sym (cut_of i t step) ∙ cut))

    open_now : In out.place ((c i).levels t)
    open_now = level_in out.place out.level ((c i).levels t) out.is

    is_doomed : IsDoomedAt (levels_in c acts t) (runs t).act out.place
    is_doomed = doomed_at code b first classes c acts shown.levelled t out.place i low_i open_now ((shown.tells out.place).0 out.so)

    open_there : In out.place (levels_in c acts t i)
    open_there = subst (λ (core : Core S). In out.place (core.levels t)) (sym (place_is i low_i)) open_now

    -- it stays open for d acts, or is gone back over
    open_for : (d : ℕ) → ((j : ℕ) → i ≤ j → j ≤ d + i → In out.place (levels_in c acts t j)) ⊎ IsGoneBackOver es t i
    open_for zero = inl (λ j low up. subst (λ n. In out.place (levels_in c acts t n)) (same i j low up) open_there)
      where
        same : (i j : ℕ) → i ≤ j → j ≤ 0 + i → i ≡ j
        same i j low up = omega (arith, low, up)
    open_for (suc d) = elim (open_for d) [
      | inr gone ↦ inr gone
      | inl still ↦ elim (doomed_are_undone (levels_in c acts t) (revoked_in c acts t) (runs t).act (runs t).is_run out.place i (suc d + i) is_doomed open_there (from d i)) [
        | inl there ↦ inl (λ j low up. elim (last_or j (d + i) (one_more d i j up)) [
          | inl same ↦ subst (λ n. In out.place (levels_in c acts t n)) (last d i j same) there
          | inr earlier ↦ still j low earlier
        ])
        | inr gone ↦ inr (over gone.0 gone.1 gone.2 gone.3 gone.5 gone.6)
      ]
    ]
      where
        from : (d i : ℕ) → i ≤ suc d + i
        from d i = omega arith

        one_more : (d i j : ℕ) → j ≤ suc d + i → j ≤ suc (d + i)
        one_more d i j up = omega (arith, up)

        last : (d i j : ℕ) → j ≡ suc (d + i) → suc d + i ≡ j
        last d i j same = omega (arith, same)

        last_or : (j m : ℕ) → j ≤ suc m → (j ≡ suc m) ⊎ (j ≤ m)
        last_or zero m up = inr (omega arith)
        last_or (suc zero) zero up = inl refl
        last_or (suc (suc j)) zero up = absurd (no j up)
          where
            no : (j : ℕ) → suc (suc j) ≤ 1 → ⊥
            no j up = omega (arith, up)
        last_or (suc j) (suc m) up = elim (last_or j m (omega (arith, up))) [ inl same ↦ inl (ap suc same) | inr earlier ↦ inr (omega (arith, earlier)) ]

        over : (k n q : ℕ) → i ≤ k → GoesBackAt (levels_in c acts t) (runs t).act k n q → q ≤ out.place → IsGoneBackOver es t i
        over k n q later goes_back deep =
            let there = back_shown k t n q goes_back in (
              k,
              q,
              after i k later (λ same. subst (IsStepOf t) (ap (slice_get es) same ∙ there) is),
              under i out.place q deep
                  (below i out.place (levels_in c acts t i) (falls (levels_in c acts t) (revoked_in c acts t) (runs t).act (runs t).is_run i) open_there),
              there,
            )
          where
            after : (i k : ℕ) → i ≤ k → (i ≡ k → ⊥) → i < k
            after zero zero later other = absurd (other refl)
            after zero (suc k) later other = omega arith
            after (suc i) zero later other = absurd (no i later)
              where
                no : (i : ℕ) → suc i ≤ 0 → ⊥
                no i later = omega (arith, later)
            after (suc i) (suc k) later other = let rest = after i k (omega (arith, later)) (λ same. other (ap suc same)) in omega (arith, rest)

            under : (i p q : ℕ) → q ≤ p → p < i → q ≤ i
            under i p q deep low = omega (arith, deep, low)

    covered_here : IsGoneBackOver es t i ⊎ ((j : ℕ) → i < j → IsStepOf t (slice_get es j) → is_cut_by doomed c acts j ≡ true)
    covered_here = elim (open_for (length acts)) [
      | inr gone ↦ inl gone
      | inl still ↦ inr (λ j later own.
          let there = step_at j t own in
          let within = step_within there in
          cut_in j t out.place there (subst (λ (core : Core S). In out.place (core.levels t)) (place_is j (upto j (length acts) within)) (still j (upto i j later) (far i j within))) out.so)
    ]
      where
        far : {n : ℕ} (i j : ℕ) → j < n → j ≤ n + i
        far i j within = omega (arith, within)

    -- where its thread has nothing left to undo, it is gone back over
    gone_back : to_undo doomed ((c (length acts)).levels t) ≡ 0 → IsGoneBackOver es t i
    gone_back none = elim (open_for (length acts)) [
      | inr gone ↦ gone
      | inl still ↦ absurd (not_both (to_undo doomed ((c (length acts)).levels t)) none
          (some_in doomed out.place ((c (length acts)).levels t) (subst (λ (core : Core S). In out.place (core.levels t)) (place_is (length acts) (as_far (length acts)))
          (still (length acts) low_i (more (length acts) i))) out.so))
    ]
      where
        not_both : (n : ℕ) → n ≡ 0 → 0 < n → ⊥
        not_both n none some = omega (arith, none, some)

        as_far : (n : ℕ) → n ≤ n
        as_far n = omega arith

        more : (n i : ℕ) → n ≤ n + i
        more n i = omega arith

pub undone_is_cut : {S : Type 0} (code : Code S) → UndoneIsCut code
undone_is_cut code b first classes c acts es doomed shown j t p at i low less is = undone_here code b first classes c acts es doomed shown j t p at i low less is

pub undoings_nest : {S : Type 0} (code : Code S) → UndoingsNest code
undoings_nest code b first classes c acts es doomed shown j t p at i q low less earlier = nested_here code b first classes c acts es doomed shown j t p at i q low less earlier

pub cut_is_covered : {S : Type 0} (code : Code S) → CutIsCovered code
cut_is_covered code b first classes c acts es doomed shown i t cut is = covered_here code b first classes c acts es doomed shown i t cut is

pub rested_threads_have_gone_back : {S : Type 0} (code : Code S) → RestedThreadsHaveGoneBack code
rested_threads_have_gone_back code b first classes c acts es doomed shown t none i cut is = gone_back code b first classes c acts es doomed shown i t cut is none
