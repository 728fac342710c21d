-- The levels of threads along a run.
use Rattle.std.proofs.Common.{◌≡◌, ◌≢◌, inl, inr, ℕ, suc, ◌<◌, ◌≤◌, true, Option, None, Some, List, [], ◌∷◌, length, nat_eq, refl, sym, ◌∙◌, ap, subst, arith}
use Rattle.std.specs.Prelude.{slice_get, if◌then◌else◌}
use Rattle.std.proofs.lemmas.Grind.{common_steps}
use Rattle.std.proofs.lemmas.Bool.Decides.{nat_tests}
use Rattle.std.proofs.lemmas.Option.{same_Some, slice_get_within}
use Rattle.op_core.specs.ThreadCode.{Code}
use Rattle.op_core.specs.OrdinaryState.{set_at}
use Rattle.op_core.proofs.PointwiseLemmas.{same_or_other, set_at-hit, set_at-other}
use Rattle.heap_words.specs.declared.areas.Area.TheVariants.{Section}
use Rattle.section_state.specs.SectionWord.{undone_of}
use Rattle.step_port.specs.declared.answer.StepAnswer.{StepAnswer}
use Rattle.step_port.specs.declared.step.Step.{Step}
use Rattle.step_port.specs.declared.step.Step.TheVariants.{Revoke, BreakLevel, Split, MarkUndone}
use Rattle.step_port.specs.Steps.{effect_of}
use Rattle.step_port.specs.Words.{answer_of, Words, CanAnswer, words_after}
use Rattle.thread_automaton.specs.declared.Attempt.{Attempt}
use Rattle.thread_automaton.specs.declared.Attempt.TheVariants.{Undoing}
use Rattle.thread_automaton.specs.declared.Bounds.{Bounds}
use Rattle.thread_automaton.specs.declared.Move.TheVariants.{Make}
use Rattle.thread_automaton.specs.ThreadState.{ThreadState, first_state}
use Rattle.thread_automaton.specs.Answers.{change_of}
use Rattle.thread_automaton.specs.Told.{after_answer, after_quiet}
use Rattle.automaton_rows.specs.Fits.{IsKept, IsFit}
use Rattle.automaton_rows.specs.Rows.{Row}
use Rattle.automaton_rows.proofs.RowLemmas.{answers_are_rows, words_can_answer}
use Rattle.core_runs.specs.Cores.{Core, threads_by, levels_by, core_after}
use Rattle.core_runs.specs.Acts.{Act, quiet, did, beside, QuietAt, DidAt, BesideAt, ActAt}
use Rattle.core_runs.specs.Revoked.{RevokesAt}
use Rattle.section_laws.specs.Runs.{IsRun}
use Rattle.section_laws.proofs.ClaimLemmas.{none_some}
use Rattle.section_laws.proofs.FactLemmas.{each}
use Rattle.section_laws.proofs.RunLemmas.{get_some, act_at, along, Known, facts_at}
use Rattle.section_laws.proofs.SectionLemmas.{sections_apart}
use Rattle.section_laws.proofs.own_sections.ViewLemmas.{view, undone_word}
use Rattle.section_laws.proofs.own_sections.OwnLemmas.{Own, is_some}
use Rattle.section_laws.proofs.own_sections.SeenLemmas.{undoing_seen}
use Rattle.section_laws.proofs.own_sections.MoveLemmas.{bits_at, deed_here, unopened, own_at}
use Rattle.section_laws.proofs.run_threads.NumberLemmas.{threads_are_new}
use Rattle.section_laws.proofs.held_levels.StandLemmas.{closed_low}
use Rattle.section_laws.specs.Levels.{IsLevelledRun, LevelsAreCounted, UndoesAt, word_in, revoked_by, pinned_in}
use Rattle.section_laws.proofs.section_levels.RowLemmas.{LevelsGo, levels_after, counted_after}
use Rattle.section_laws.proofs.section_levels.TurnLemmas.{Turn, calm_turn, own_turn}
use Rattle.section_laws.proofs.section_levels.OtherLemmas.{other_word, beside_word, other_turn}

is_zero : (n : ℕ) → nat_eq n 0 ≡ true → n ≡ 0
is_zero n is = grind (arith, common_steps, nat_tests)

equal_zero : (n : ℕ) → n ≡ 0 → nat_eq n 0 ≡ true
equal_zero n is = grind (arith, common_steps, nat_tests)

undoing_is : (g : Attempt) (v : ℕ) → undone_word g ≡ Some v → g ≡ Undoing v
undoing_is (Undoing w) v is = ap Undoing (same_Some w v is)
undoing_is g v is = none_some v is

some_none : {A B : Type 0} (x : A) → Some x ≡ None → B
some_none x is = none_some x (sym is)

module _ {S : Type 0} (code : Code S) (b : Bounds) (first : S) (classes : ℕ) (c : ℕ → Core S) (acts : List Act) (run : IsLevelledRun code b first classes c acts) where
  pub is_run : IsRun code b c acts
  is_run = run.ordered.run

  -- a thread without a section has no level open
  pub no_levels : (th : ThreadState S) → IsKept th → th.section ≡ 0 → th.levels ≡ 0
  no_levels th kept none = is_zero th.levels (sym kept.levels ∙ equal_zero th.section none)

  -- the places are as many as the levels, and a thread that isn't there has none
  pub record Counted (core : Core S) : Type 0 where
    pub there : (t : ℕ) (th : ThreadState S) → core.threads t ≡ Some th → length (core.levels t) ≡ th.levels
    pub nobody : (t : ℕ) → core.threads t ≡ None → core.levels t ≡ []

  -- an act revokes the section of thread z to level n
  abbrev pub Revokes : ℕ → ℕ → ℕ → Type 0
  Revokes k z n = (th : ThreadState S) × ((c k).threads z ≡ Some th) × RevokesAt acts k th.section n

  -- its own step undoes it
  abbrev pub Undoes : ℕ → ℕ → ℕ → Type 0
  Undoes k z n = UndoesAt c acts k z n

  -- from one core to another, as act number k
  abbrev pub TurnTo : ℕ → ℕ → Core S → Core S → Type 0
  TurnTo k z core next = Turn k (core.levels z) (next.levels z) (revoked_by (word_in (core.threads z) core.words)) (revoked_by (word_in (next.threads z) next.words))
      (pinned_in (core.threads z) core.words) (pinned_in (next.threads z) next.words) (Revokes k z) (Undoes k z)

  -- a thread that is there before and after
  turn_there : (k z : ℕ) (o q : Option (ThreadState S)) (x y : ThreadState S) (l m n : List ℕ) (w v : Words) → o ≡ Some x → q ≡ Some y → n ≡ m
      → Turn k l m (revoked_by (word_in (Some x) w)) (revoked_by (word_in (Some y) v)) (pinned_in (Some x) w) (pinned_in (Some y) v) (Revokes k z) (Undoes k z)
      → Turn k l n (revoked_by (word_in o w)) (revoked_by (word_in q v)) (pinned_in o w) (pinned_in q v) (Revokes k z) (Undoes k z)
  turn_there k z o q x y l m n w v at behind levels turn =
      subst (λ p. Turn k l n (revoked_by (word_in p w)) (revoked_by (word_in q v)) (pinned_in p w) (pinned_in q v) (Revokes k z) (Undoes k z)) (sym at)
      (subst (λ p. Turn k l n (revoked_by (word_in (Some x) w)) (revoked_by (word_in p v)) (pinned_in (Some x) w) (pinned_in p v) (Revokes k z) (Undoes k z)) (sym behind)
      (subst (λ i. Turn k l i (revoked_by (word_in (Some x) w)) (revoked_by (word_in (Some y) v)) (pinned_in (Some x) w) (pinned_in (Some y) v) (Revokes k z) (Undoes k z)) (sym levels) turn))

  empty : (l : List ℕ) → length l ≡ 0 → l ≡ []
  empty [] is = refl
  empty (p ∷ l) is = absurd (no (length l) is)
    where
      no : (n : ℕ) → suc n ≡ 0 → ⊥
      no n is = omega (arith, is)

  module _ (k : ℕ) (within : k < length acts) where
    here_at : k ≤ length acts
    here_at = omega (arith, within)

    next_at : suc k ≤ length acts
    next_at = omega (arith, within)

    known : Known code (c k)
    known = facts_at code b c acts is_run k here_at

    known_after : Known code (c (suc k))
    known_after = facts_at code b c acts is_run (suc k) next_at

    own_of_thread : (t : ℕ) (th : ThreadState S) → (c k).threads t ≡ Some th → Own (view code th) (c k).words
    own_of_thread t th at = own_at code b c acts is_run run.ordered.in_bits k here_at t th at

    -- ---- thread t makes a step

    module _ (t : ℕ) (step : Step) (a : StepAnswer) (here : slice_get acts k ≡ Some (did t step a)) (at : DidAt code b c k t step a) (counted : Counted (c k)) where
      fits : IsFit code at.from
      fits = known.fit t at.from at.stands

      abbrev pub y : ThreadState S
      y = after_answer code b at.from step a

      abbrev pub behind : List ℕ
      behind = levels_by k (change_of code b at.from (code.next at.from.local) step a) ((c k).levels t)

      row : Row code b at.from (code.next at.from.local) step a (change_of code b at.from (code.next at.from.local) step a)
      row = answers_are_rows code b at.from step a fits.attempt at.move (subst (CanAnswer (effect_of step)) (sym at.answered) (words_can_answer (c k).words step))

      pub goes : LevelsGo step k at.from.levels y.levels ((c k).levels t) behind
      goes = levels_after code b at.from k ((c k).levels t) (counted.there t at.from at.stands) row fits.kept
          (λ s w n is. closed_low code first classes run.ordered.orderly b c acts run.ordered k t at.from here_at at.stands s w n (at.move ∙ ap Make is))
          (λ w is. (undoing_seen code at.from (c k).words (own_of_thread t at.from at.stands) fits w is).1)

      abbrev pub after : ℕ → Option (ThreadState S)
      after = threads_by code step at.from.local (set_at (c k).threads t (Some y))

      -- who is handed out wasn't there
      new : (n r p : ℕ) → step ≡ Split n r p → (c k).threads n ≡ None
      new n r p is = threads_are_new code b c acts is_run run.numbered k t n r p a (here ∙ ap (λ st. Some (did t st a)) is)

      -- each thread that is there then
      data Came (u : ℕ) (uh : ThreadState S) : Type 0 where
        stays : u ≢ t → (c k).threads u ≡ Some uh → Came u uh
        moves : u ≡ t → uh ≡ y → Came u uh
        begins : u ≢ t → (c k).threads u ≡ None → uh.section ≡ 0 → uh.levels ≡ 0 → Came u uh

      came_there : (u : ℕ) (uh : ThreadState S) → set_at (c k).threads t (Some y) u ≡ Some uh → Came u uh
      came_there u uh there = elim (same_or_other u t) [
        | inl own ↦ moves own (sym (same_Some y uh (sym (ap (set_at (c k).threads t (Some y)) own ∙ set_at-hit (c k).threads t (Some y)) ∙ there)))
        | inr other ↦ stays other (sym (set_at-other (c k).threads t (Some y) u other) ∙ there)
      ]

      not_mover : (n : ℕ) → (c k).threads n ≡ None → n ≢ t
      not_mover n none same = none_some at.from (sym none ∙ ap (c k).threads same ∙ at.stands)

      came : (u : ℕ) (uh : ThreadState S) → after u ≡ Some uh → Came u uh
      came u uh there = by_step step refl there
        where
          by_step : (made : Step) → step ≡ made → threads_by code made at.from.local (set_at (c k).threads t (Some y)) u ≡ Some uh → Came u uh
          by_step (Split n r p) is there = elim (same_or_other u n) [
            | inl own ↦
                let z : ThreadState S = first_state n p (code.child at.from.local r) in
                let same : z ≡ uh = same_Some z uh (sym (ap (set_at (set_at (c k).threads t (Some y)) n (Some z)) own ∙ set_at-hit (set_at (c k).threads t (Some y)) n (Some z)) ∙ there) in
                begins (λ is_t. not_mover n (new n r p is) (sym own ∙ is_t)) (ap (c k).threads own ∙ new n r p is) (ap (λ (x : ThreadState S). x.section) (sym same)) (ap (λ (x : ThreadState S). x.levels) (sym same))
            | inr other ↦ came_there u uh (sym (set_at-other (set_at (c k).threads t (Some y)) n (Some (first_state n p (code.child at.from.local r))) u other) ∙ there)
          ]
          by_step made is there = came_there u uh there

      -- the thread itself is there
      pub own_there : after t ≡ Some y
      own_there = by_step step refl
        where
          by_step : (made : Step) → step ≡ made → threads_by code made at.from.local (set_at (c k).threads t (Some y)) t ≡ Some y
          by_step (Split n r p) is = set_at-other (set_at (c k).threads t (Some y)) n (Some (first_state n p (code.child at.from.local r))) t (λ same. not_mover n (new n r p is) (sym same))
              ∙ set_at-hit (c k).threads t (Some y)
          by_step made is = set_at-hit (c k).threads t (Some y)

      -- and one that isn't there then wasn't
      gone : (u : ℕ) → u ≢ t → after u ≡ None → (c k).threads u ≡ None
      gone u other none = by_step step refl none
        where
          by_step : (made : Step) → step ≡ made → threads_by code made at.from.local (set_at (c k).threads t (Some y)) u ≡ None → (c k).threads u ≡ None
          by_step (Split n r p) is none = elim (same_or_other u n) [
            | inl own ↦ ap (c k).threads own ∙ new n r p is
            | inr differs ↦ sym (set_at-other (c k).threads t (Some y) u other) ∙ sym (set_at-other (set_at (c k).threads t (Some y)) n (Some (first_state n p (code.child at.from.local r))) u differs) ∙ none
          ]
          by_step made is none = sym (set_at-other (c k).threads t (Some y) u other) ∙ none

      pub own_levels : set_at (c k).levels t behind t ≡ behind
      own_levels = set_at-hit (c k).levels t behind

      pub other_levels : (u : ℕ) → u ≢ t → set_at (c k).levels t behind u ≡ (c k).levels u
      other_levels u other = set_at-other (c k).levels t behind u other

      count_there : (u : ℕ) (uh : ThreadState S) → Came u uh → length (set_at (c k).levels t behind u) ≡ uh.levels
      count_there u uh (stays other there) = ap length (other_levels u other) ∙ counted.there u uh there
      count_there u uh (moves own is) = ap (λ n. length (set_at (c k).levels t behind n)) own ∙ ap length own_levels
          ∙ counted_after step k at.from.levels y.levels ((c k).levels t) behind (counted.there t at.from at.stands) goes ∙ ap (λ (x : ThreadState S). x.levels) (sym is)
      count_there u uh (begins other none section levels) = ap length (other_levels u other ∙ counted.nobody u none) ∙ sym levels

      count_none : (u : ℕ) → after u ≡ None → set_at (c k).levels t behind u ≡ []
      count_none u none = elim (same_or_other u t) [
        | inl own ↦ some_none y (sym own_there ∙ ap after (sym own) ∙ none)
        | inr other ↦ other_levels u other ∙ counted.nobody u (gone u other none)
      ]

      did_counted : Counted (c (suc k))
      did_counted = subst Counted (sym at.leads) (record { there = λ u uh there. count_there u uh (came u uh there); nobody = λ u none. count_none u none })

      -- a thread that makes no step stays there
      pub kept_there : (u : ℕ) (uh : ThreadState S) → u ≢ t → (c k).threads u ≡ Some uh → after u ≡ Some uh
      kept_there u uh other there = by_step step refl
        where
          by_step : (made : Step) → step ≡ made → threads_by code made at.from.local (set_at (c k).threads t (Some y)) u ≡ Some uh
          by_step (Split n r p) is = set_at-other (set_at (c k).threads t (Some y)) n (Some (first_state n p (code.child at.from.local r))) u
              (λ same. none_some uh (sym (new n r p is) ∙ ap (c k).threads (sym same) ∙ there)) ∙ set_at-other (c k).threads t (Some y) u other ∙ there
          by_step made is = set_at-other (c k).threads t (Some y) u other ∙ there

      own : Own (view code at.from) (c k).words
      own = own_of_thread t at.from at.stands

      fits_after : IsFit code y
      fits_after = known_after.fit t y (ap (λ (core : Core S). core.threads t) at.leads ∙ own_there)

      mover_turn : TurnTo k t (c k) (core_after code b k (c k) t at.from step a)
      mover_turn =
          turn_there k t ((c k).threads t) (after t) at.from y ((c k).levels t) behind (set_at (c k).levels t behind t) (c k).words (words_after step (c k).words) at.stands own_there own_levels
          (own_turn (view code at.from) (view code y) (c k).words (bits_at code b c acts is_run run.ordered.in_bits k t at.from here_at at.stands) own k ((c k).levels t) behind
          (counted.there t at.from at.stands) (no_levels at.from fits.kept) (no_levels y fits_after.kept) (Revokes k t) (Undoes k t)
          (deed_here code b c acts is_run run.ordered.in_bits k within t step a here at own) at.answered goes
          (λ v undoing is. record {
            th = at.from;
            word = v;
            stands = at.stands;
            undoing = undoing_is at.from.attempt v undoing;
            level = refl;
            notes = here ∙ ap (λ st. Some (did t st a)) is ∙ ap (λ an. Some (did t (MarkUndone at.from.section (undone_of v)) an)) (at.answered ∙ ap (answer_of (c k).words) is);
          }))

      -- a thread that isn't there has no section, and none that begins
      shut_after : (z : ℕ) → z ≢ t → (c k).threads z ≡ None → revoked_by (word_in (after z) (words_after step (c k).words)) ≡ None
      shut_after z other none = by_option (after z) refl
        where
          by_came : (zh : ThreadState S) → Came z zh → revoked_by (word_in (Some zh) (words_after step (c k).words)) ≡ None
          by_came zh (stays differs there) = none_some zh (sym none ∙ there)
          by_came zh (moves same is) = absurd (other same)
          by_came zh (begins differs there section levels) =
              ap (λ d. revoked_by (if d then None else Some (words_after step (c k).words (Section zh.section)))) (equal_zero zh.section section)

          by_option : (o : Option (ThreadState S)) → after z ≡ o → revoked_by (word_in o (words_after step (c k).words)) ≡ None
          by_option None is = refl
          by_option (Some zh) is = by_came zh (came z zh is)

      other_thread : (z : ℕ) → z ≢ t → (o : Option (ThreadState S)) → (c k).threads z ≡ o → TurnTo k z (c k) (core_after code b k (c k) t at.from step a)
      other_thread z other None is =
          let none : revoked_by (word_in ((c k).threads z) (c k).words) ≡ None = ap (λ o. revoked_by (word_in o (c k).words)) is in
          calm_turn k ((c k).levels z) (set_at (c k).levels t behind z) _ _ _ _ (Revokes k z) (Undoes k z) (other_levels z other) (shut_after z other is ∙ sym none) (inl (counted.nobody z is))
          (λ n at_n. none_some n (sym none ∙ at_n))
      other_thread z other (Some zh) is =
          turn_there k z ((c k).threads z) (after z) zh zh ((c k).levels z) ((c k).levels z) (set_at (c k).levels t behind z) (c k).words (words_after step (c k).words) is (kept_there z zh other is) (other_levels z other)
          (other_turn (view code zh) (c k).words (words_after step (c k).words) k ((c k).levels z) (Revokes k z) (Undoes k z)
          (λ none. empty ((c k).levels z) (counted.there z zh is ∙ no_levels zh (known.fit z zh is).kept none)) (counted.there z zh is) own_z
          (λ some. other_word (view code at.from) (view code y) (c k).words (Revokes k z) zh.section
          (λ same. other (sym (sections_apart code b c acts is_run k t z at.from zh here_at at.stands is (subst (λ n. 0 < n) (sym same) some) same)))
          (is_some (view code zh) ((c k).words (Section zh.section)) (own_z.own some))
          (deed_here code b c acts is_run run.ordered.in_bits k within t step a here at own) at.answered
          (unopened code b c acts is_run run.ordered.in_bits k within t step a at)
          (λ v n revoke done. (zh, is, (t, v, inl (here ∙ ap (λ st. Some (did t st a)) revoke ∙ ap (λ an. Some (did t (Revoke zh.section v n) an)) done))))))
        where
          own_z : Own (view code zh) (c k).words
          own_z = own_of_thread z zh is

      did_turn : (z : ℕ) → TurnTo k z (c k) (c (suc k))
      did_turn z = subst (TurnTo k z (c k)) (sym at.leads) (elim (same_or_other z t) [
        | inl own_number ↦ subst (λ n. TurnTo k n (c k) (core_after code b k (c k) t at.from step a)) (sym own_number) mover_turn
        | inr other ↦ other_thread z other ((c k).threads z) refl
      ])

    -- ---- silent moves, and steps beside those of threads

    quiet_counted : (t : ℕ) → QuietAt code b c k t → Counted (c k) → Counted (c (suc k))
    quiet_counted t at counted = subst Counted (sym at.leads) (record {
      there = λ u. each (λ uh. length ((c k).levels u) ≡ uh.levels) (c k).threads t (after_quiet at.from at.local) u
          (λ own. ap (λ n. length ((c k).levels n)) own ∙ counted.there t at.from at.stands) (λ vh other there. counted.there u vh there);
      nobody = λ u none. elim (same_or_other u t) [
        | inl own ↦ some_none (after_quiet at.from at.local) (sym (set_at-hit (c k).threads t (Some (after_quiet at.from at.local))) ∙ ap (set_at (c k).threads t (Some (after_quiet at.from at.local))) (sym own) ∙ none)
        | inr other ↦ counted.nobody u (sym (set_at-other (c k).threads t (Some (after_quiet at.from at.local)) u other) ∙ none)
      ];
    })

    beside_counted : (t : ℕ) (step : Step) (a : StepAnswer) → BesideAt c k t step a → Counted (c k) → Counted (c (suc k))
    beside_counted t step a at counted = subst Counted (sym at.leads) (record { there = counted.there; nobody = counted.nobody })

    quiet_turn : (t : ℕ) → QuietAt code b c k t → (z : ℕ) → TurnTo k z (c k) (c (suc k))
    quiet_turn t at z = subst (TurnTo k z (c k)) (sym at.leads)
        (calm_turn k ((c k).levels z) ((c k).levels z) _ _ _ _ (Revokes k z) (Undoes k z) refl (ap revoked_by same_word) (inr (as_is _ _ same_pin)) (λ n is. same_pin))
      where
        as_is : (p d : ℕ) → d ≡ p → p ≤ d
        as_is p d is = omega (arith, is)

        same_word : word_in (set_at (c k).threads t (Some (after_quiet at.from at.local)) z) (c k).words ≡ word_in ((c k).threads z) (c k).words
        same_word = elim (same_or_other z t) [
          | inl own ↦ ap (λ n. word_in (set_at (c k).threads t (Some (after_quiet at.from at.local)) n) (c k).words) own
              ∙ ap (λ o. word_in o (c k).words) (set_at-hit (c k).threads t (Some (after_quiet at.from at.local)))
              ∙ sym (ap (λ o. word_in o (c k).words) at.stands) ∙ ap (λ n. word_in ((c k).threads n) (c k).words) (sym own)
          | inr other ↦ ap (λ o. word_in o (c k).words) (set_at-other (c k).threads t (Some (after_quiet at.from at.local)) z other)
        ]

        same_pin : pinned_in (set_at (c k).threads t (Some (after_quiet at.from at.local)) z) (c k).words ≡ pinned_in ((c k).threads z) (c k).words
        same_pin = elim (same_or_other z t) [
          | inl own ↦ ap (λ n. pinned_in (set_at (c k).threads t (Some (after_quiet at.from at.local)) n) (c k).words) own
              ∙ ap (λ o. pinned_in o (c k).words) (set_at-hit (c k).threads t (Some (after_quiet at.from at.local)))
              ∙ sym (ap (λ o. pinned_in o (c k).words) at.stands) ∙ ap (λ n. pinned_in ((c k).threads n) (c k).words) (sym own)
          | inr other ↦ ap (λ o. pinned_in o (c k).words) (set_at-other (c k).threads t (Some (after_quiet at.from at.local)) z other)
        ]

    beside_thread : (t : ℕ) (step : Step) (a : StepAnswer) → slice_get acts k ≡ Some (beside t step a) → BesideAt c k t step a → Counted (c k) → (z : ℕ) → (o : Option (ThreadState S)) → (c k).threads z ≡ o
        → TurnTo k z (c k) (record (c k) { words = words_after step (c k).words })
    beside_thread t step a here at counted z None is =
        let none : (w : Words) → revoked_by (word_in ((c k).threads z) w) ≡ None = λ w. ap (λ o. revoked_by (word_in o w)) is in
        calm_turn k ((c k).levels z) ((c k).levels z) _ _ _ _ (Revokes k z) (Undoes k z) refl (none (words_after step (c k).words) ∙ sym (none (c k).words)) (inl (counted.nobody z is))
        (λ n at_n. none_some n (sym (none (c k).words) ∙ at_n))
    beside_thread t step a here at counted z (Some zh) is =
        turn_there k z ((c k).threads z) ((c k).threads z) zh zh ((c k).levels z) ((c k).levels z) ((c k).levels z) (c k).words (words_after step (c k).words) is is refl
        (other_turn (view code zh) (c k).words (words_after step (c k).words) k ((c k).levels z) (Revokes k z) (Undoes k z)
        (λ none. empty ((c k).levels z) (counted.there z zh is ∙ no_levels zh (known.fit z zh is).kept none)) (counted.there z zh is) (own_of_thread z zh is)
        (λ some. beside_word (Revokes k z) step (c k).words zh.section at.is
        (λ v n breaks done. (zh, is, (t, v, inr (here ∙ ap (λ st. Some (beside t st a)) breaks ∙ ap (λ an. Some (beside t (BreakLevel zh.section v n) an)) (at.answered ∙ done)))))))

    act_counted : (act : Act) → slice_get acts k ≡ Some act → ActAt code b c k act → Counted (c k) → Counted (c (suc k))
    act_counted (quiet t) here at counted = quiet_counted t at counted
    act_counted (did t step a) here at counted = did_counted t step a here at counted
    act_counted (beside t step a) here at counted = beside_counted t step a at counted

    act_turn : (act : Act) → slice_get acts k ≡ Some act → ActAt code b c k act → Counted (c k) → (z : ℕ) → TurnTo k z (c k) (c (suc k))
    act_turn (quiet t) here at counted z = quiet_turn t at z
    act_turn (did t step a) here at counted z = did_turn t step a here at counted z
    act_turn (beside t step a) here at counted z = subst (TurnTo k z (c k)) (sym at.leads) (beside_thread t step a here at counted z ((c k).threads z) refl)

  first_counted : Counted (c 0)
  first_counted = record {
    there = λ t th at. ap length (run.closed t) ∙ ap (λ (x : ThreadState S). x.levels) (sym (is_run.begins.threads t th at).3);
    nobody = λ t none. run.closed t;
  }

  pub counted_at : (k : ℕ) → k ≤ length acts → Counted (c k)
  counted_at k within =
      along code b c acts is_run.leads (λ n. Counted (c n)) first_counted (λ n act here at before. act_counted n (slice_get_within acts n act here) act here at before) k within

  pub turn_at : (k z : ℕ) → k < length acts → TurnTo k z (c k) (c (suc k))
  turn_at k z within =
      let here = get_some acts k within in
      act_turn k within here.0 here.1 (act_at code b c acts k here.0 is_run.leads here.1) (counted_at k (below k (length acts) within)) z
    where
      below : (m n : ℕ) → m < n → m ≤ n
      below m n is = omega (arith, is)

pub levels_are_counted : {S : Type 0} (code : Code S) → LevelsAreCounted code
levels_are_counted code b first classes c acts run k t th within at = (counted_at code b first classes c acts run k within).there t th at
