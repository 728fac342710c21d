-- What is gone once a section is undone as a whole.
use Rattle.std.proofs.Common.{◌≡◌, inl, inr, ℕ, suc, ◌-◌, ◌<◌, ◌≤◌, Option, Some, List, [], ◌∷◌, length, refl, sym, ◌∙◌, ap, subst, arith}
use Rattle.std.specs.Prelude.{slice_get}
use Rattle.std.proofs.lemmas.Option.{same_Some, slice_get_within}
use Rattle.op_core.specs.ThreadCode.{Code}
use Rattle.section_state.specs.SectionWord.{revoke_of}
use Rattle.step_port.specs.declared.answer.StepAnswer.TheVariants.{Done}
use Rattle.step_port.specs.declared.step.Step.TheVariants.{OpenSection, MarkUndone}
use Rattle.thread_automaton.specs.declared.Bounds.{Bounds}
use Rattle.thread_automaton.specs.declared.Attempt.{Attempt}
use Rattle.thread_automaton.specs.declared.Attempt.TheVariants.{Undoing}
use Rattle.thread_automaton.specs.ThreadState.{ThreadState}
use Rattle.core_runs.specs.Cores.{Core, outermost}
use Rattle.core_runs.specs.Acts.{Act, did, mover}
use Rattle.core_runs.specs.Revoked.{RevokesAt, levels_from, IsDoomed}
use Rattle.section_laws.specs.LevelRun.{is_undone, LevelAt, In, IsDoomedAt, GoesBackAt}
use Rattle.section_laws.proofs.level_runs.LevelLemmas.{open_since, were_doomed}
use Rattle.section_laws.specs.Runs.{IsRun}
use Rattle.section_laws.proofs.InRunLemmas.{is_in_list}
use Rattle.section_laws.proofs.SectionLemmas.{sections_open_once}
use Rattle.section_laws.proofs.RunLemmas.{facts_at}
use Rattle.section_laws.proofs.own_sections.SeenLemmas.{undoing_seen}
use Rattle.section_laws.proofs.own_sections.MoveLemmas.{own_at}
use Rattle.section_laws.specs.Levels.{IsLevelledRun, levels_in, revoked_in, UndoesAt, RunsInLevels}
use Rattle.section_laws.proofs.section_levels.RowLemmas.{outermost_none}
use Rattle.section_laws.proofs.section_levels.RunLemmas.{counted_at}
use Rattle.section_laws.proofs.section_levels.LevelLemmas.{at_place, runs_in_levels, has_section}
use Rattle.written_words.specs.Writers.{AreLevelsOf}
use Rattle.written_words.proofs.LevelLemmas.{levels_at, some_levels, opened_before}
use Rattle.written_words.proofs.PlaceLemmas.{place_in, index_of, outermost_one, outermost_place, outermost_opens, one_thread}

abbrev marked_section : Option Act → ℕ
marked_section (Some (did t (MarkUndone s w) a)) = s
marked_section act = 0

abbrev seen_word : Attempt → ℕ
seen_word (Undoing w) = w
seen_word attempt = 0

module _ {S : Type 0} (code : Code S) (b : Bounds) (first : S) (classes : ℕ) (c : ℕ → Core S) (acts : List Act) (run : IsLevelledRun code b first classes c acts) where
  ran : IsRun code b c acts
  ran = run.ordered.run

  abbrev pub runs : (t : ℕ) → RunsInLevels c acts t
  runs t = runs_in_levels code b first classes c acts run t

  pub here_is : (k : ℕ) → k ≤ length acts → (t : ℕ) → levels_in c acts t k ≡ (c k).levels t
  here_is k low t = ap (λ (core : Core S). core.levels t) (at_place code b first classes c acts run k low)

  pub revokes_within : {j s n : ℕ} → RevokesAt acts j s n → j < length acts
  revokes_within {j} (u, old, is) = elim is [ inl here ↦ slice_get_within acts j _ here | inr here ↦ slice_get_within acts j _ here ]

  -- what is revoked in the run of levels of a thread is so by an act
  pub doomed_of : (t q : ℕ) → IsDoomedAt (levels_in c acts t) (runs t).act q → IsDoomed c acts q
  doomed_of t q there =
      let by = (runs t).revokes there.0 there.1 there.2 in
      let is = index_of q (levels_from there.1 ((c there.0).levels t)) (subst (λ l. In q (levels_from there.1 l)) (here_is there.0 (before there.0 (revokes_within by.2)) t) there.3) in
      record {
        place = there.0;
        section = by.0.section;
        level = there.1;
        revokes = by.2;
        thread = t;
        th = by.0;
        stands = by.1;
        own = refl;
        was_open = is_in_list (levels_from there.1 ((c there.0).levels t)) is.0 q is.1;
      }
    where
      before : {n : ℕ} (m : ℕ) → m < n → m ≤ n
      before m low = omega (arith, low)

  module _ (k t s w : ℕ) (here : slice_get acts k ≡ Some (did t (MarkUndone s w) Done)) where
    pub within : k < length acts
    within = slice_get_within acts k (did t (MarkUndone s w) Done) here

    pub up : k ≤ length acts
    up = let low = within in omega (arith, low)

    abbrev pub level : ℕ
    level = ((runs t).notes k s w here).0

    pub act_is : (runs t).act k ≡ is_undone level
    act_is = ((runs t).notes k s w here).1

    pub undoes : UndoesAt c acts k t level
    undoes = (runs t).undoes k level act_is

    pub leaves : LevelAt (levels_in c acts t) (revoked_in c acts t) k (is_undone level)
    leaves = subst (LevelAt (levels_in c acts t) (revoked_in c acts t) k) act_is ((runs t).is_run.2 k)

    pub own_section : undoes.th.section ≡ s
    own_section = ap marked_section (sym undoes.notes ∙ here)

    pub levels_are : AreLevelsOf c acts t s ((c k).levels t)
    levels_are = subst (λ n. AreLevelsOf c acts t n ((c k).levels t)) own_section (levels_at code b first classes c acts run k up t undoes.th undoes.stands)

    pub some_open : 0 < length ((c k).levels t)
    some_open = above undoes.th.pinned (revoke_of undoes.word) undoes.th.levels (length ((c k).levels t)) seen.0 seen.1 ((counted_at code b first classes c acts run k up).there t undoes.th undoes.stands)
      where
        seen : (undoes.th.pinned < revoke_of undoes.word) × (revoke_of undoes.word ≤ undoes.th.levels)
        seen = undoing_seen code undoes.th (c k).words (own_at code b c acts ran run.ordered.in_bits k up t undoes.th undoes.stands)
            ((facts_at code b c acts ran k up).fit t undoes.th undoes.stands) undoes.word undoes.undoing

        above : (p r l n : ℕ) → p < r → r ≤ l → n ≡ l → 0 < n
        above p r l n deep low same = omega (arith, deep, low, same)

    pub some_section : 0 < s
    some_section =
        let last = outermost_place ((c k).levels t) some_open in
        subst (λ n. 0 < n) own_section (has_section code b first classes c acts run k t last.0 undoes.th up undoes.stands (place_in (length ((c k).levels t) - 1) last.0 ((c k).levels t) last.1))

    -- a writer of this section is levels of this thread
    pub own_writer : (u : ℕ) (levels writer : List ℕ) → 0 < length levels → AreLevelsOf c acts t s levels → 0 < length writer → AreLevelsOf c acts u s writer → u ≡ t
    own_writer u [] writer some are more its = absurd (no some)
      where
        no : 0 < 0 → ⊥
        no some = omega (arith, some)
    own_writer u (p ∷ levels) [] some are more its = absurd (no more)
      where
        no : 0 < 0 → ⊥
        no some = omega (arith, some)
    own_writer u (p ∷ levels) (q ∷ writer) some are more its = one_thread c acts (sections_open_once code b c acts ran) t u s p q levels writer are its

    -- it is undone to the level to which the thread saw it revoked
    pub undone_level : (seen : ℕ) (th : ThreadState S) → (c k).threads t ≡ Some th → th.attempt ≡ Undoing seen → level ≡ revoke_of seen
    undone_level seen th stands undoing = undoes.level
        ∙ ap revoke_of (ap seen_word (sym undoes.undoing ∙ ap (λ (x : ThreadState S). x.attempt) (same_Some undoes.th th (sym undoes.stands ∙ stands)) ∙ undoing))

    -- ---- where it undoes the section as a whole

    module _ (seen : ℕ) (th : ThreadState S) (stands : (c k).threads t ≡ Some th) (undoing : th.attempt ≡ Undoing seen) (whole : revoke_of seen ≡ 1) where
      one : level ≡ 1
      one = undone_level seen th stands undoing ∙ whole

      pub found : (q : ℕ) × (slice_get ((c k).levels t) (length ((c k).levels t) - 1) ≡ Some q)
      found = outermost_place ((c k).levels t) some_open

      abbrev pub q : ℕ
      q = found.0

      pub q_open : In q ((c k).levels t)
      q_open = place_in (length ((c k).levels t) - 1) q ((c k).levels t) found.1

      -- it opened the section
      pub q_opens : (x : ℕ) × (slice_get acts q ≡ Some (did t (OpenSection s x) Done))
      q_opens = outermost_opens c acts t s q ((c k).levels t) levels_are some_open found.1

      back : GoesBackAt (levels_in c acts t) (runs t).act k level q
      back = record {
        undoes = act_is;
        opened = ap (λ l. slice_get l (length l - level)) (here_is k up t) ∙ ap (λ n. slice_get ((c k).levels t) (length ((c k).levels t) - n)) one ∙ found.1;
      }

      doomed_there : IsDoomedAt (levels_in c acts t) (runs t).act q
      doomed_there = (were_doomed (levels_in c acts t) (revoked_in c acts t) (runs t).act (runs t).is_run k level q back).0

      pub doomed : IsDoomed c acts q
      doomed = doomed_of t q doomed_there

      -- that level isn't open later
      pub closed_later : (j : ℕ) → k < j → j ≤ length acts → In q ((c j).levels t) → ⊥
      closed_later j later low now = subst (In q) (leaves.0 ∙ ap (λ n. outermost (n - 1) (levels_in c acts t k)) one ∙ outermost_none (levels_in c acts t k))
          (open_since (levels_in c acts t) (revoked_in c acts t) (runs t).act (runs t).is_run q j (suc k) (next q k (opened_before code b first classes c acts run k t q up q_open)) (from k j later)
          (subst (In q) (sym (here_is j low t)) now))
        where
          next : (q k : ℕ) → q < k → q < suc k
          next q k low = omega (arith, low)

          from : (k j : ℕ) → k < j → suc k ≤ j
          from k j later = omega (arith, later)

      -- whatever are levels of the section, it is the outermost of them
      pub outermost_there : (u x : ℕ) (levels : List ℕ) → AreLevelsOf c acts u s (x ∷ levels) → (u ≡ t) × In q (x ∷ levels)
      outermost_there u x levels are =
          let out = outermost_one c acts u s x levels are in
          let same = sections_open_once code b c acts ran out.0 q u t s out.1 q_opens.0 out.2 q_opens.1 in
          (ap mover (sym out.2 ∙ ap (slice_get acts) same ∙ q_opens.1), subst (λ n. In n (x ∷ levels)) same out.3)

      -- so no thread has the section later
      pub section_gone : (j u : ℕ) (uh : ThreadState S) → k < j → j ≤ length acts → (c j).threads u ≡ Some uh → uh.section ≡ s → ⊥
      section_gone j u uh later low there is = by_levels ((c j).levels u) refl (some_levels code b first classes c acts run j u uh low there (subst (λ n. 0 < n) (sym is) some_section))
          (subst (λ n. AreLevelsOf c acts u n ((c j).levels u)) is (levels_at code b first classes c acts run j low u uh there))
        where
          by_levels : (levels : List ℕ) → (c j).levels u ≡ levels → 0 < length ((c j).levels u) → AreLevelsOf c acts u s ((c j).levels u) → ⊥
          by_levels [] none some are = no (length ((c j).levels u)) (ap length none) some
            where
              no : (n : ℕ) → n ≡ 0 → 0 < n → ⊥
              no n none some = omega (arith, none, some)
          by_levels (x ∷ levels) same some are =
              let out = outermost_there u x levels (subst (AreLevelsOf c acts u s) same are) in
              closed_later j later low (subst (λ n. In q ((c j).levels n)) out.0 (subst (In q) (sym same) out.1))
