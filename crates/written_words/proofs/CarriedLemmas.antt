-- No tag names a section that is undone.
use Rattle.std.proofs.Common.{◌≡◌, ◌≢◌, ◌⊎◌, inl, inr, ℕ, zero, suc, ◌-◌, ◌<◌, ◌≤◌, Bool, false, None, Some, List, [], ◌∷◌, length, nat_eq, refl, sym, ◌∙◌, ap, subst, arith}
use Rattle.std.specs.Prelude.{slice_get, if◌then◌else◌}
use Rattle.std.proofs.lemmas.Grind.{common_steps}
use Rattle.std.proofs.lemmas.Bool.Decides.{nat_tests}
use Rattle.std.proofs.lemmas.Option.{slice_get_within}
use Rattle.op_core.specs.ThreadCode.{Code}
use Rattle.heap_words.specs.declared.areas.Area.TheVariants.{Section}
use Rattle.heap_words.specs.Words.{tag_of, tag_section}
use Rattle.section_state.specs.SectionWord.{state_of, revoke_of}
use Rattle.step_port.specs.declared.answer.StepAnswer.TheVariants.{Done}
use Rattle.step_port.specs.declared.step.Step.TheVariants.{OpenSection}
use Rattle.thread_automaton.specs.declared.Bounds.{Bounds}
use Rattle.thread_automaton.specs.ThreadState.{ThreadState}
use Rattle.core_runs.specs.Cores.{Core}
use Rattle.core_runs.specs.Acts.{Act, did, mover}
use Rattle.core_runs.specs.Revoked.{IsDoomed}
use Rattle.section_laws.specs.LevelRun.{In}
use Rattle.section_laws.proofs.level_runs.LevelLemmas.{RevokedBefore, revoked_before}
use Rattle.section_laws.specs.Runs.{IsRun}
use Rattle.section_laws.proofs.ActLemmas.{take_whole}
use Rattle.section_laws.proofs.WordLemmas.{state_of_zero}
use Rattle.section_laws.proofs.SectionLemmas.{sections_open_once, zero_no_section}
use Rattle.section_laws.proofs.RunLemmas.{along}
use Rattle.section_laws.specs.OwnWords.{IsInBits}
use Rattle.section_laws.proofs.own_sections.MoveLemmas.{moves_at, own_words_are_known}
use Rattle.section_laws.specs.Levels.{word_in, revoked_by, levels_in, revoked_in}
use Rattle.section_laws.proofs.section_levels.TurnLemmas.{turned}
use Rattle.section_laws.proofs.section_levels.LevelLemmas.{at_place, runs_in_levels, has_section}
use Rattle.section_laws.specs.OpenSections.{IsOpenBy}
use Rattle.section_laws.proofs.open_sections.RunLemmas.{open_sections_have_threads}
use Rattle.section_laws.specs.Layout.{IsWordPlace}
use Rattle.written_words.specs.Noted.{heap_of}
use Rattle.written_words.proofs.noted_words.TagLemmas.{section_of_none}
use Rattle.written_words.specs.Writers.{AreLevelsOf, writers}
use Rattle.written_words.specs.Tags.{IsWrittenRun, TagSays}
use Rattle.written_words.specs.Undone.{TagsNameNoUndoneSection}
use Rattle.written_words.proofs.LevelLemmas.{levels_at, some_levels}
use Rattle.written_words.proofs.PlaceLemmas.{outermost_one, one_section}
use Rattle.written_words.proofs.KnownRunLemmas.{not_four, move_undone, stays_undone, turns_undone}
use Rattle.written_words.proofs.RunLemmas.{written_at}
use Rattle.written_words.proofs.OpenLemmas.{open_at}
use Rattle.written_words.proofs.ObservedLemmas.{holder}
use Rattle.written_words.proofs.GoneLemmas as gone

module _ {S : Type 0} (code : Code S) (b : Bounds) (is_thread : ℕ → Bool) (first : S) (classes : ℕ) (c : ℕ → Core S) (acts : List Act) (run : IsWrittenRun code b is_thread first classes c acts) where
  ran : IsRun code b c acts
  ran = run.tagged.monitors.levelled.ordered.run

  in_bits : IsInBits c acts
  in_bits = run.tagged.monitors.levelled.ordered.in_bits

  -- a section that is undone was revoked as a whole before
  record WasRevoked (k s : ℕ) : Type 0 where
    place : ℕ
    within : place ≤ length acts
    state : state_of ((c place).words (Section s)) ≡ 3
    whole : revoke_of ((c place).words (Section s)) ≡ 1

  was_revoked : (k : ℕ) → k ≤ length acts → (s : ℕ) → state_of ((c k).words (Section s)) ≡ 4 → WasRevoked k s
  was_revoked k within = along code b c acts ran.leads (λ n. (s : ℕ) → state_of ((c n).words (Section s)) ≡ 4 → WasRevoked n s)
      (λ s four. not_four (state_of ((c 0).words (Section s))) 0 four (ap state_of (ran.begins.sections s) ∙ state_of_zero) (omega arith))
      (λ n act here at before s four. by_move n s (slice_get_within acts n act here) (before s) four) k within
    where
      up : {m : ℕ} (n : ℕ) → n < m → n ≤ m
      up n low = omega (arith, low)

      by_move : (n s : ℕ) → n < length acts → (state_of ((c n).words (Section s)) ≡ 4 → WasRevoked n s) → state_of ((c (suc n)).words (Section s)) ≡ 4 → WasRevoked (suc n) s
      by_move n s low before four = elim (move_undone ((c n).words (Section s)) ((c (suc n)).words (Section s)) (moves_at code b c acts ran in_bits n s low) four) [
        | stays_undone was same ↦ let was_so = before was in record { place = was_so.place; within = was_so.within; state = was_so.state; whole = was_so.whole }
        | turns_undone turned_now whole pinned ↦ record { place = n; within = up n low; state = turned_now; whole = whole }
      ]

  module _ (k p : ℕ) (within : k ≤ length acts) (word : IsWordPlace is_thread (c k).objects p) where
    -- the word was written in a level of its section, whose outermost one is q
    module _ (t q x : ℕ) (opens : slice_get acts q ≡ Some (did t (OpenSection (tag_section (tag_of (heap_of (c k).words p))) x) Done)) (there : In q ((writers c acts k).word p))
        (four : state_of ((c k).words (Section (tag_section (tag_of (heap_of (c k).words p))))) ≡ 4) where
      was : WasRevoked k (tag_section (tag_of (heap_of (c k).words p)))
      was = was_revoked k within (tag_section (tag_of (heap_of (c k).words p))) four

      by : IsOpenBy (c was.place) (tag_section (tag_of (heap_of (c k).words p)))
      by = open_sections_have_threads code b first classes c acts run.tagged.monitors.levelled was.place (tag_section (tag_of (heap_of (c k).words p))) was.within (inr was.state)

      some_section : 0 < tag_section (tag_of (heap_of (c k).words p))
      some_section = by_zero (tag_section (tag_of (heap_of (c k).words p))) refl
        where
          by_zero : (n : ℕ) → tag_section (tag_of (heap_of (c k).words p)) ≡ n → 0 < tag_section (tag_of (heap_of (c k).words p))
          by_zero zero is = not_four (state_of ((c k).words (Section (tag_section (tag_of (heap_of (c k).words p)))))) 0 four
              (ap (λ n. state_of ((c k).words (Section n))) is ∙ ap state_of (zero_no_section code b c acts ran k within) ∙ state_of_zero) (omega arith)
          by_zero (suc n) is = subst (λ m. 0 < m) (sym is) (omega arith)

      own : 0 < by.th.section
      own = subst (λ n. 0 < n) (sym by.own) some_section

      -- that level was open as the section was revoked as a whole
      open_then : (t ≡ by.thread) × In q ((c was.place).levels by.thread)
      open_then = by_levels ((c was.place).levels by.thread) refl (some_levels code b first classes c acts run.tagged.monitors.levelled was.place by.thread by.th was.within by.stands own)
          (subst (λ n. AreLevelsOf c acts by.thread n ((c was.place).levels by.thread)) by.own (levels_at code b first classes c acts run.tagged.monitors.levelled was.place was.within by.thread by.th by.stands))
        where
          by_levels : (levels : List ℕ) → (c was.place).levels by.thread ≡ levels → 0 < length ((c was.place).levels by.thread) → AreLevelsOf c acts by.thread (tag_section (tag_of (heap_of (c k).words p))) ((c was.place).levels by.thread)
              → (t ≡ by.thread) × In q ((c was.place).levels by.thread)
          by_levels [] none some are = absurd (no (length ((c was.place).levels by.thread)) (ap length none) some)
            where
              no : (n : ℕ) → n ≡ 0 → 0 < n → ⊥
              no n none some = omega (arith, none, some)
          by_levels (z ∷ levels) is some are =
              let out = outermost_one c acts by.thread (tag_section (tag_of (heap_of (c k).words p))) z levels (subst (AreLevelsOf c acts by.thread (tag_section (tag_of (heap_of (c k).words p)))) is are) in
              let one = sections_open_once code b c acts ran out.0 q by.thread t (tag_section (tag_of (heap_of (c k).words p))) out.1 x out.2 opens in
              (ap mover (sym opens ∙ ap (slice_get acts) (sym one) ∙ out.2), subst (In q) (sym is) (subst (λ n. In n (z ∷ levels)) one out.3))

      revoked : revoked_in c acts by.thread was.place ≡ Some 1
      revoked = ap (λ (core : Core S). revoked_by (word_in (core.threads by.thread) core.words)) (at_place code b first classes c acts run.tagged.monitors.levelled was.place was.within) ∙ ap (λ o. revoked_by (word_in o (c was.place).words)) by.stands
          ∙ ap (λ d. revoked_by (if d then None else Some ((c was.place).words (Section by.th.section)))) (not_zero by.th.section own) ∙ ap (λ n. revoked_by (Some ((c was.place).words (Section n)))) by.own
          ∙ turned ((c was.place).words (Section (tag_section (tag_of (heap_of (c k).words p))))) was.state ∙ ap Some was.whole
        where
          not_zero : (n : ℕ) → 0 < n → nat_eq n 0 ≡ false
          not_zero n some = grind (arith, common_steps, nat_tests)

      before : RevokedBefore (levels_in c acts by.thread) (revoked_in c acts by.thread) (runs_in_levels code b first classes c acts run.tagged.monitors.levelled by.thread).act (runs_in_levels code b first classes c acts run.tagged.monitors.levelled by.thread).is_run was.place 1
      before = revoked_before (levels_in c acts by.thread) (revoked_in c acts by.thread) (runs_in_levels code b first classes c acts run.tagged.monitors.levelled by.thread).act
          (runs_in_levels code b first classes c acts run.tagged.monitors.levelled by.thread).is_run was.place 1 revoked

      doomed : IsDoomed c acts q
      doomed = gone.doomed_of code b first classes c acts run.tagged.monitors.levelled by.thread q (
        before.place,
        1,
        before.act_is,
        subst (In q) (sym (take_whole (levels_in c acts by.thread before.place) (suc (length (levels_in c acts by.thread before.place)) - 1) (all (length (levels_in c acts by.thread before.place)))))
            (subst (In q) before.stays (subst (In q) (sym (gone.here_is code b first classes c acts run.tagged.monitors.levelled was.place was.within by.thread)) open_then.1)),
      )
        where
          all : (n : ℕ) → n ≤ suc n - 1
          all n = omega arith

      open_now : In q ((c k).levels t)
      open_now = subst (λ n. In q ((c k).levels n)) (ap mover opens) ((open_at code b is_thread first classes c acts run k within).word p q there doomed)

      -- so its thread has the section still, which isn't undone
      never : (u : ℕ) → AreLevelsOf c acts u (tag_section (tag_of (heap_of (c k).words p))) ((writers c acts k).word p) → ⊥
      never u are = by_state (state_of ((c k).words (Section th.0.section))) (ap (λ n. state_of ((c k).words (Section n))) same ∙ four)
          (own_words_are_known code b c acts ran in_bits k t th.0 within th.1 (has_section code b first classes c acts run.tagged.monitors.levelled k t q th.0 within th.1 open_now)).0.state
        where
          th : (uh : ThreadState S) × ((c k).threads t ≡ Some uh)
          th = holder code b is_thread first classes c acts run k t q within open_now

          same : th.0.section ≡ tag_section (tag_of (heap_of (c k).words p))
          same = (one_section c acts t th.0.section u (tag_section (tag_of (heap_of (c k).words p))) q ((c k).levels t) ((writers c acts k).word p)
              (levels_at code b first classes c acts run.tagged.monitors.levelled k within t th.0 th.1) open_now are there).1

          by_state : (n : ℕ) → n ≡ 4 → (n ≡ 1) ⊎ (n ≡ 3) ⊎ (n ≡ 5) → ⊥
          by_state n four (inl is) = omega (arith, four, is)
          by_state n four (inr (inl is)) = omega (arith, four, is)
          by_state n four (inr (inr is)) = omega (arith, four, is)

    not_undone : state_of ((c k).words (Section (tag_section (tag_of (heap_of (c k).words p))))) ≢ 4
    not_undone four = by_writer ((writers c acts k).word p) refl ((written_at code b is_thread first classes c acts run k within).says p word)
      where
        by_writer : (writer : List ℕ) → (writers c acts k).word p ≡ writer → TagSays c acts writer (tag_of (heap_of (c k).words p)) → ⊥
        by_writer [] is none = not_four (state_of ((c k).words (Section (tag_section (tag_of (heap_of (c k).words p)))))) 0 four
            (ap (λ n. state_of ((c k).words (Section n))) (ap tag_section none ∙ section_of_none) ∙ ap state_of (zero_no_section code b c acts ran k within) ∙ state_of_zero) (omega arith)
        by_writer (z ∷ writer) is says =
            let out = outermost_one c acts says.0 (tag_section (tag_of (heap_of (c k).words p))) z writer says.1 in
            never says.0 out.0 out.1 out.2 (subst (In out.0) (sym is) out.3) four says.0 (subst (AreLevelsOf c acts says.0 (tag_section (tag_of (heap_of (c k).words p)))) (sym is) says.1)

pub tags_name_no_undone_section : {S : Type 0} (code : Code S) → TagsNameNoUndoneSection code
tags_name_no_undone_section code b is_thread first classes c acts run k p within word = not_undone code b is_thread first classes c acts run k p within word
