-- What threads observe of words that were written in levels of others.
use Rattle.std.proofs.Common.{◌≡◌, ◌≢◌, ℕ, suc, ◌<◌, ◌≤◌, Bool, true, Option, None, Some, List, length, refl, sym, ◌∙◌, ap, subst, arith}
use Rattle.std.specs.Prelude.{slice_get}
use Rattle.std.proofs.lemmas.Option.{same_Some, slice_get_within}
use Rattle.op_core.specs.declared.Op.TheVariants.{Read}
use Rattle.op_core.specs.declared.Reply.TheVariants.{Value}
use Rattle.op_core.specs.ThreadCode.{Code}
use Rattle.heap_words.specs.declared.areas.Area.{Area}
use Rattle.heap_words.specs.Words.{tag_of, tag_section, tag_level, value_of}
use Rattle.step_port.specs.declared.answer.StepAnswer.{StepAnswer}
use Rattle.step_port.specs.declared.answer.StepAnswer.TheVariants.{Found}
use Rattle.step_port.specs.declared.step.Step.{Step}
use Rattle.step_port.specs.declared.step.Step.TheVariants.{LoadWord, SwapWord}
use Rattle.step_port.specs.Steps.{effect_of}
use Rattle.step_port.specs.Words.{CanAnswer, answer_of}
use Rattle.thread_automaton.specs.declared.Bounds.{Bounds}
use Rattle.thread_automaton.specs.ThreadState.{ThreadState}
use Rattle.thread_automaton.specs.NextMove.{word_place}
use Rattle.thread_automaton.specs.Checks.{is_safe}
use Rattle.thread_automaton.specs.Told.{advanced, told}
use Rattle.automaton_rows.proofs.RowLemmas.{answers_are_rows, words_can_answer}
use Rattle.core_runs.specs.Cores.{Core}
use Rattle.core_runs.specs.Acts.{Act, did, DidAt, mover}
use Rattle.core_runs.specs.Revoked.{IsDoomed}
use Rattle.section_laws.specs.LevelRun.{In}
use Rattle.section_laws.specs.Runs.{IsRun}
use Rattle.section_laws.proofs.WordLemmas.{exchanged}
use Rattle.section_laws.proofs.ClaimLemmas.{found_is}
use Rattle.section_laws.proofs.RunLemmas.{act_at, facts_at}
use Rattle.section_laws.proofs.section_levels.RunLemmas.{counted_at}
use Rattle.section_laws.proofs.section_levels.LevelLemmas.{has_section, doomed_levels_are_unpinned}
use Rattle.section_laws.proofs.open_sections.RunLemmas.{doomed_sections_are_open}
use Rattle.section_laws.specs.Layout.{IsWordPlace, FitsObjects}
use Rattle.written_words.specs.Noted.{heap_of}
use Rattle.written_words.proofs.noted_words.TurnLemmas.{SetsNoWord}
use Rattle.written_words.proofs.noted_words.StepLemmas.{IsSwap, safe_other}
use Rattle.written_words.proofs.noted_words.DidLemmas.{writer}
use Rattle.written_words.proofs.noted_words.RunLemmas.{noted_at}
use Rattle.written_words.proofs.settled_words.TurnLemmas.{calm, opens, closes, ends_all, undone, writes, puts}
use Rattle.written_words.proofs.settled_words.ReadLemmas.{ReadFinds, finds}
use Rattle.written_words.specs.Writers.{AreLevelsOf, writers}
use Rattle.written_words.specs.Tags.{IsWrittenRun}
use Rattle.written_words.specs.Undone.{Observes, reads, overwrites, ObservedLevelsStay}
use Rattle.written_words.proofs.LevelLemmas.{levels_at}
use Rattle.written_words.proofs.PlaceLemmas.{one_section, at_least, is_level}
use Rattle.written_words.proofs.settled_words.RoundLemmas as rounds
use Rattle.written_words.proofs.StepLemmas.{word_named}
use Rattle.written_words.proofs.TagLemmas.{of_section}
use Rattle.written_words.proofs.WrittenLemmas as written
use Rattle.written_words.proofs.RunLemmas.{written_at}
use Rattle.written_words.proofs.OpenLemmas.{open_at}

abbrev place_in_step : Step → ℕ
place_in_step (SwapWord p old new) = p
place_in_step step = 0

module _ {S : Type 0} (code : Code S) (b : Bounds) (is_thread : ℕ → Bool) (first : S) (classes : ℕ) (c : ℕ → Core S) (acts : List Act) (run : IsWrittenRun code b is_thread first classes c acts) where
  ran : IsRun code b c acts
  ran = run.tagged.monitors.levelled.ordered.run

  -- a level that is open is so by a thread that is there
  pub holder : (k u v : ℕ) → k ≤ length acts → In v ((c k).levels u) → (th : ThreadState S) × ((c k).threads u ≡ Some th)
  holder k u v within there = by_thread ((c k).threads u) refl
    where
      by_thread : (o : Option (ThreadState S)) → (c k).threads u ≡ o → (th : ThreadState S) × ((c k).threads u ≡ Some th)
      by_thread None is = absurd (subst (In v) ((counted_at code b first classes c acts run.tagged.monitors.levelled k within).nobody u is) there)
      by_thread (Some th) is = (th, is)

  -- A thread takes no word to be safe that was written in a level of another which is revoked.
  pub unsafe_there : (k t p v : ℕ) (th : ThreadState S) → k ≤ length acts → (c k).threads t ≡ Some th → IsWordPlace is_thread (c k).objects p → is_safe th (heap_of (c k).words p) ≡ true
      → In v ((writers c acts k).word p) → mover (slice_get acts v) ≢ t → IsDoomed c acts v → ⊥
  unsafe_there k t p v th within at word safe there other doomed =
      safe_other code b is_thread first classes c acts run.tagged k t u (suc (length ((c v).levels u))) (heap_of (c k).words p) th holds.0 within at holds.1 other
      (has_section code b first classes c acts run.tagged.monitors.levelled k u v holds.0 within holds.1 open_now)
      (doomed_sections_are_open code b first classes c acts run.tagged.monitors.levelled v k u holds.0 within holds.1 doomed open_now)
      (doomed_levels_are_unpinned code b first classes c acts run.tagged.monitors.levelled v (suc (length ((c v).levels u))) k u holds.0 within holds.1 doomed (is_level c acts u holds.0.section v ((c k).levels u) its_levels open_now)) (
        one.1,
        deep (suc (length ((c v).levels u))) (length ((writers c acts k).word p)) (tag_level (tag_of (heap_of (c k).words p)))
            (subst (λ n. suc (length ((c v).levels n)) ≤ length ((writers c acts k).word p)) one.0 (at_least c acts of.0 (tag_section (tag_of (heap_of (c k).words p))) v ((writers c acts k).word p) of.1 there)) of.2,
      ) safe
    where
      u : ℕ
      u = mover (slice_get acts v)

      open_now : In v ((c k).levels u)
      open_now = (open_at code b is_thread first classes c acts run k within).word p v there doomed

      holds : (uh : ThreadState S) × ((c k).threads u ≡ Some uh)
      holds = holder k u v within open_now

      its_levels : AreLevelsOf c acts u holds.0.section ((c k).levels u)
      its_levels = levels_at code b first classes c acts run.tagged.monitors.levelled k within u holds.0 holds.1

      of : (w : ℕ) × AreLevelsOf c acts w (tag_section (tag_of (heap_of (c k).words p))) ((writers c acts k).word p) × (tag_level (tag_of (heap_of (c k).words p)) ≡ length ((writers c acts k).word p))
      of = of_section c acts ((writers c acts k).word p) (tag_of (heap_of (c k).words p)) v ((written_at code b is_thread first classes c acts run k within).says p word) there

      one : (of.0 ≡ u) × (tag_section (tag_of (heap_of (c k).words p)) ≡ holds.0.section)
      one = one_section c acts of.0 (tag_section (tag_of (heap_of (c k).words p))) u holds.0.section v ((writers c acts k).word p) ((c k).levels u) of.1 there its_levels open_now

      deep : (d w l : ℕ) → d ≤ w → l ≡ w → d ≤ l
      deep d w l low is = omega (arith, low, is)

  module _ (k t p : ℕ) (step : Step) (a : StepAnswer) (th : ThreadState S) (here : slice_get acts k ≡ Some (did t step a)) (there : (c k).threads t ≡ Some th) where
    within : k < length acts
    within = slice_get_within acts k (did t step a) here

    up : k ≤ length acts
    up = let low = within in omega (arith, low)

    at : DidAt code b c k t step a
    at = act_at code b c acts k (did t step a) ran.leads here

    same : at.from ≡ th
    same = same_Some at.from th (sym at.stands ∙ there)

    -- what is read or overwritten is safe, and is a word of an object
    safe_there : Observes code b th step a p → IsWordPlace is_thread (c k).objects p × (is_safe th (heap_of (c k).words p) ≡ true)
    safe_there (reads r i x wants seen place) = (
      subst (IsWordPlace is_thread (c k).objects) (sym place) (word_named is_thread (c k).objects r i all_fit.1 all_fit.2),
      subst (λ n. is_safe th (heap_of (c k).words n) ≡ true) (sym place) (subst (λ n. is_safe th n ≡ true) (word read) read.3),
    )
      where
        all_fit : FitsObjects is_thread (c k).objects (Read r i)
        all_fit = run.tagged.laid.wants k t th (Read r i) within there wants

        read : (w : ℕ) × (step ≡ LoadWord (word_place r i)) × (a ≡ Found w) × (is_safe th w ≡ true) × (x ≡ value_of w)
        read = subst (λ n. ReadFinds th (advanced (Some (Value x))) n step a) wants (subst (λ m. ReadFinds th m (code.next th.local) step a) seen
            (subst (λ (z : ThreadState S). ReadFinds z (told code b z step a) (code.next z.local) step a) same
            (finds code b at.from (answers_are_rows code b at.from step a ((facts_at code b c acts ran k up).fit t at.from at.stands).attempt at.move
            (subst (CanAnswer (effect_of step)) (sym at.answered) (words_can_answer (c k).words step))))))

        word : (found : (w : ℕ) × (step ≡ LoadWord (word_place r i)) × (a ≡ Found w) × (is_safe th w ≡ true) × (x ≡ value_of w)) → found.0 ≡ heap_of (c k).words (word_place r i)
        word found = found_is found.0 (heap_of (c k).words (word_place r i)) (sym found.2 ∙ at.answered ∙ ap (answer_of (c k).words) found.1)
    safe_there (overwrites old new sets done) = (
      placed,
      subst (λ n. is_safe th n ≡ true) (sym (exchanged (c k).words (Area.Object p) old new (sym done ∙ at.answered ∙ ap (answer_of (c k).words) sets)).found)
          (subst (λ (z : ThreadState S). is_safe z old ≡ true) same (writer code b is_thread first classes c acts run.tagged k t step a here at (noted_at code b is_thread first classes c acts run.tagged k up) p old new sets done)),
    )
      where
        not_none : {P : Type 0} → SetsNoWord step a → P
        not_none none = absurd (subst (SetsNoWord (SwapWord p old new)) done (subst (λ s. SetsNoWord s a) sets none))

        placed : IsWordPlace is_thread (c k).objects p
        placed = elim (rounds.turn code b is_thread first classes c acts run.tagged k t step a here at) [
          | calm none unseen stay leaves ↦ not_none none
          | opens silents held none unseen stay leaves ↦ not_none none
          | closes n none unseen other stay leaves ↦ not_none none
          | ends_all none unseen other stay ↦ not_none none
          | undone w s x none unseen undoing is noted stay leaves ↦ not_none none
          | writes r i x was wants swaps also seen stay log marks ↦ subst (IsWordPlace is_thread (c k).objects) (ap place_in_step (sym swaps ∙ sets))
              (written.placed_word code b is_thread first classes c acts run.tagged k t step a here at (written_at code b is_thread first classes c acts run k up) r i x was wants swaps also log)
          | puts w q o undoing restores does unseen stay log marks ↦ absurd (subst IsSwap (sym sets ∙ restores) tt)
        ]

    pub observed : (v : ℕ) → Observes code b th step a p → In v ((writers c acts k).word p) → mover (slice_get acts v) ≢ t → IsDoomed c acts v → ⊥
    observed v sees has_it other doomed = let safe = safe_there sees in unsafe_there k t p v th up there safe.0 safe.1 has_it other doomed

pub observed_levels_stay : {S : Type 0} (code : Code S) → ObservedLevelsStay code
observed_levels_stay code b is_thread first classes c acts run k t p v step a th here there sees has_it other doomed =
    observed code b is_thread first classes c acts run k t p step a th here there v sees has_it other doomed
