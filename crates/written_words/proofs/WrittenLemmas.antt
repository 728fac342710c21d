-- What tags say of writers, with each step of a thread.
use Rattle.std.proofs.Common.{◌≡◌, ◌≢◌, ◌⊎◌, inl, inr, ℕ, suc, ◌^◌, ◌<◌, ◌≤◌, Bool, true, false, Some, List, [], ◌∷◌, length, take, drop, nat_eq, refl, sym, ◌∙◌, ap, subst, arith}
use Rattle.std.specs.Prelude.{nat_lt, slice_get, if◌then◌else◌}
use Rattle.std.proofs.lemmas.Grind.{common_steps}
use Rattle.std.proofs.lemmas.Bool.Decides.{nat_tests}
use Rattle.op_core.specs.declared.Op.TheVariants.{Write}
use Rattle.op_core.specs.declared.Next.TheVariants.{Want}
use Rattle.op_core.specs.ThreadCode.{Code}
use Rattle.op_core.proofs.PointwiseLemmas.{same_or_other, set_at-hit, set_at-other}
use Rattle.heap_words.specs.declared.areas.Area.{Area}
use Rattle.heap_words.specs.declared.areas.Area.TheVariants.{Section}
use Rattle.heap_words.specs.Words.{pack_tag, tag_of, tag_section, tag_level}
use Rattle.section_state.specs.SectionWord.{pinned_of, revoke_of}
use Rattle.write_log.specs.declared.Noted.{Noted}
use Rattle.step_port.specs.declared.answer.StepAnswer.{StepAnswer}
use Rattle.step_port.specs.declared.answer.StepAnswer.TheVariants.{Done}
use Rattle.step_port.specs.declared.step.Step.{Step}
use Rattle.step_port.specs.declared.step.Step.TheVariants.{SwapWord, RestoreWord}
use Rattle.step_port.specs.Steps.{place_of}
use Rattle.step_port.specs.Words.{Words, answer_of, words_after}
use Rattle.thread_automaton.specs.declared.Bounds.{Bounds}
use Rattle.thread_automaton.specs.ThreadState.{ThreadState, is_open, mark_of, from_level, nth_or}
use Rattle.thread_automaton.specs.NextMove.{word_place, deepened_since, undo_next}
use Rattle.thread_automaton.specs.Checks.{is_safe, written_word, noted}
use Rattle.thread_automaton.specs.Told.{after_answer}
use Rattle.automaton_rows.specs.Fits.{IsFit}
use Rattle.core_runs.specs.Cores.{Core}
use Rattle.core_runs.specs.Acts.{Act, did, DidAt}
use Rattle.section_laws.specs.LevelRun.{In}
use Rattle.section_laws.specs.Runs.{IsRun}
use Rattle.section_laws.proofs.ActLemmas.{take_whole}
use Rattle.section_laws.proofs.WordLemmas.{exchanged}
use Rattle.section_laws.proofs.SectionLemmas.{sections_open_once}
use Rattle.section_laws.proofs.RunLemmas.{facts_at}
use Rattle.section_laws.proofs.own_sections.MoveLemmas.{moves_at}
use Rattle.section_laws.specs.Known.{IsCommittedOrPinned}
use Rattle.section_laws.proofs.known_sections.KnownLemmas.{move_keeps, known_sections_are_pinned}
use Rattle.section_laws.proofs.section_levels.RunLemmas.{counted_at}
use Rattle.section_laws.specs.Layout.{IsWordPlace, FitsObjects}
use Rattle.section_laws.proofs.run_layout.ListLemmas as lists
use Rattle.section_laws.proofs.run_layout.PlaceLemmas.{put_object}
use Rattle.section_laws.proofs.run_layout.RunLemmas.{laid_at}
use Rattle.first_law.proofs.run_monitors.RunLemmas.{so_at}
use Rattle.written_words.specs.Noted.{IsTaggedRun, heap_of}
use Rattle.written_words.proofs.noted_words.TagLemmas.{PutsFirst, puts_first, tag_is, Safe, by_none, by_own, by_known, safe_so}
use Rattle.written_words.proofs.noted_words.TurnLemmas.{SetsNoWord}
use Rattle.written_words.proofs.noted_words.DidLemmas.{writer}
use Rattle.written_words.proofs.noted_words.RunLemmas.{noted_at}
use Rattle.written_words.specs.Writers.{AreLevelsOf, Writers, writers_after, log_of, writers}
use Rattle.written_words.specs.Tags.{TagSays, OldWordSays, OldWordsSay}
use Rattle.written_words.proofs.LevelLemmas.{levels_at, opened_before}
use Rattle.written_words.proofs.settled_words.RoundLemmas as rounds
use Rattle.written_words.proofs.StepLemmas as steps
use Rattle.written_words.proofs.StepLemmas.{word_named, sets_none, old_word, new_word}
use Rattle.written_words.proofs.TagLemmas.{zero_tag, untagged, says_own, old_length, old_first, old_later, own_levels, AreBefore, AllBefore, all_later, all_take, all_drop, all_first, IsHeader}

-- ---- along a run

module _ {S : Type 0} (code : Code S) (b : Bounds) (is_thread : ℕ → Bool) (first : S) (classes : ℕ) (c : ℕ → Core S) (acts : List Act) (run : IsTaggedRun code b is_thread first classes c acts) where
  ran : IsRun code b c acts
  ran = run.monitors.levelled.ordered.run

  -- tags say writers, what is no word of an object has none, and writers are of before
  pub record WrittenAt (k : ℕ) : Type 0 where
    pub says : (p : ℕ) → IsWordPlace is_thread (c k).objects p → TagSays c acts ((writers c acts k).word p) (tag_of (heap_of (c k).words p))
    pub placed : (p : ℕ) → ((writers c acts k).word p ≡ []) ⊎ IsWordPlace is_thread (c k).objects p
    pub before : (p : ℕ) → AreBefore k ((writers c acts k).word p)
    pub old : (u : ℕ) → OldWordsSay c acts (c k).words u (log_of ((c k).threads u)) ((writers c acts k).old u)
    pub old_before : (u : ℕ) → AllBefore k ((writers c acts k).old u)

  pub levels_before : (k t : ℕ) → k ≤ length acts → AreBefore k ((c k).levels t)
  levels_before k t low v there = opened_before code b first classes c acts run.monitors.levelled k t v low there

  pub on : (k : ℕ) → k < length acts → (s depth : ℕ) → IsCommittedOrPinned ((c k).words (Section s)) depth → IsCommittedOrPinned ((c (suc k)).words (Section s)) depth
  on k within s depth is = move_keeps ((c k).words (Section s)) ((c (suc k)).words (Section s)) depth (moves_at code b c acts ran run.monitors.levelled.ordered.in_bits k s within) is

  module _ (k t : ℕ) (step : Step) (a : StepAnswer) (here : slice_get acts k ≡ Some (did t step a)) (at : DidAt code b c k t step a) (so : WrittenAt k) where
    within : k < length acts
    within = rounds.within code b is_thread first classes c acts run k t step a here at

    up : k ≤ length acts
    up = rounds.up code b is_thread first classes c acts run k t step a here at

    abbrev y : ThreadState S
    y = after_answer code b at.from step a

    later : (v : ℕ) → v < k → v < suc k
    later v low = omega (arith, low)

    own_there : (c (suc k)).threads t ≡ Some (after_answer code b at.from step a)
    own_there = rounds.own_there code b is_thread first classes c acts run k t step a here at

    -- what is no word of an object has no writer
    unplaced : (p : ℕ) → (IsWordPlace is_thread (c k).objects p → ⊥) → (writers c acts k).word p ≡ []
    unplaced p not_word = elim (so.placed p) [ inl none ↦ none | inr word ↦ absurd (not_word word) ]

    -- the thread's log, and the writers of what is in it, make up what is so of them
    abbrev OwnOld : List Noted → List (List ℕ) → Type 0
    OwnOld log old = OldWordsSay c acts (c (suc k)).words t log old

    all_old : OwnOld y.log ((writers c acts (suc k)).old t) → (u : ℕ) → OldWordsSay c acts (c (suc k)).words u (log_of ((c (suc k)).threads u)) ((writers c acts (suc k)).old u)
    all_old own u = elim (same_or_other u t) [
      | inl same ↦ subst (λ n. OldWordsSay c acts (c (suc k)).words n (log_of ((c (suc k)).threads n)) ((writers c acts (suc k)).old n)) (sym same)
          (subst (λ o. OldWordsSay c acts (c (suc k)).words t (log_of o) ((writers c acts (suc k)).old t)) (sym own_there) own)
      | inr other ↦ subst (λ log. OldWordsSay c acts (c (suc k)).words u log ((writers c acts (suc k)).old u)) (sym (steps.others_log code b is_thread first classes c acts run k t step a here at u other))
          (subst (OldWordsSay c acts (c (suc k)).words u (log_of ((c k).threads u))) (sym (steps.others_old code b is_thread first classes c acts run k t step a here at u other))
          (old_later c acts (c k).words (c (suc k)).words u (log_of ((c k).threads u)) ((writers c acts k).old u) (on k within) (so.old u)))
    ]

    all_before : AllBefore (suc k) ((writers c acts (suc k)).old t) → (u : ℕ) → AllBefore (suc k) ((writers c acts (suc k)).old u)
    all_before own u = elim (same_or_other u t) [
      | inl same ↦ subst (λ n. AllBefore (suc k) ((writers c acts (suc k)).old n)) (sym same) own
      | inr other ↦ subst (AllBefore (suc k)) (sym (steps.others_old code b is_thread first classes c acts run k t step a here at u other)) (all_later k ((writers c acts k).old u) (so.old_before u))
    ]

    own_old : OldWordsSay c acts (c k).words t at.from.log ((writers c acts k).old t)
    own_old = subst (λ o. OldWordsSay c acts (c k).words t (log_of o) ((writers c acts k).old t)) at.stands (so.old t)

    own_later : OwnOld at.from.log ((writers c acts k).old t)
    own_later = old_later c acts (c k).words (c (suc k)).words t at.from.log ((writers c acts k).old t) (on k within) own_old

    -- ---- no word is overwritten or put back

    module _ (none : SetsNoWord step a) where
      pub word_same : (p : ℕ) → (writers c acts (suc k)).word p ≡ (writers c acts k).word p
      word_same p = ap (λ (w : Writers). w.word p) (steps.writers_then code b is_thread first classes c acts run k t step a here at)
          ∙ ap (λ (f : ℕ → List ℕ). f p) (sets_none t (length y.log) ((c k).levels t) step a (writers c acts k) none).0

      pub old_same : (writers c acts (suc k)).old t ≡ take (length y.log) ((writers c acts k).old t)
      old_same = ap (λ (w : Writers). w.old t) (steps.writers_then code b is_thread first classes c acts run k t step a here at)
          ∙ ap (λ (f : ℕ → List (List ℕ)). f t) (sets_none t (length y.log) ((c k).levels t) step a (writers c acts k) none).1
          ∙ set_at-hit (writers c acts k).old t (take (length y.log) ((writers c acts k).old t))

      -- where the log stays, so do the writers of what is in it
      pub old_kept : y.log ≡ at.from.log → (writers c acts (suc k)).old t ≡ (writers c acts k).old t
      old_kept same = old_same ∙ ap (λ l. take (length l) ((writers c acts k).old t)) same
          ∙ take_whole ((writers c acts k).old t) (length at.from.log) (low (old_length c acts (c k).words t at.from.log ((writers c acts k).old t) own_old))
        where
          low : {m n : ℕ} → m ≡ n → m ≤ n
          low is = omega (arith, is)

      kept_old : (y.log ≡ at.from.log) ⊎ (y.log ≡ []) → OwnOld y.log ((writers c acts (suc k)).old t)
      kept_old (inl same) = subst (OwnOld y.log) (sym (old_kept same)) (subst (λ l. OwnOld l ((writers c acts k).old t)) (sym same) own_later)
      kept_old (inr gone) = subst (OwnOld y.log) (sym (old_same ∙ ap (λ l. take (length l) ((writers c acts k).old t)) gone)) (subst (λ l. OwnOld l []) (sym gone) tt)

      pub calm_written : (y.log ≡ at.from.log) ⊎ (y.log ≡ []) → WrittenAt (suc k)
      calm_written log = record {
        says = λ p word. elim (steps.came code b is_thread first classes c acts run k t step a here at p word) [
          | old_word was ↦ subst (TagSays c acts ((writers c acts (suc k)).word p)) (ap tag_of (sym (rounds.same_word code b is_thread first classes c acts run k t step a here at none p was)))
              (subst (λ w. TagSays c acts w (tag_of (heap_of (c k).words p))) (sym (word_same p)) (so.says p was))
          | new_word r v sets not_was is_zero ↦ subst (λ w. TagSays c acts w (tag_of (heap_of (c (suc k)).words p))) (sym (word_same p ∙ unplaced p not_was)) (ap tag_of is_zero ∙ zero_tag)
        ];
        placed = λ p. elim (so.placed p) [ inl none ↦ inl (word_same p ∙ none) | inr word ↦ inr (steps.word_stays code b is_thread first classes c acts run k t step a here at p word) ];
        before = λ p v there. later v (so.before p v (subst (In v) (word_same p) there));
        old = all_old (kept_old log);
        old_before = all_before (subst (AllBefore (suc k)) (sym old_same) (all_take (length y.log) (suc k) ((writers c acts k).old t) (all_later k ((writers c acts k).old t) (so.old_before t))));
      }

    fits : IsFit code at.from
    fits = (facts_at code b c acts ran k up).fit t at.from at.stands

    levels_own : AreLevelsOf c acts t at.from.section ((c k).levels t)
    levels_own = levels_at code b first classes c acts run.monitors.levelled k up t at.from at.stands

    counted : length ((c k).levels t) ≡ at.from.levels
    counted = (counted_at code b first classes c acts run.monitors.levelled k up).there t at.from at.stands

    -- ---- a word is overwritten

    module _ (r i v old : ℕ) (wants : code.next at.from.local ≡ Want (Write r i v)) (sets : step ≡ SwapWord (word_place r i) old (written_word at.from v)) (done : a ≡ Done)
        (log : y.log ≡ noted at.from (word_place r i) old) where
      all_fit : FitsObjects is_thread (c k).objects (Write r i v)
      all_fit = run.laid.wants k t at.from (Write r i v) within at.stands wants

      pub placed_word : IsWordPlace is_thread (c k).objects (word_place r i)
      placed_word = word_named is_thread (c k).objects r i all_fit.1 all_fit.2

      pub found : heap_of (c k).words (word_place r i) ≡ old
      found = (exchanged (c k).words (Area.Object (word_place r i)) old (written_word at.from v) (sym done ∙ at.answered ∙ ap (answer_of (c k).words) sets)).found

      new : heap_of (c (suc k)).words (word_place r i) ≡ written_word at.from v
      new = rounds.heap_then code b is_thread first classes c acts run k t step a here at (word_place r i) ∙ ap (λ s. words_after s (c k).words (Area.Object (word_place r i))) sets
          ∙ ap (λ (z : Words). z (Area.Object (word_place r i))) (exchanged (c k).words (Area.Object (word_place r i)) old (written_word at.from v) (sym done ∙ at.answered ∙ ap (answer_of (c k).words) sets)).leaves
          ∙ put_object (c k).words (word_place r i) (written_word at.from v)

      pub swapped : writers c acts (suc k) ≡ writers_after t ((c k).levels t) (length y.log) (SwapWord (word_place r i) old (written_word at.from v)) Done (writers c acts k)
      swapped = steps.writers_then code b is_thread first classes c acts run k t step a here at ∙ ap (λ m. writers_after t ((c k).levels t) (length y.log) m a (writers c acts k)) sets
          ∙ ap (λ n. writers_after t ((c k).levels t) (length y.log) (SwapWord (word_place r i) old (written_word at.from v)) n (writers c acts k)) done

      pub written_here : (writers c acts (suc k)).word (word_place r i) ≡ (c k).levels t
      written_here = ap (λ (w : Writers). w.word (word_place r i)) swapped ∙ set_at-hit (writers c acts k).word (word_place r i) ((c k).levels t)

      pub unwritten_there : (p : ℕ) → p ≢ word_place r i → (writers c acts (suc k)).word p ≡ (writers c acts k).word p
      unwritten_there p other = ap (λ (w : Writers). w.word p) swapped ∙ set_at-other (writers c acts k).word (word_place r i) ((c k).levels t) p other

      pub old_more : (writers c acts (suc k)).old t ≡ take (length y.log) ((writers c acts k).word (word_place r i) ∷ (writers c acts k).old t)
      old_more = ap (λ (w : Writers). w.old t) swapped ∙ set_at-hit (writers c acts k).old t (take (length y.log) ((writers c acts k).word (word_place r i) ∷ (writers c acts k).old t))

      -- the word is logged with its writer, or nothing is
      pub old_noted : is_open at.from ≡ true → (y.log ≡ record { at = word_place r i; old = old } ∷ at.from.log) × ((writers c acts (suc k)).old t ≡ (writers c acts k).word (word_place r i) ∷ (writers c acts k).old t)
      old_noted open_so =
          let more : y.log ≡ record { at = word_place r i; old = old } ∷ at.from.log = log ∙ ap (λ z. if z then record { at = word_place r i; old = old } ∷ at.from.log else at.from.log) open_so in (
            more,
            old_more ∙ ap (λ l. take (length l) ((writers c acts k).word (word_place r i) ∷ (writers c acts k).old t)) more
                ∙ ap (λ o. (writers c acts k).word (word_place r i) ∷ o) (take_whole ((writers c acts k).old t) (length at.from.log) (low (old_length c acts (c k).words t at.from.log ((writers c acts k).old t) own_old))),
          )
        where
          low : {m n : ℕ} → m ≡ n → m ≤ n
          low is = omega (arith, is)

      old_shut : is_open at.from ≡ false → (y.log ≡ []) × ((writers c acts (suc k)).old t ≡ [])
      old_shut shut =
          let none : y.log ≡ [] = log ∙ ap (λ z. if z then record { at = word_place r i; old = old } ∷ at.from.log else at.from.log) shut ∙ fits.unlogged shut in
          (none, old_more ∙ ap (λ l. take (length l) ((writers c acts k).word (word_place r i) ∷ (writers c acts k).old t)) none)

      writes_own : TagSays c acts ((c k).levels t) (tag_of (written_word at.from v))
      writes_own = says_own c acts t at.from.section at.from.levels (tag_of (written_word at.from v)) ((c k).levels t) levels_own counted no_section
          (below_limit at.from.section b.limits.sections ((so_at code b first classes c acts run.monitors k up).0 t at.from at.stands).within run.sections)
          (tag_is v (pack_tag at.from.section at.from.levels) all_fit.0.2)
        where
          below_limit : (s l : ℕ) → s ≤ l → l < 2 ^ 24 → s < 2 ^ 24
          below_limit s l low high = omega (arith, low, high)

          zero_or : (n : ℕ) → nat_eq n 0 ≡ true → n ≡ 0
          zero_or n is = grind (arith, common_steps, nat_tests)

          is_zero : (n : ℕ) → n ≡ 0 → nat_eq n 0 ≡ true
          is_zero n is = grind (arith, common_steps, nat_tests)

          no_section : at.from.levels ≡ 0 → at.from.section ≡ 0
          no_section none = zero_or at.from.section (fits.kept.levels ∙ is_zero at.from.levels none)

      -- what the thread takes to be safe it may put back
      logs_safe : is_open at.from ≡ true → OldWordSays c acts (c k).words t ((writers c acts k).word (word_place r i)) (tag_of old)
      logs_safe open_so = record { says = says_old; safe = by_safe (safe_so at.from old is_safe_old) }
        where
          says_old : TagSays c acts ((writers c acts k).word (word_place r i)) (tag_of old)
          says_old = subst (λ n. TagSays c acts ((writers c acts k).word (word_place r i)) (tag_of n)) found (so.says (word_place r i) placed_word)

          is_safe_old : is_safe at.from old ≡ true
          is_safe_old = writer code b is_thread first classes c acts run k t step a here at (noted_at code b is_thread first classes c acts run k up) (word_place r i) old (written_word at.from v) sets done

          some_open : 0 < length ((c k).levels t)
          some_open = above at.from.pinned at.from.levels (length ((c k).levels t)) open_so counted
            where
              above : (p l n : ℕ) → nat_lt p l ≡ true → n ≡ l → 0 < n
              above p l n is same = grind (arith, common_steps, nat_tests)

          by_safe : Safe at.from (tag_of old) → AreLevelsOf c acts t (tag_section (tag_of old)) ((writers c acts k).word (word_place r i))
              ⊎ IsCommittedOrPinned ((c k).words (Section (tag_section (tag_of old)))) (tag_level (tag_of old))
          by_safe (by_none none) = inl (subst (AreLevelsOf c acts t (tag_section (tag_of old))) (sym (untagged c acts ((writers c acts k).word (word_place r i)) (tag_of old) says_old none)) tt)
          by_safe (by_own own) = inl (own_levels c acts (sections_open_once code b c acts ran) t at.from.section (tag_of old) ((c k).levels t) ((writers c acts k).word (word_place r i)) some_open levels_own says_old own)
          by_safe (by_known known low) = inr (less (subst (λ s. IsCommittedOrPinned ((c k).words (Section s)) at.from.known_depth) (sym known)
              (known_sections_are_pinned code b c acts ran run.monitors.levelled.ordered.in_bits k t at.from up at.stands)))
            where
              less : IsCommittedOrPinned ((c k).words (Section (tag_section (tag_of old)))) at.from.known_depth → IsCommittedOrPinned ((c k).words (Section (tag_section (tag_of old)))) (tag_level (tag_of old))
              less (inl committed) = inl committed
              less (inr pinned) = inr (under (tag_level (tag_of old)) at.from.known_depth (pinned_of ((c k).words (Section (tag_section (tag_of old))))) low pinned)
                where
                  under : (l d p : ℕ) → l ≤ d → d ≤ p → l ≤ p
                  under l d p low pinned = omega (arith, low, pinned)

      more_old : OwnOld y.log ((writers c acts (suc k)).old t)
      more_old = by_open (is_open at.from) refl
        where
          by_open : (z : Bool) → is_open at.from ≡ z → OwnOld y.log ((writers c acts (suc k)).old t)
          by_open true is =
              let more = old_noted is in
              subst (λ l. OwnOld l ((writers c acts (suc k)).old t)) (sym more.0) (subst (OwnOld (record { at = word_place r i; old = old } ∷ at.from.log)) (sym more.1)
              (old_later c acts (c k).words (c (suc k)).words t (record { at = word_place r i; old = old } ∷ at.from.log) ((writers c acts k).word (word_place r i) ∷ (writers c acts k).old t) (on k within) (logs_safe is, own_old)))
          by_open false is = let none = old_shut is in subst (λ l. OwnOld l ((writers c acts (suc k)).old t)) (sym none.0) (subst (OwnOld []) (sym none.1) tt)

      pub swap_written : WrittenAt (suc k)
      swap_written = record {
        says = λ p word. elim (same_or_other p (word_place r i)) [
          | inl same ↦ subst (λ n. TagSays c acts ((writers c acts (suc k)).word n) (tag_of (heap_of (c (suc k)).words n))) (sym same)
              (subst (λ w. TagSays c acts w (tag_of (heap_of (c (suc k)).words (word_place r i)))) (sym written_here) (subst (λ n. TagSays c acts ((c k).levels t) (tag_of n)) (sym new) writes_own))
          | inr other ↦ subst (λ w. TagSays c acts w (tag_of (heap_of (c (suc k)).words p))) (sym (unwritten_there p other))
              (subst (λ n. TagSays c acts ((writers c acts k).word p) (tag_of n)) (sym (rounds.elsewhere code b is_thread first classes c acts run k t step a here at (word_place r i) p (ap place_of sets) other))
              (so.says p (was p word)))
        ];
        placed = λ p. elim (same_or_other p (word_place r i)) [
          | inl same ↦ inr (subst (IsWordPlace is_thread (c (suc k)).objects) (sym same) (steps.word_stays code b is_thread first classes c acts run k t step a here at (word_place r i) placed_word))
          | inr other ↦ elim (so.placed p) [ inl none ↦ inl (unwritten_there p other ∙ none) | inr word ↦ inr (steps.word_stays code b is_thread first classes c acts run k t step a here at p word) ]
        ];
        before = λ p v there. elim (same_or_other p (word_place r i)) [
          | inl same ↦ later v (levels_before k t up v (subst (In v) (ap (writers c acts (suc k)).word same ∙ written_here) there))
          | inr other ↦ later v (so.before p v (subst (In v) (unwritten_there p other) there))
        ];
        old = all_old more_old;
        old_before = all_before (subst (AllBefore (suc k)) (sym old_more) (all_take (length y.log) (suc k) ((writers c acts k).word (word_place r i) ∷ (writers c acts k).old t)
            (all_later k ((writers c acts k).word (word_place r i) ∷ (writers c acts k).old t) (so.before (word_place r i), so.old_before t))));
      }
        where
          was : (p : ℕ) → IsWordPlace is_thread (c (suc k)).objects p → IsWordPlace is_thread (c k).objects p
          was p word = elim (steps.came code b is_thread first classes c acts run k t step a here at p word) [
            | old_word there ↦ there
            | new_word q w makes not_was is_zero ↦ absurd (subst IsHeader (sym makes ∙ sets) tt)
          ]

    -- ---- a word is put back

    module _ (w p o : ℕ) (sets : step ≡ RestoreWord p o) (does : undo_next at.from w (revoke_of w) ≡ RestoreWord p o) (log : y.log ≡ drop 1 at.from.log) where
      pub noted_first : PutsFirst (mark_of at.from (revoke_of w)).noted p o at.from.log
      noted_first = puts_first (mark_of at.from (revoke_of w)).noted at.from.section w p o at.from.log (deepened_since (mark_of at.from (revoke_of w)) at.from.held) (from_level (revoke_of w) at.from.held) does

      pub logged_word : IsWordPlace is_thread (c k).objects p
      logged_word = subst (IsWordPlace is_thread (c k).objects) noted_first.here
          ((laid_at code b is_thread c acts run.laid k up).0.logged t noted_first.x at.from at.stands (subst (lists.In noted_first.x) (sym noted_first.whole) (inl refl)))

      pub restored : writers c acts (suc k) ≡ writers_after t ((c k).levels t) (length y.log) (RestoreWord p o) a (writers c acts k)
      restored = steps.writers_then code b is_thread first classes c acts run k t step a here at ∙ ap (λ m. writers_after t ((c k).levels t) (length y.log) m a (writers c acts k)) sets

      pub put_here : (writers c acts (suc k)).word p ≡ nth_or [] 0 ((writers c acts k).old t)
      put_here = ap (λ (z : Writers). z.word p) restored ∙ set_at-hit (writers c acts k).word p (nth_or [] 0 ((writers c acts k).old t))

      pub put_nowhere : (q : ℕ) → q ≢ p → (writers c acts (suc k)).word q ≡ (writers c acts k).word q
      put_nowhere q other = ap (λ (z : Writers). z.word q) restored ∙ set_at-other (writers c acts k).word p (nth_or [] 0 ((writers c acts k).old t)) q other

      pub old_less : (writers c acts (suc k)).old t ≡ drop 1 ((writers c acts k).old t)
      old_less = ap (λ (z : Writers). z.old t) restored ∙ set_at-hit (writers c acts k).old t (drop 1 ((writers c acts k).old t))

      pub say_first : OldWordSays c acts (c k).words t (nth_or [] 0 ((writers c acts k).old t)) (tag_of noted_first.x.old) × OldWordsSay c acts (c k).words t (drop 1 at.from.log) (drop 1 ((writers c acts k).old t))
      say_first = old_first c acts (c k).words t noted_first.x (drop 1 at.from.log) ((writers c acts k).old t) (subst (λ l. OldWordsSay c acts (c k).words t l ((writers c acts k).old t)) noted_first.whole own_old)

      back : heap_of (c (suc k)).words p ≡ o
      back = rounds.heap_then code b is_thread first classes c acts run k t step a here at p ∙ ap (λ s. words_after s (c k).words (Area.Object p)) sets ∙ put_object (c k).words p o

      pub put_written : WrittenAt (suc k)
      put_written = record {
        says = λ q word. elim (same_or_other q p) [
          | inl same ↦ subst (λ n. TagSays c acts ((writers c acts (suc k)).word n) (tag_of (heap_of (c (suc k)).words n))) (sym same)
              (subst (λ z. TagSays c acts z (tag_of (heap_of (c (suc k)).words p))) (sym put_here) (subst (λ n. TagSays c acts (nth_or [] 0 ((writers c acts k).old t)) (tag_of n)) (noted_first.old ∙ sym back) say_first.0.says))
          | inr other ↦ subst (λ z. TagSays c acts z (tag_of (heap_of (c (suc k)).words q))) (sym (put_nowhere q other))
              (subst (λ n. TagSays c acts ((writers c acts k).word q) (tag_of n)) (sym (rounds.elsewhere code b is_thread first classes c acts run k t step a here at p q (ap place_of sets) other)) (so.says q (was q word)))
        ];
        placed = λ q. elim (same_or_other q p) [
          | inl same ↦ inr (subst (IsWordPlace is_thread (c (suc k)).objects) (sym same) (steps.word_stays code b is_thread first classes c acts run k t step a here at p logged_word))
          | inr other ↦ elim (so.placed q) [ inl none ↦ inl (put_nowhere q other ∙ none) | inr word ↦ inr (steps.word_stays code b is_thread first classes c acts run k t step a here at q word) ]
        ];
        before = λ q v there. elim (same_or_other q p) [
          | inl same ↦ later v (all_first k ((writers c acts k).old t) (so.old_before t) v (subst (In v) (ap (writers c acts (suc k)).word same ∙ put_here) there))
          | inr other ↦ later v (so.before q v (subst (In v) (put_nowhere q other) there))
        ];
        old = all_old (subst (λ l. OwnOld l ((writers c acts (suc k)).old t)) (sym log) (subst (OwnOld (drop 1 at.from.log)) (sym old_less)
            (old_later c acts (c k).words (c (suc k)).words t (drop 1 at.from.log) (drop 1 ((writers c acts k).old t)) (on k within) say_first.1)));
        old_before = all_before (subst (AllBefore (suc k)) (sym old_less) (all_drop (suc k) ((writers c acts k).old t) (all_later k ((writers c acts k).old t) (so.old_before t))));
      }
        where
          was : (q : ℕ) → IsWordPlace is_thread (c (suc k)).objects q → IsWordPlace is_thread (c k).objects q
          was q word = elim (steps.came code b is_thread first classes c acts run k t step a here at q word) [
            | old_word there ↦ there
            | new_word z v makes not_was is_zero ↦ absurd (subst IsHeader (sym makes ∙ sets) tt)
          ]
