-- What threads have logged carries their tags, with each step of a thread.
use Rattle.std.proofs.Common.{◌≡◌, ◌≢◌, ◌⊎◌, inl, inr, ℕ, suc, ◌^◌, ◌<◌, ◌≤◌, Bool, true, false, Some, List, [], ◌∷◌, length, drop, nat_eq, refl, sym, ◌∙◌, ap, subst, arith}
use Rattle.std.specs.Prelude.{nat_lt, nat_le, slice_get, if◌then◌else◌}
use Rattle.std.proofs.lemmas.Grind.{common_steps}
use Rattle.std.proofs.lemmas.Bool.Decides.{nat_tests}
use Rattle.std.proofs.lemmas.Option.{slice_get_within}
use Rattle.op_core.specs.declared.Op.TheVariants.{Write}
use Rattle.op_core.specs.declared.Next.TheVariants.{Want}
use Rattle.op_core.specs.ThreadCode.{Code}
use Rattle.heap_words.specs.declared.areas.Area.{Area}
use Rattle.heap_words.specs.declared.areas.Area.TheVariants.{Section}
use Rattle.section_state.specs.declared.State.TheVariants.{Revoking}
use Rattle.section_state.specs.SectionWord.{number_of, state_of, pinned_of, revoke_of}
use Rattle.write_log.specs.declared.Noted.{Noted}
use Rattle.monitor_core.specs.Contention.{is_in}
use Rattle.step_port.specs.declared.answer.StepAnswer.{StepAnswer}
use Rattle.step_port.specs.declared.answer.StepAnswer.TheVariants.{Found}
use Rattle.step_port.specs.declared.step.Step.{Step}
use Rattle.step_port.specs.declared.step.Step.TheVariants.{SwapWord, RestoreWord, LoadSection}
use Rattle.step_port.specs.Steps.{place_of, effect_of}
use Rattle.step_port.specs.Words.{Words, CanAnswer, answer_of, words_after}
use Rattle.thread_automaton.specs.declared.Bounds.{Bounds}
use Rattle.thread_automaton.specs.declared.Move.TheVariants.{Make}
use Rattle.thread_automaton.specs.declared.Attempt.TheVariants.{Undoing}
use Rattle.thread_automaton.specs.ThreadState.{ThreadState, Mark, is_open, mark_of, from_level}
use Rattle.thread_automaton.specs.NextMove.{word_place, deepened_since, undo_next, move_of}
use Rattle.thread_automaton.specs.Changes.{changed}
use Rattle.thread_automaton.specs.Checks.{is_safe, written_word, noted}
use Rattle.thread_automaton.specs.Answers.{change_of}
use Rattle.thread_automaton.specs.Told.{told, after_answer}
use Rattle.automaton_rows.specs.Fits.{IsFit}
use Rattle.automaton_rows.proofs.RowLemmas.{answers_are_rows, words_can_answer, by_if}
use Rattle.core_runs.specs.Cores.{Core}
use Rattle.core_runs.specs.Acts.{Act, did, DidAt}
use Rattle.section_laws.specs.Runs.{IsRun}
use Rattle.section_laws.proofs.WordLemmas.{Exchanged, exchanged, state_is}
use Rattle.section_laws.proofs.ClaimLemmas.{found_is}
use Rattle.section_laws.proofs.DeedLemmas.{makes_it}
use Rattle.section_laws.proofs.SectionLemmas.{zero_no_section, sections_apart}
use Rattle.section_laws.proofs.RunLemmas.{facts_at}
use Rattle.section_laws.proofs.own_sections.MoveLemmas.{own_words_are_known}
use Rattle.section_laws.proofs.held_levels.StandLemmas.{closed_low}
use Rattle.section_laws.specs.Marks.{MarksFall}
use Rattle.section_laws.proofs.level_marks.RunLemmas.{marks_fall}
use Rattle.section_laws.specs.OpenSections.{IsLiveOrRevoking}
use Rattle.section_laws.specs.Layout.{IsWordPlace}
use Rattle.section_laws.proofs.run_layout.PlaceLemmas.{put_object, stays_or_made}
use Rattle.section_laws.proofs.run_layout.RunLemmas.{laid_at}
use Rattle.first_law.proofs.run_monitors.RunLemmas.{so_at}
use Rattle.section_laws.specs.Settled.{notes, Carries}
use Rattle.written_words.specs.Noted.{IsTaggedRun, heap_of}
use Rattle.written_words.proofs.noted_words.PartLemmas.{PartsAreOwn, parts_none, parts_zero, parts_deeper, parts_elsewhere, parts_written, parts_put_back, parts_opened, parts_dropped}
use Rattle.written_words.proofs.noted_words.TagLemmas.{written_carries, puts_first, noted_in}
use Rattle.written_words.proofs.noted_words.TurnLemmas.{SetsNoWord, top_of, marks_of, NoteTurn, drops_levels, forgets_all, opens_one, writes_word, puts_word_back, turns, counted_turn}
use Rattle.written_words.proofs.noted_words.PlaceLemmas.{stays_there, swaps, puts, word_step}
use Rattle.written_words.proofs.noted_words.StepLemmas as steps
use Rattle.written_words.proofs.noted_words.StepLemmas.{OwnParts, zero_or, some_or, IsSwap, IsRestore, old_of}

module _ {S : Type 0} (code : Code S) (b : Bounds) (is_thread : ℕ → Bool) (first : S) (classes : ℕ) (c : ℕ → Core S) (acts : List Act) (run : IsTaggedRun code b is_thread first classes c acts)
    (k t : ℕ) (step : Step) (a : StepAnswer) (here : slice_get acts k ≡ Some (did t step a)) (at : DidAt code b c k t step a) (before : steps.NotedAt code b is_thread first classes c acts run k) where
  ran : IsRun code b c acts
  ran = run.monitors.levelled.ordered.run

  within : k < length acts
  within = slice_get_within acts k (did t step a) here

  up : k ≤ length acts
  up = let low = within in omega (arith, low)

  abbrev w : Words
  w = (c k).words

  abbrev pub y : ThreadState S
  y = after_answer code b at.from step a

  -- the word that section s has at place k
  abbrev word : ℕ → ℕ
  word s = (c k).words (Section s)

  fits : IsFit code at.from
  fits = (facts_at code b c acts ran k up).fit t at.from at.stands

  makes : move_of code at.from (code.next at.from.local) at.from.attempt ≡ Make step
  makes = makes_it at.from.over (nat_le b.limits.turns at.from.counted) _ step at.move

  heap_then : (q : ℕ) → heap_of (c (suc k)).words q ≡ words_after step (c k).words (Area.Object q)
  heap_then q = ap (λ (core : Core S). core.words (Area.Object q)) at.leads

  pub turn : NoteTurn at.from (code.next at.from.local) step a y.section y.log (top_of y) (marks_of y)
  turn = counted_turn code b at.from (told code b at.from step a) (changed code at.from (change_of code b at.from (code.next at.from.local) step a))
      (turns code b at.from (answers_are_rows code b at.from step a fits.attempt at.move can) makes can turned
      (λ s v n is. closed_low code first classes run.monitors.levelled.ordered.orderly b c acts run.monitors.levelled.ordered k t at.from up at.stands s v n (at.move ∙ ap Make is)) idle)
    where
      can : CanAnswer (effect_of step) a
      can = subst (CanAnswer (effect_of step)) (sym at.answered) (words_can_answer (c k).words step)

      -- it has a section where it finds it revoked
      turned : (v : ℕ) → step ≡ LoadSection at.from.section → a ≡ Found v → is_in Revoking v ≡ true → revoke_of v ≤ at.from.levels
      turned v is found turns = by_section (nat_eq at.from.section 0) refl
        where
          seen : v ≡ word at.from.section
          seen = found_is v (word at.from.section) (sym found ∙ at.answered ∙ ap (answer_of w) is)

          state : state_of (word at.from.section) ≡ number_of Revoking
          state = ap state_of (sym seen) ∙ state_is Revoking v turns

          none_turned : (n : ℕ) → n ≡ 3 → n ≡ 0 → ⊥
          none_turned n three none = omega (arith, three, none)

          by_section : (z : Bool) → nat_eq at.from.section 0 ≡ z → revoke_of v ≤ at.from.levels
          by_section true none = absurd (none_turned (state_of (word at.from.section)) state
              (ap (λ n. state_of (word n)) (zero_or at.from.section none) ∙ ap state_of (zero_no_section code b c acts ran k up) ∙ steps.zero_state))
          by_section false is_some = subst (λ n. revoke_of n ≤ at.from.levels) (sym seen)
              (((own_words_are_known code b c acts ran run.monitors.levelled.ordered.in_bits k t at.from up at.stands (some_or at.from.section is_some)).0.revoking state).1)

      idle : nat_eq at.from.section 0 ≡ true → at.from.log ≡ []
      idle none = fits.unlogged (shut at.from.pinned at.from.levels (zero_or at.from.levels (sym fits.kept.levels ∙ none)))
        where
          shut : (p l : ℕ) → l ≡ 0 → nat_lt p l ≡ false
          shut p l none = grind (arith, common_steps, nat_tests)

  -- ---- who overwrites and puts back words

  pub writer : (q old new : ℕ) → step ≡ SwapWord q old new → a ≡ StepAnswer.Done → is_safe at.from old ≡ true
  writer q old new is done = elim turn [
    | drops_levels j none section log top marks ↦ absurd (subst (SetsNoWord (SwapWord q old new)) done (subst (λ s. SetsNoWord s a) is none))
    | forgets_all none log ↦ absurd (subst (SetsNoWord (SwapWord q old new)) done (subst (λ s. SetsNoWord s a) is none))
    | opens_one m none section log noted top marks ↦ absurd (subst (SetsNoWord (SwapWord q old new)) done (subst (λ s. SetsNoWord s a) is none))
    | writes_word r i v was wants sets done_too safe section log whole top marks ↦ subst (λ o. is_safe at.from o ≡ true) (ap old_of (sym sets ∙ is)) safe
    | puts_word_back u p o undoing puts_it does section log top marks ↦ absurd (subst IsSwap (sym is ∙ puts_it) tt)
  ]

  pub putter : (q old : ℕ) → step ≡ RestoreWord q old → (u : ℕ) × (at.from.attempt ≡ Undoing u) × (undo_next at.from u (revoke_of u) ≡ RestoreWord q old)
  putter q old is = elim turn [
    | drops_levels j none section log top marks ↦ absurd (subst (λ s. SetsNoWord s a) is none)
    | forgets_all none log ↦ absurd (subst (λ s. SetsNoWord s a) is none)
    | opens_one m none section log noted top marks ↦ absurd (subst (λ s. SetsNoWord s a) is none)
    | writes_word r i v was wants sets done_too safe section log whole top marks ↦ absurd (subst IsRestore (sym is ∙ sets) tt)
    | puts_word_back u p o undoing puts_it does section log top marks ↦ (u, undoing, does ∙ sym puts_it ∙ is)
  ]

  -- ---- words that another thread has logged

  other_word : (u q : ℕ) (uh : ThreadState S) → u ≢ t → (c k).threads u ≡ Some uh → 0 < uh.section → IsLiveOrRevoking (word uh.section) → notes q uh.log ≡ true
      → (heap_of (c (suc k)).words q ≡ heap_of w q) ⊎ ((m : ℕ) → pinned_of (word uh.section) < m → Carries uh.section m (heap_of w q) → ⊥)
  other_word u q uh other there some live has =
      let logged = noted_in q uh.log has in
      elim (word_step code b is_thread c acts run.laid k t step a here at.answered q
      (subst (IsWordPlace is_thread (c k).objects) logged.2 ((laid_at code b is_thread c acts run.laid k up).0.logged u logged.0 uh there logged.1))) [
        | stays_there same ↦ inl (heap_then q ∙ same)
        | swaps old new is done found now ↦ inr (λ m deep carries. steps.safe_other code b is_thread first classes c acts run k t u m (heap_of w q) at.from uh up at.stands there other some live deep carries
            (subst (λ o. is_safe at.from o ≡ true) (sym found) (writer q old new is done)))
        | puts old is now ↦ inr (λ m deep carries. not_own m carries old is)
      ]
    where
      apart : at.from.section ≡ uh.section → ⊥
      apart same = other (sym (sections_apart code b c acts ran k t u at.from uh up at.stands there (subst (λ n. 0 < n) (sym same) some) same))

      not_own : (m : ℕ) → Carries uh.section m (heap_of w q) → (old : ℕ) → step ≡ RestoreWord q old → ⊥
      not_own m carries old is =
          let puts_it = putter q old is in
          let part = steps.undone_part code b is_thread first classes c acts run k t puts_it.0 at.from up before at.stands puts_it.1 in
          let noted = puts_first (mark_of at.from (revoke_of puts_it.0)).noted at.from.section puts_it.0 q old at.from.log (deepened_since (mark_of at.from (revoke_of puts_it.0)) at.from.held)
          (from_level (revoke_of puts_it.0) at.from.held) puts_it.2 in
          apart (sym (part.1.0 q noted.noted).0 ∙ carries.0)

  pub others_kept : (u : ℕ) (uh : ThreadState S) → u ≢ t → (c k).threads u ≡ Some uh → OwnParts uh (c (suc k)).words
  others_kept u uh other there = steps.kept_parts code b is_thread first classes c acts run k u uh within before there (λ some live q has. other_word u q uh other there some live has)

  -- ---- the thread's own

  abbrev pinned_then : ℕ → ℕ
  pinned_then s = pinned_of ((c (suc k)).words (Section s))

  abbrev OwnThen : ℕ → ℕ → List Mark → List Noted → Type 0
  OwnThen s top marks log = PartsAreOwn s (pinned_then s) top marks log (heap_of (c (suc k)).words)

  -- with no word overwritten or put back
  same_words : SetsNoWord step a → (q : ℕ) → notes q at.from.log ≡ true → heap_of (c (suc k)).words q ≡ heap_of w q
  same_words none q has =
      let logged = noted_in q at.from.log has in
      elim (word_step code b is_thread c acts run.laid k t step a here at.answered q
      (subst (IsWordPlace is_thread (c k).objects) logged.2 ((laid_at code b is_thread c acts run.laid k up).0.logged t logged.0 at.from at.stands logged.1))) [
        | stays_there same ↦ heap_then q ∙ same
        | swaps old new is done found now ↦ absurd (subst (SetsNoWord (SwapWord q old new)) done (subst (λ s. SetsNoWord s a) is none))
        | puts old is now ↦ absurd (subst (λ s. SetsNoWord s a) is none)
      ]

  -- a word that isn't the one on which the step is made stays
  elsewhere : (p q : ℕ) → place_of step ≡ Area.Object p → q ≢ p → heap_of (c (suc k)).words q ≡ heap_of w q
  elsewhere p q place other = elim (stays_or_made step w q) [ inl same ↦ heap_then q ∙ same | inr made ↦ absurd (other (ap number (sym made ∙ place))) ]
    where
      number : Area → ℕ
      number (Area.Object n) = n
      number area = 0

  was_own : 0 < at.from.section → IsLiveOrRevoking ((c (suc k)).words (Section at.from.section)) → PartsAreOwn at.from.section (pinned_of (word at.from.section)) (top_of at.from) (marks_of at.from) at.from.log (heap_of w)
  was_own some live = before t at.from at.stands (steps.was_live code b is_thread first classes c acts run k t at.from within at.stands some live)

  falls : MarksFall (length at.from.log) (marks_of at.from)
  falls = marks_fall code b first classes c acts run.monitors.levelled.ordered k t at.from up at.stands

  own_same : 0 < at.from.section → IsLiveOrRevoking ((c (suc k)).words (Section at.from.section)) → SetsNoWord step a → OwnThen at.from.section (top_of at.from) (marks_of at.from) at.from.log
  own_same some live none = parts_deeper at.from.section (pinned_of (word at.from.section)) (pinned_then at.from.section) (top_of at.from) (marks_of at.from) at.from.log (heap_of (c (suc k)).words)
      (steps.pins code b is_thread first classes c acts run k at.from.section within)
      (parts_elsewhere at.from.section (pinned_of (word at.from.section)) (top_of at.from) (marks_of at.from) at.from.log (heap_of w) (heap_of (c (suc k)).words)
      (λ q has. inl (same_words none q has)) (was_own some live))

  -- a word is overwritten
  own_written : (r i v old : ℕ) → 0 < at.from.section → IsLiveOrRevoking ((c (suc k)).words (Section at.from.section)) → code.next at.from.local ≡ Want (Write r i v)
      → step ≡ SwapWord (word_place r i) old (written_word at.from v) → a ≡ StepAnswer.Done → top_of at.from ≡ at.from.levels
      → OwnThen at.from.section (top_of at.from) (marks_of at.from) (noted at.from (word_place r i) old)
  own_written r i v old some live wants sets done whole = by_if (λ log. OwnThen at.from.section (top_of at.from) (marks_of at.from) log) (is_open at.from)
      (record { at = word_place r i; old = old } ∷ at.from.log) at.from.log
      (λ open_so. parts_deeper at.from.section (pinned_of (word at.from.section)) (pinned_then at.from.section) (top_of at.from) (marks_of at.from) (record { at = word_place r i; old = old } ∷ at.from.log)
      (heap_of (c (suc k)).words) (steps.pins code b is_thread first classes c acts run k at.from.section within)
      (parts_written at.from.section (pinned_of (word at.from.section)) (top_of at.from) (length at.from.log) (marks_of at.from) at.from.log (heap_of w) (heap_of (c (suc k)).words)
      (record { at = word_place r i; old = old }) (omega arith) falls (sym swapped.found) carries (λ q other has. elsewhere (word_place r i) q (ap place_of sets) other) (was_own some live)))
      (λ shut. subst (OwnThen at.from.section (top_of at.from) (marks_of at.from)) (sym (fits.unlogged shut))
      (parts_none at.from.section (pinned_then at.from.section) (top_of at.from) (marks_of at.from) (heap_of (c (suc k)).words)))
    where
      swapped : Exchanged w (Area.Object (word_place r i)) old (written_word at.from v)
      swapped = exchanged w (Area.Object (word_place r i)) old (written_word at.from v) (sym done ∙ at.answered ∙ ap (answer_of w) sets)

      new : heap_of (c (suc k)).words (word_place r i) ≡ written_word at.from v
      new = heap_then (word_place r i) ∙ ap (λ s. words_after s w (Area.Object (word_place r i))) sets ∙ ap (λ (z : Words). z (Area.Object (word_place r i))) swapped.leaves ∙ put_object w (word_place r i) (written_word at.from v)

      small : at.from.section < 2 ^ 24
      small = below at.from.section b.limits.sections ((so_at code b first classes c acts run.monitors k up).0 t at.from at.stands).within run.sections
        where
          below : (s l : ℕ) → s ≤ l → l < 2 ^ 24 → s < 2 ^ 24
          below s l low high = omega (arith, low, high)

      carries : (m : ℕ) → m ≤ top_of at.from → Carries at.from.section m (heap_of (c (suc k)).words (word_place r i))
      carries m low = subst (Carries at.from.section m) (sym new)
          (written_carries v at.from.section at.from.levels m (run.laid.wants k t at.from (Write r i v) within at.stands wants).0.2 small (subst (λ n. m ≤ n) whole low))

  -- a word is put back
  own_put_back : (u p o : ℕ) → 0 < at.from.section → IsLiveOrRevoking ((c (suc k)).words (Section at.from.section)) → step ≡ RestoreWord p o → undo_next at.from u (revoke_of u) ≡ RestoreWord p o
      → MarksFall (length (drop 1 at.from.log)) (marks_of at.from) → OwnThen at.from.section (top_of at.from) (marks_of at.from) (drop 1 at.from.log)
  own_put_back u p o some live is does falls_then =
      let noted_first = puts_first (mark_of at.from (revoke_of u)).noted at.from.section u p o at.from.log (deepened_since (mark_of at.from (revoke_of u)) at.from.held) (from_level (revoke_of u) at.from.held) does in
      let restored : heap_of (c (suc k)).words p ≡ o = heap_then p ∙ ap (λ s. words_after s w (Area.Object p)) is ∙ put_object w p o in
      parts_deeper at.from.section (pinned_of (word at.from.section)) (pinned_then at.from.section) (top_of at.from) (marks_of at.from) (drop 1 at.from.log) (heap_of (c (suc k)).words)
      (steps.pins code b is_thread first classes c acts run k at.from.section within)
      (parts_put_back at.from.section (pinned_of (word at.from.section)) (top_of at.from) (length (drop 1 at.from.log)) (marks_of at.from) (drop 1 at.from.log) (heap_of w) (heap_of (c (suc k)).words) noted_first.x
      (omega arith) falls_then (ap (heap_of (c (suc k)).words) noted_first.here ∙ restored ∙ sym noted_first.old)
      (λ q other has. elsewhere p q (ap place_of is) (λ same. other (same ∙ sym noted_first.here)))
      (subst (λ log. PartsAreOwn at.from.section (pinned_of (word at.from.section)) (top_of at.from) (marks_of at.from) log (heap_of w)) noted_first.whole (was_own some live)))

  pub own_kept : (c (suc k)).threads t ≡ Some y → OwnParts y (c (suc k)).words
  own_kept there live = by_section (nat_eq y.section 0) refl
    where
      Then : Type 0
      Then = OwnThen y.section (top_of y) (marks_of y) y.log

      to : {s : ℕ} {top : ℕ} {marks : List Mark} {log : List Noted} → y.section ≡ s → top_of y ≡ top → marks_of y ≡ marks → y.log ≡ log → OwnThen s top marks log → Then
      to {s} {top} {marks} {log} same_section same_top same_marks same_log parts =
          subst (λ n. OwnThen n (top_of y) (marks_of y) y.log) (sym same_section) (subst (λ n. OwnThen s n (marks_of y) y.log) (sym same_top)
          (subst (λ ms. OwnThen s top ms y.log) (sym same_marks) (subst (OwnThen s top marks) (sym same_log) parts)))

      none_counts : top_of y ≡ 0 → Then
      none_counts none = parts_zero y.section (pinned_then y.section) (top_of y) (marks_of y) y.log (heap_of (c (suc k)).words) none

      lives : y.section ≡ at.from.section → IsLiveOrRevoking ((c (suc k)).words (Section at.from.section))
      lives same = subst (λ s. IsLiveOrRevoking ((c (suc k)).words (Section s))) same live

      by_turn : 0 < y.section → NoteTurn at.from (code.next at.from.local) step a y.section y.log (top_of y) (marks_of y) → Then
      by_turn some (drops_levels j none (inr top_none) log top marks) = none_counts top_none
      by_turn some (drops_levels j none (inl same) log top marks) = to same top marks log
          (parts_dropped at.from.section (pinned_then at.from.section) (top_of at.from) j (marks_of at.from) at.from.log (heap_of (c (suc k)).words) (own_same (subst (λ n. 0 < n) same some) (lives same) none))
      by_turn some (forgets_all none log) = subst (OwnThen y.section (top_of y) (marks_of y)) (sym log) (parts_none y.section (pinned_then y.section) (top_of y) (marks_of y) (heap_of (c (suc k)).words))
      by_turn some (opens_one m none same log noted top marks) = to same top marks log
          (parts_opened at.from.section (pinned_then at.from.section) (top_of at.from) m (marks_of at.from) at.from.log (heap_of (c (suc k)).words) noted (own_same (subst (λ n. 0 < n) same some) (lives same) none))
      by_turn some (writes_word r i v old wants sets done safe same log whole top marks) = to same top marks log (own_written r i v old (subst (λ n. 0 < n) same some) (lives same) wants sets done whole)
      by_turn some (puts_word_back u p o undoing puts_it does same log top marks) = to same top marks log (own_put_back u p o (subst (λ n. 0 < n) same some) (lives same) puts_it does
          (subst (λ ms. MarksFall (length (drop 1 at.from.log)) ms) marks (subst (λ l. MarksFall (length l) (marks_of y)) log
          (marks_fall code b first classes c acts run.monitors.levelled.ordered (suc k) t y within there))))

      by_section : (z : Bool) → nat_eq y.section 0 ≡ z → Then
      by_section true is = none_counts (steps.no_top code b is_thread first classes c acts run (suc k) t y within there (zero_or y.section is))
      by_section false is = by_turn (some_or y.section is) turn
