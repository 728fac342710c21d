-- What threads know of the sections that they last saw as writers of words, at each place of a run.
use Rattle.std.proofs.Common.{◌≡◌, ◌≢◌, ◌⊎◌, inl, inr, ℕ, suc, ◌<◌, ◌≤◌, ◌^◌, ◌||◌, ◌&&◌, Bool, true, false, true≢false, Some, List, [], ◌∷◌, length, nat_eq, refl, sym, ◌∙◌, ap, subst, arith}
use Rattle.std.specs.Prelude.{nat_le, slice_get}
use Rattle.std.proofs.lemmas.Grind.{common_steps}
use Rattle.std.proofs.lemmas.Bool.Decides.{nat_tests}
use Rattle.std.proofs.lemmas.Option.{same_Some, slice_get_within}
use Rattle.op_core.specs.declared.Op.TheVariants.{Read, Write}
use Rattle.op_core.specs.declared.Next.{Next}
use Rattle.op_core.specs.declared.Next.TheVariants.{Want}
use Rattle.op_core.specs.ThreadCode.{Code}
use Rattle.op_core.proofs.PointwiseLemmas.{same_or_other}
use Rattle.heap_words.specs.declared.areas.Area.TheVariants.{Section}
use Rattle.heap_words.specs.Words.{tag_of, tag_section, tag_level}
use Rattle.section_state.specs.SectionWord.{state_of, pinned_of, depth_of, revoke_of}
use Rattle.step_port.specs.declared.answer.StepAnswer.{StepAnswer}
use Rattle.step_port.specs.declared.answer.StepAnswer.TheVariants.{Found}
use Rattle.step_port.specs.declared.step.Step.{Step}
use Rattle.step_port.specs.declared.step.Step.TheVariants.{LoadWord, OpenSection}
use Rattle.step_port.specs.Steps.{effect_of}
use Rattle.step_port.specs.Words.{CanAnswer, answer_of}
use Rattle.thread_automaton.specs.declared.Bounds.{Bounds}
use Rattle.thread_automaton.specs.ThreadState.{ThreadState}
use Rattle.thread_automaton.specs.NextMove.{word_place}
use Rattle.thread_automaton.specs.Changes.{changed}
use Rattle.thread_automaton.specs.Checks.{is_safe}
use Rattle.thread_automaton.specs.Answers.{change_of}
use Rattle.thread_automaton.specs.Told.{told, after_answer, after_quiet}
use Rattle.automaton_rows.specs.Rows.{IsAccess, word_wanted}
use Rattle.automaton_rows.proofs.RowLemmas.{answers_are_rows, words_can_answer}
use Rattle.core_runs.specs.Cores.{Core}
use Rattle.core_runs.specs.Acts.{Act, quiet, did, beside, DidAt, ActAt}
use Rattle.section_laws.specs.Runs.{IsRun}
use Rattle.section_laws.proofs.WordLemmas.{state_of_zero, state_packed}
use Rattle.section_laws.proofs.ClaimLemmas.{found_is}
use Rattle.section_laws.proofs.FactLemmas.{each}
use Rattle.section_laws.proofs.RunLemmas.{along, facts_at}
use Rattle.section_laws.specs.OwnWords.{IsInBits}
use Rattle.section_laws.specs.Moves.{Move}
use Rattle.section_laws.proofs.own_sections.WordLemmas.{depth_low, pinned_says, deep_says, opened_says, revoked_says, committed_says, undone_says, goes_on_says}
use Rattle.section_laws.proofs.own_sections.MoveLemmas.{moves_at, unopened}
use Rattle.section_laws.specs.Known.{IsCommittedOrPinned}
use Rattle.section_laws.proofs.known_sections.KnownLemmas.{known_sections_are_pinned}
use Rattle.section_laws.specs.OpenSections.{SaysOfRevoking}
use Rattle.section_laws.proofs.open_sections.RunLemmas.{words_say_of_revoking}
use Rattle.section_laws.specs.Layout.{IsWordPlace, FitsObjects}
use Rattle.written_words.specs.Noted.{heap_of}
use Rattle.written_words.specs.Writers.{writers}
use Rattle.written_words.specs.Tags.{IsWrittenRun, TagSays}
use Rattle.written_words.specs.Known.{KnowsOther, KnownSectionsAreOthers}
use Rattle.written_words.proofs.settled_words.RoundLemmas as rounds
use Rattle.written_words.proofs.StepLemmas as steps
use Rattle.written_words.proofs.StepLemmas.{word_named, was_there, begins}
use Rattle.written_words.proofs.RunLemmas.{written_at}
use Rattle.written_words.proofs.KnownLemmas.{KnowTurn, keeps, learns, MeetsDeep, goes_on, counted_goes}

-- ---- a section that is undone isn't pinned

pub not_four : {A : Type 0} (n m : ℕ) → n ≡ 4 → n ≡ m → m < 4 → A
not_four n m four is low = absurd (no n m four is low)
  where
    no : (n m : ℕ) → n ≡ 4 → n ≡ m → m < 4 → ⊥
    no n m four is low = omega (arith, four, is, low)

four_five : {A : Type 0} (n : ℕ) → n ≡ 4 → n ≡ 5 → A
four_five n four is = absurd (no n four is)
  where
    no : (n : ℕ) → n ≡ 4 → n ≡ 5 → ⊥
    no n four is = omega (arith, four, is)

-- It was undone before, or was revoked as a whole.
pub data MovedUndone (old new : ℕ) : Type 0 where
  stays_undone : state_of old ≡ 4 → new ≡ old → MovedUndone old new
  turns_undone : state_of old ≡ 3 → revoke_of old ≡ 1 → pinned_of new ≡ pinned_of old → MovedUndone old new

pub move_undone : (old new : ℕ) → Move old new → state_of new ≡ 4 → MovedUndone old new
move_undone old new (Move.stays is) four = stays_undone (ap state_of (sym is) ∙ four) is
move_undone old new (Move.opens number priority number_low priority_low none is) four = not_four (state_of new) 1 four (ap state_of is ∙ state_packed 1 number priority 0 1 0 (omega arith)) (omega arith)
move_undone old new (Move.pins n live deeper low is) four = not_four (state_of new) 1 four (ap state_of is ∙ (pinned_says old n low).1.0 ∙ live) (omega arith)
move_undone old new (Move.revokes n live free there is) four = not_four (state_of new) 3 four (ap state_of is ∙ (revoked_says old n (below n (depth_of old) there (depth_low old))).1.0) (omega arith)
  where
    below : (m n : ℕ) → m ≤ n → n < 2 ^ 8 → m < 2 ^ 8
    below m n low high = omega (arith, low, high)
move_undone old new (Move.opens_level live room is) four = not_four (state_of new) 1 four (ap state_of is ∙ (opened_says old room).1.0 ∙ live) (omega arith)
move_undone old new (Move.closes_to n live some low is) four = not_four (state_of new) 1 four (ap state_of is ∙ (deep_says old n low).1.0 ∙ live) (omega arith)
move_undone old new (Move.commits live is) four = four_five (state_of new) four (ap state_of is ∙ (committed_says old).1.0)
move_undone old new (Move.undoes turned some is) four = by_test (nat_le (revoke_of old) 1) refl
  where
    at_most_one : (n : ℕ) → nat_le n 1 ≡ true → n ≤ 1
    at_most_one n is = grind (arith, common_steps, nat_tests)

    more_than_one : (n : ℕ) → nat_le n 1 ≡ false → 1 < n
    more_than_one n is = grind (arith, common_steps, nat_tests)

    one : (r : ℕ) → 0 < r → r ≤ 1 → r ≡ 1
    one r some low = omega (arith, some, low)

    by_test : (t : Bool) → nat_le (revoke_of old) 1 ≡ t → MovedUndone old new
    by_test true low = turns_undone turned (one (revoke_of old) some (at_most_one (revoke_of old) low)) (ap pinned_of is ∙ (undone_says old (at_most_one (revoke_of old) low)).1.3)
    by_test false high = not_four (state_of new) 1 four (ap state_of is ∙ (goes_on_says old (more_than_one (revoke_of old) high)).1.0) (omega arith)

abbrev IsUnpinned : ℕ → Type 0
IsUnpinned w = state_of w ≡ 4 → pinned_of w ≡ 0

unpinned_move : (old new : ℕ) → SaysOfRevoking old → Move old new → IsUnpinned old → IsUnpinned new
unpinned_move old new says move was four = elim (move_undone old new move four) [
  | stays_undone undone is ↦ ap pinned_of is ∙ was undone
  | turns_undone turned whole pinned ↦ none (pinned_of old) (revoke_of old) (pinned_of new) (says.revoked turned).0 whole pinned
]
  where
    none : (p r n : ℕ) → p < r → r ≡ 1 → n ≡ p → n ≡ 0
    none p r n deep one is = omega (arith, deep, one, is)

pinned_of_zero : pinned_of 0 ≡ 0
unfolding pinned_of
pinned_of_zero = refl

-- ---- along a run

module _ {S : Type 0} (code : Code S) (b : Bounds) (is_thread : ℕ → Bool) (first : S) (classes : ℕ) (c : ℕ → Core S) (acts : List Act) (run : IsWrittenRun code b is_thread first classes c acts) where
  ran : IsRun code b c acts
  ran = run.tagged.monitors.levelled.ordered.run

  in_bits : IsInBits c acts
  in_bits = run.tagged.monitors.levelled.ordered.in_bits

  unpinned_at : (k : ℕ) → k ≤ length acts → (s : ℕ) → IsUnpinned ((c k).words (Section s))
  unpinned_at k within = along code b c acts ran.leads (λ n. (s : ℕ) → IsUnpinned ((c n).words (Section s)))
      (λ s four. not_four (state_of ((c 0).words (Section s))) 0 four (ap state_of (ran.begins.sections s) ∙ state_of_zero) (omega arith))
      (λ n act here at before s. unpinned_move ((c n).words (Section s)) ((c (suc n)).words (Section s)) (words_say_of_revoking code b c acts ran in_bits n s (up n (slice_get_within acts n act here)))
      (moves_at code b c acts ran in_bits n s (slice_get_within acts n act here)) (before s)) k within
    where
      up : {m : ℕ} (n : ℕ) → n < m → n ≤ m
      up n low = omega (arith, low)

  -- it knows no section, or another than its own, to some depth
  abbrev Knows : ThreadState S → Type 0
  Knows th = ((th.known ≡ 0) ⊎ ((0 < th.known_depth) × (th.known ≢ th.section))) × MeetsDeep th.attempt (code.next th.local)

  abbrev KnownAt : ℕ → Type 0
  KnownAt k = (t : ℕ) (th : ThreadState S) → (c k).threads t ≡ Some th → Knows th

  module _ (k t : ℕ) (step : Step) (a : StepAnswer) (here : slice_get acts k ≡ Some (did t step a)) (at : DidAt code b c k t step a) (before : KnownAt k) where
    within : k < length acts
    within = slice_get_within acts k (did t step a) here

    up : k ≤ length acts
    up = let low = within in omega (arith, low)

    abbrev y : ThreadState S
    y = after_answer code b at.from step a

    -- a word of an object that isn't safe has a tag with a level
    deep_tag : (p w : ℕ) → IsWordPlace is_thread (c k).objects p → w ≡ heap_of (c k).words p → is_safe at.from w ≡ false → 0 < tag_level (tag_of w)
    deep_tag p w word is unsafe = by_writer ((writers c acts k).word p) ((written_at code b is_thread first classes c acts run k up).says p word)
      where
        is_none : (n : ℕ) → n ≡ 0 → nat_eq n 0 ≡ true
        is_none n none = grind (arith, common_steps, nat_tests)

        safe_none : tag_of w ≡ 0 → is_safe at.from w ≡ true
        safe_none none = ap (λ z. z || nat_eq (tag_section (tag_of w)) at.from.section || (nat_eq (tag_section (tag_of w)) at.from.known && nat_le (tag_level (tag_of w)) at.from.known_depth)) (is_none (tag_of w) none)

        some : (l n : ℕ) → l ≡ suc n → 0 < l
        some l n is = omega (arith, is)

        by_writer : (writer : List ℕ) → TagSays c acts writer (tag_of (heap_of (c k).words p)) → 0 < tag_level (tag_of w)
        by_writer [] none = absurd (true≢false (sym (safe_none (ap tag_of is ∙ none)) ∙ unsafe))
        by_writer (x ∷ levels) says = some (tag_level (tag_of w)) (length levels) (ap (λ n. tag_level (tag_of n)) is ∙ says.2)

    loaded : (w : ℕ) → IsAccess (code.next at.from.local) → step ≡ LoadWord (word_wanted (code.next at.from.local)) → a ≡ Found w → is_safe at.from w ≡ false → 0 < tag_level (tag_of w)
    loaded w accesses is found unsafe = by_next (code.next at.from.local) refl accesses is
      where
        word : (p : ℕ) → step ≡ LoadWord p → w ≡ heap_of (c k).words p
        word p is = found_is w (heap_of (c k).words p) (sym found ∙ at.answered ∙ ap (answer_of (c k).words) is)

        by_next : (n : Next) → code.next at.from.local ≡ n → IsAccess n → step ≡ LoadWord (word_wanted n) → 0 < tag_level (tag_of w)
        by_next (Want (Read r i)) wants accesses is =
            let fit : FitsObjects is_thread (c k).objects (Read r i) = run.tagged.laid.wants k t at.from (Read r i) within at.stands wants in
            deep_tag (word_place r i) w (word_named is_thread (c k).objects r i fit.1 fit.2) (word (word_place r i) is) unsafe
        by_next (Want (Write r i v)) wants accesses is =
            let fit : FitsObjects is_thread (c k).objects (Write r i v) = run.tagged.laid.wants k t at.from (Write r i v) within at.stands wants in
            deep_tag (word_place r i) w (word_named is_thread (c k).objects r i fit.1 fit.2) (word (word_place r i) is) unsafe
        by_next n wants accesses is = absurd accesses

    go : KnowTurn at.from step a y.known y.known_depth y.section × MeetsDeep y.attempt (code.next y.local)
    go = counted_goes code b at.from (told code b at.from step a) (changed code at.from (change_of code b at.from (code.next at.from.local) step a))
        (goes_on code b at.from (answers_are_rows code b at.from step a ((facts_at code b c acts ran k up).fit t at.from at.stands).attempt at.move
        (subst (CanAnswer (effect_of step)) (sym at.answered) (words_can_answer (c k).words step))) refl (before t at.from at.stands).1 loaded)

    own_knows : Knows y
    own_knows = (by_turn go.0, go.1)
      where
        -- a section that is about to be opened is known to no thread
        not_opened : (s w : ℕ) → step ≡ OpenSection s w → 0 < at.from.known_depth → at.from.known ≡ s → ⊥
        not_opened s w is some same = elim (subst (λ n. IsCommittedOrPinned n at.from.known_depth) (ap (λ n. (c k).words (Section n)) same ∙ unopened code b c acts ran in_bits k within t step a at s w is)
            (known_sections_are_pinned code b c acts ran in_bits k t at.from up at.stands)) [
              | inl committed ↦ no_five (state_of 0) state_of_zero committed
              | inr pinned ↦ no_depth at.from.known_depth (pinned_of 0) some pinned pinned_of_zero
            ]
          where
            no_five : (n : ℕ) → n ≡ 0 → n ≡ 5 → ⊥
            no_five n none five = omega (arith, none, five)

            no_depth : (d p : ℕ) → 0 < d → d ≤ p → p ≡ 0 → ⊥
            no_depth d p some low none = omega (arith, some, low, none)

        by_turn : KnowTurn at.from step a y.known y.known_depth y.section → (y.known ≡ 0) ⊎ ((0 < y.known_depth) × (y.known ≢ y.section))
        by_turn (learns deep differs section) = inr (deep, λ is. differs (is ∙ section))
        by_turn (keeps known depth section) = elim (same_or_other y.known 0) [
          | inl none ↦ inl none
          | inr some ↦ elim (before t at.from at.stands).0 [
            | inl none ↦ absurd (some (known ∙ none))
            | inr was ↦ inr (
              subst (λ n. 0 < n) (sym depth) was.0,
              λ is. elim section [
                | inl stays ↦ was.1 (sym known ∙ is ∙ stays)
                | inr (inl ends) ↦ some (is ∙ ends)
                | inr (inr opened) ↦ not_opened opened.0 opened.1 opened.2 was.0 (sym known ∙ is ∙ opened.3)
              ],
            )
          ]
        ]

    did_known : KnownAt (suc k)
    did_known u uh there = elim (same_or_other u t) [
      | inl own ↦ subst Knows (same_Some (after_answer code b at.from step a) uh (sym (rounds.own_there code b is_thread first classes c acts run.tagged k t step a here at) ∙ ap (c (suc k)).threads (sym own) ∙ there)) own_knows
      | inr other ↦ elim (steps.other_thread code b is_thread first classes c acts run.tagged k t step a here at u uh other there) [
        | was_there was ↦ before u uh was
        | begins number priority l none new ↦ subst Knows (sym new) (inl refl, tt)
      ]
    ]

  act_known : (k : ℕ) (act : Act) → slice_get acts k ≡ Some act → ActAt code b c k act → KnownAt k → KnownAt (suc k)
  act_known k (quiet t) here at before u uh there = each Knows (c k).threads t (after_quiet at.from at.local) u (λ own. ((before t at.from at.stands).0, tt)) (λ vh other at_v. before u vh at_v) uh
      (ap (λ (core : Core S). core.threads u) (sym at.leads) ∙ there)
  act_known k (did t step a) here at before u uh there = did_known k t step a here at before u uh there
  act_known k (beside t step a) here at before u uh there = before u uh (ap (λ (core : Core S). core.threads u) (sym at.leads) ∙ there)

  first_known : KnownAt 0
  first_known t th at = let begins = ran.begins.threads t th at in subst Knows (sym begins.3) (inl refl, tt)

  known_at : (k : ℕ) → k ≤ length acts → KnownAt k
  known_at k within = along code b c acts ran.leads KnownAt first_known (λ n act here at before. act_known n act here at before) k within

  knows_other : (k t : ℕ) (th : ThreadState S) → k ≤ length acts → (c k).threads t ≡ Some th → th.known ≢ 0 → KnowsOther th (c k).words
  knows_other k t th within there some = elim (known_at k within t th there).0 [
    | inl none ↦ absurd (some none)
    | inr knows ↦ record {
      deep = knows.0;
      done = λ four. elim (known_sections_are_pinned code b c acts ran in_bits k t th within there) [
        | inl committed ↦ four_five (state_of ((c k).words (Section th.known))) four committed
        | inr pinned ↦ no_depth th.known_depth (pinned_of ((c k).words (Section th.known))) knows.0 pinned (unpinned_at k within th.known four)
      ];
      other = knows.1;
    }
  ]
    where
      no_depth : (d p : ℕ) → 0 < d → d ≤ p → p ≡ 0 → ⊥
      no_depth d p some low none = omega (arith, some, low, none)

pub known_sections_are_others : {S : Type 0} (code : Code S) → KnownSectionsAreOthers code
known_sections_are_others code b is_thread first classes c acts run k t th within there some = knows_other code b is_thread first classes c acts run k t th within there some
