-- The words stay settled with each step of a thread.
use Rattle.std.proofs.Common.{◌≡◌, ◌≢◌, ◌⊎◌, inl, inr, ℕ, zero, suc, ◌+◌, ◌<◌, ◌≤◌, Bool, true, false, true≢false, Option, None, Some, List, [], ◌∷◌, length, refl, sym, ◌∙◌, ap, subst, arith}
use Rattle.std.specs.Prelude.{IsSomeAnd, nat_lt, slice_get, if◌then◌else◌}
use Rattle.std.proofs.lemmas.Grind.{common_steps}
use Rattle.std.proofs.lemmas.Bool.Decides.{nat_tests}
use Rattle.std.proofs.lemmas.Option.{slice_get_within}
use Rattle.op_core.specs.declared.Op.TheVariants.{Write}
use Rattle.op_core.specs.declared.Next.TheVariants.{Want}
use Rattle.op_core.specs.declared.Reply.{Reply}
use Rattle.op_core.specs.ThreadCode.{Code}
use Rattle.op_core.specs.OrdinaryState.{set_at, Object}
use Rattle.op_core.proofs.PointwiseLemmas.{same_or_other, set_at-hit, set_at-other}
use Rattle.heap_words.specs.declared.areas.Area.{Area}
use Rattle.heap_words.specs.Words.{pack_tag, value_of}
use Rattle.write_log.specs.declared.Noted.{Noted}
use Rattle.step_port.specs.declared.answer.StepAnswer.{StepAnswer}
use Rattle.step_port.specs.declared.step.Step.{Step}
use Rattle.step_port.specs.declared.step.Step.TheVariants.{SwapWord, RestoreWord, SetHeader}
use Rattle.step_port.specs.Steps.{place_of}
use Rattle.step_port.specs.Words.{Words, answer_of, words_after}
use Rattle.thread_automaton.specs.declared.Bounds.{Bounds}
use Rattle.thread_automaton.specs.NextMove.{word_place}
use Rattle.thread_automaton.specs.Checks.{is_safe, written_word}
use Rattle.thread_automaton.specs.Told.{advanced, told}
use Rattle.core_runs.specs.Cores.{Core}
use Rattle.core_runs.specs.Acts.{Act, did, DidAt}
use Rattle.section_laws.specs.Runs.{IsRun}
use Rattle.section_laws.proofs.WordLemmas.{exchanged}
use Rattle.section_laws.proofs.ClaimLemmas.{none_some}
use Rattle.section_laws.specs.Layout.{IsWordPlace, FitsObjects}
use Rattle.section_laws.proofs.run_layout.PlaceLemmas.{put_object, one_place}
use Rattle.section_laws.proofs.run_layout.RunLemmas.{runs_keep_layout, objects_stay}
use Rattle.section_laws.specs.Settled.{to_undo, notes, replay}
use Rattle.section_laws.proofs.settled_lists.ReplayLemmas.{noted_or, noted_more, noted_first, replay_unnoted}
use Rattle.first_law.specs.SettledRuns.{IsDoomedTest}
use Rattle.written_words.specs.Noted.{IsTaggedRun, heap_of}
use Rattle.written_words.proofs.noted_words.TurnLemmas.{SetsNoWord}
use Rattle.written_words.proofs.noted_words.DidLemmas.{writer}
use Rattle.written_words.proofs.noted_words.RunLemmas.{noted_at}
use Rattle.written_words.specs.SettledWords.{words_by, AreSettledWords, WordsAreSettled}
use Rattle.written_words.proofs.settled_words.ReplayLemmas.{replay_noted, zero_value, value_written, set_elsewhere, set_here}
use Rattle.written_words.proofs.settled_words.TurnLemmas.{Unseen}
use Rattle.written_words.proofs.settled_words.StepLemmas as steps
use Rattle.written_words.proofs.settled_words.RoundLemmas as rounds
use Rattle.written_words.proofs.settled_words.RoundLemmas.{Came, was_there, is_new_one, came}

module _ {S : Type 0} (code : Code S) (b : Bounds) (is_thread : ℕ → Bool) (first : S) (classes : ℕ) (c : ℕ → Core S) (acts : List Act) (run : IsTaggedRun code b is_thread first classes c acts) (doomed : ℕ → Bool)
    (tells : IsDoomedTest c acts doomed) (settled : ℕ → ℕ → ℕ → ℕ) (are : AreSettledWords code b is_thread doomed c acts settled) where
  ran : IsRun code b c acts
  ran = run.monitors.levelled.ordered.run

  abbrev SettledAt : ℕ → Type 0
  SettledAt k = WordsAreSettled is_thread doomed (c k) (settled k)

  abbrev back : ℕ → ℕ → List Noted
  back k u = steps.back code b is_thread first classes c acts run doomed tells k u

  -- nothing becomes of words: neither of those of objects, nor of the settled ones, nor of those that are to be put back
  pub stays_settled : (k : ℕ) → k < length acts → ((p : ℕ) → IsWordPlace is_thread (c k).objects p → heap_of (c (suc k)).words p ≡ heap_of (c k).words p) → ((u : ℕ) → back (suc k) u ≡ back k u)
      → ((r i : ℕ) → settled (suc k) r i ≡ settled k r i) → ((r : ℕ) → (c (suc k)).objects r ≡ None → (c k).objects r ≡ None)
      → ((p : ℕ) (word : IsWordPlace is_thread (c (suc k)).objects p)
      → ((old : IsWordPlace is_thread (c k).objects p) × (old.r ≡ word.r) × (old.i ≡ word.i)) ⊎ (((c k).objects word.r ≡ None) × (heap_of (c (suc k)).words p ≡ 0)))
      → ((p u : ℕ) → notes p (back k u) ≡ true → IsWordPlace is_thread (c k).objects p) → SettledAt k → SettledAt (suc k)
  stays_settled k within same_heap same_back same_settled none_before words logged before = record {
    stands = λ p word nobody. elim (words p word) [
      | inl old ↦ same_settled word.r word.i ∙ ap (λ r. settled k r word.i) (sym old.1) ∙ ap (settled k old.0.r) (sym old.2)
          ∙ before.stands p old.0 (λ t. ap (notes p) (sym (same_back t)) ∙ nobody t) ∙ ap value_of (sym (same_heap p old.0))
      | inr new ↦ same_settled word.r word.i ∙ before.none word.r word.i new.0 ∙ sym zero_value ∙ ap value_of (sym new.1)
    ];
    put_back = λ p t word has.
        let had : notes p (back k t) ≡ true = ap (notes p) (sym (same_back t)) ∙ has in
        elim (words p word) [
          | inl old ↦ same_settled word.r word.i ∙ ap (λ r. settled k r word.i) (sym old.1) ∙ ap (settled k old.0.r) (sym old.2) ∙ before.put_back p t old.0 had
              ∙ ap value_of (replay_noted (back k t) (heap_of (c k).words) (heap_of (c (suc k)).words) p had) ∙ ap (λ log. value_of (replay log (heap_of (c (suc k)).words) p)) (sym (same_back t))
          | inr new ↦ absurd (rounds.none_there code b is_thread first classes c acts run k p within word (logged p t had) new.0)
        ];
    none = λ r i there. same_settled r i ∙ before.none r i (none_before r there);
  }

  module _ (k t : ℕ) (step : Step) (a : StepAnswer) (here : slice_get acts k ≡ Some (did t step a)) (at : DidAt code b c k t step a) (before : SettledAt k) where
    within : k < length acts
    within = slice_get_within acts k (did t step a) here

    up : k ≤ length acts
    up = let low = within in omega (arith, low)

    abbrev count : ℕ
    count = to_undo doomed ((c k).levels t)

    heap_then : (q : ℕ) → heap_of (c (suc k)).words q ≡ words_after step (c k).words (Area.Object q)
    heap_then q = rounds.heap_then code b is_thread first classes c acts run k t step a here at q

    elsewhere : (p q : ℕ) → place_of step ≡ Area.Object p → q ≢ p → heap_of (c (suc k)).words q ≡ heap_of (c k).words q
    elsewhere p q place other = rounds.elsewhere code b is_thread first classes c acts run k t step a here at p q place other

    none_before : (r : ℕ) → (c (suc k)).objects r ≡ None → (c k).objects r ≡ None
    none_before r none = by_object ((c k).objects r) refl
      where
        by_object : (o : Option Object) → (c k).objects r ≡ o → (c k).objects r ≡ None
        by_object None is = is
        by_object (Some o) is = none_some o (sym none ∙ objects_stay code b is_thread c acts run.laid k (suc k) r o (omega arith) within is)

    came_at : (p : ℕ) (word : IsWordPlace is_thread (c (suc k)).objects p) → Came code b is_thread first classes c acts run k t step a here at p word
    came_at p word = came code b is_thread first classes c acts run k t step a here at p word

    logged : (p u : ℕ) → notes p (back k u) ≡ true → IsWordPlace is_thread (c k).objects p
    logged p u has = steps.word_logged code b is_thread first classes c acts run doomed tells k u p up (steps.puts_back code b is_thread first classes c acts run doomed tells k u p has)

    -- ---- what is settled

    pub kept_settled : 0 < to_undo doomed ((c k).levels t) → (r i : ℕ) → settled (suc k) r i ≡ settled k r i
    kept_settled some r i = are.goes_on k (did t step a) here at.from at.stands r i
        ∙ ap (λ test. if test then settled k r i else words_by (told code b at.from step a) (code.next at.from.local) (settled k) r i) (is_some (to_undo doomed ((c k).levels t)) some)
      where
        is_some : (n : ℕ) → 0 < n → nat_lt 0 n ≡ true
        is_some n some = grind (arith, common_steps, nat_tests)

    seen_settled : to_undo doomed ((c k).levels t) ≡ 0 → (r i : ℕ) → settled (suc k) r i ≡ words_by (told code b at.from step a) (code.next at.from.local) (settled k) r i
    seen_settled none r i = are.goes_on k (did t step a) here at.from at.stands r i
        ∙ ap (λ test. if test then settled k r i else words_by (told code b at.from step a) (code.next at.from.local) (settled k) r i) (is_none (to_undo doomed ((c k).levels t)) none)
      where
        is_none : (n : ℕ) → n ≡ 0 → nat_lt 0 n ≡ false
        is_none n none = grind (arith, common_steps, nat_tests)

    some_or_none : (n : ℕ) → (n ≡ 0) ⊎ (0 < n)
    some_or_none zero = inl refl
    some_or_none (suc n) = inr (omega arith)

    pub unseen_settled : Unseen (told code b at.from step a) (code.next at.from.local) → (r i : ℕ) → settled (suc k) r i ≡ settled k r i
    unseen_settled unseen r i = elim (some_or_none (to_undo doomed ((c k).levels t))) [
      | inl none ↦ seen_settled none r i ∙ ap (λ (f : ℕ → ℕ → ℕ). f r i) (unseen (settled k))
      | inr some ↦ kept_settled some r i
    ]

    -- ---- no word is overwritten or put back

    same_word : SetsNoWord step a → (p : ℕ) → IsWordPlace is_thread (c k).objects p → heap_of (c (suc k)).words p ≡ heap_of (c k).words p
    same_word none p word = rounds.same_word code b is_thread first classes c acts run k t step a here at none p word

    pub calm_settled : SetsNoWord step a → Unseen (told code b at.from step a) (code.next at.from.local) → SettledAt (suc k)
    calm_settled none unseen = stays_settled k within (same_word none) (steps.all_back code b is_thread first classes c acts run doomed tells k t step a here at none) (unseen_settled unseen) none_before
        (λ p word. elim (came_at p word) [ was_there old same_r same_i ↦ inl (old, same_r, same_i) | is_new_one v sets gone is_zero ↦ inr (gone, is_zero) ]) logged before

    -- ---- the words that there are then were there, where no object is made

    abbrev IsHeader : Step → Type 0
    IsHeader (SetHeader r w) = Unit {0}
    IsHeader s = ⊥

    old_word : (IsHeader step → ⊥) → (p : ℕ) (word : IsWordPlace is_thread (c (suc k)).objects p) → (old : IsWordPlace is_thread (c k).objects p) × (old.r ≡ word.r) × (old.i ≡ word.i)
    old_word none p word = elim (came_at p word) [ was_there old same_r same_i ↦ (old, same_r, same_i) | is_new_one v sets gone is_zero ↦ absurd (none (subst IsHeader (sym sets) tt)) ]

    to_old : (r i q j x : ℕ) → q ≡ r → j ≡ i → settled k q j ≡ x → settled k r i ≡ x
    to_old r i q j x same_r same_i is = ap (λ n. settled k n i) (sym same_r) ∙ ap (settled k q) (sym same_i) ∙ is

    others_same : (u : ℕ) → u ≢ t → back (suc k) u ≡ back k u
    others_same u other = steps.others_back code b is_thread first classes c acts run doomed tells k t step a here at u other

    -- ---- a word is put back

    module _ (p o : ℕ) (sets : step ≡ RestoreWord p o) (x : Noted) (rest : List Noted) (first_back : back k t ≡ x ∷ rest) (rest_back : back (suc k) t ≡ rest) (x_at : x.at ≡ p) (x_old : x.old ≡ o)
        (same_settled : (r i : ℕ) → settled (suc k) r i ≡ settled k r i) where
      restored : heap_of (c (suc k)).words p ≡ o
      restored = heap_then p ∙ ap (λ s. words_after s (c k).words (Area.Object p)) sets ∙ put_object (c k).words p o

      still : (q : ℕ) → q ≢ p → heap_of (c (suc k)).words q ≡ heap_of (c k).words q
      still q other = elsewhere p q (ap place_of sets) other

      no_header : IsHeader step → ⊥
      no_header is = subst IsHeader sets is

      -- the words after the step are those with the first one put back
      put_heap : (q : ℕ) → heap_of (c (suc k)).words q ≡ set_at (heap_of (c k).words) x.at x.old q
      put_heap q = elim (same_or_other q x.at) [
        | inl same ↦ ap (heap_of (c (suc k)).words) (same ∙ x_at) ∙ restored ∙ sym x_old ∙ sym (set_at-hit (heap_of (c k).words) x.at x.old) ∙ ap (set_at (heap_of (c k).words) x.at x.old) (sym same)
        | inr other ↦ still q (λ same. other (same ∙ sym x_at)) ∙ sym (set_at-other (heap_of (c k).words) x.at x.old q other)
      ]

      stands_then : (q : ℕ) (word : IsWordPlace is_thread (c (suc k)).objects q) → ((u : ℕ) → notes q (back (suc k) u) ≡ false) → settled (suc k) word.r word.i ≡ value_of (heap_of (c (suc k)).words q)
      stands_then q word nobody =
          let old = old_word no_header q word in
          same_settled word.r word.i ∙ elim (same_or_other q x.at) [
            | inl same ↦
                let noted_t : notes q (back k t) ≡ true = ap (notes q) first_back ∙ subst (λ n. notes n (x ∷ rest) ≡ true) (sym same) (noted_first x rest) in
                to_old word.r word.i old.0.r old.0.i (value_of (heap_of (c (suc k)).words q)) old.1 old.2
                (before.put_back q t old.0 noted_t ∙ ap (λ log. value_of (replay log (heap_of (c k).words) q)) first_back
                ∙ ap value_of (replay_unnoted rest (set_at (heap_of (c k).words) x.at x.old) q (ap (notes q) (sym rest_back) ∙ nobody t)) ∙ ap value_of (sym (put_heap q)))
            | inr other ↦ to_old word.r word.i old.0.r old.0.i (value_of (heap_of (c (suc k)).words q)) old.1 old.2
                (before.stands q old.0 (λ u. unnoted q other u (nobody u)) ∙ ap value_of (sym (still q (λ same. other (same ∙ sym x_at)))))
          ]
        where
          unnoted : (q : ℕ) → q ≢ x.at → (u : ℕ) → notes q (back (suc k) u) ≡ false → notes q (back k u) ≡ false
          unnoted q other u none = elim (same_or_other u t) [
            | inl own ↦ ap (λ n. notes q (back k n)) own ∙ ap (notes q) first_back ∙ by_test (notes q (x ∷ rest)) refl (ap (notes q) (sym rest_back) ∙ ap (λ n. notes q (back (suc k) n)) (sym own) ∙ none)
            | inr apart ↦ ap (notes q) (sym (others_same u apart)) ∙ none
          ]
            where
              by_test : (z : Bool) → notes q (x ∷ rest) ≡ z → notes q rest ≡ false → notes q (x ∷ rest) ≡ false
              by_test false is none_rest = is
              by_test true is none_rest = elim (noted_or q x rest is) [ inl same ↦ absurd (other same) | inr later ↦ absurd (true≢false (sym later ∙ none_rest)) ]

      back_then : (q u : ℕ) (word : IsWordPlace is_thread (c (suc k)).objects q) → notes q (back (suc k) u) ≡ true → settled (suc k) word.r word.i ≡ value_of (replay (back (suc k) u) (heap_of (c (suc k)).words) q)
      back_then q u word has =
          let old = old_word no_header q word in
          same_settled word.r word.i ∙ to_old word.r word.i old.0.r old.0.i (value_of (replay (back (suc k) u) (heap_of (c (suc k)).words) q)) old.1 old.2 (elim (same_or_other u t) [
            | inl own ↦
                let noted_rest : notes q rest ≡ true = ap (notes q) (sym rest_back) ∙ ap (λ n. notes q (back (suc k) n)) (sym own) ∙ has in
                before.put_back q t old.0 (ap (notes q) first_back ∙ noted_more q x rest noted_rest) ∙ ap (λ log. value_of (replay log (heap_of (c k).words) q)) first_back
                ∙ ap value_of (replay_noted rest (set_at (heap_of (c k).words) x.at x.old) (heap_of (c (suc k)).words) q noted_rest)
                ∙ ap (λ log. value_of (replay log (heap_of (c (suc k)).words) q)) (sym rest_back) ∙ ap (λ n. value_of (replay (back (suc k) n) (heap_of (c (suc k)).words) q)) (sym own)
            | inr apart ↦
                let same = others_same u apart in
                let had : notes q (back k u) ≡ true = ap (notes q) (sym same) ∙ has in
                before.put_back q u old.0 had ∙ ap value_of (replay_noted (back k u) (heap_of (c k).words) (heap_of (c (suc k)).words) q had)
                ∙ ap (λ log. value_of (replay log (heap_of (c (suc k)).words) q)) (sym same)
          ])

      pub put_settled : SettledAt (suc k)
      put_settled = record { stands = stands_then; put_back = back_then; none = λ r i gone. same_settled r i ∙ before.none r i (none_before r gone) }

    -- ---- a word is overwritten

    module _ (r i v old : ℕ) (wants : code.next at.from.local ≡ Want (Write r i v)) (sets : step ≡ SwapWord (word_place r i) old (written_word at.from v)) (done : a ≡ StepAnswer.Done)
        (seen : told code b at.from step a ≡ advanced (Some Reply.Done)) where
      found : heap_of (c k).words (word_place r i) ≡ old
      found = (exchanged (c k).words (Area.Object (word_place r i)) old (written_word at.from v) (sym done ∙ at.answered ∙ ap (answer_of (c k).words) sets)).found

      new : heap_of (c (suc k)).words (word_place r i) ≡ written_word at.from v
      new = heap_then (word_place r i) ∙ ap (λ s. words_after s (c k).words (Area.Object (word_place r i))) sets
          ∙ ap (λ (z : Words). z (Area.Object (word_place r i))) (exchanged (c k).words (Area.Object (word_place r i)) old (written_word at.from v) (sym done ∙ at.answered ∙ ap (answer_of (c k).words) sets)).leaves
          ∙ put_object (c k).words (word_place r i) (written_word at.from v)

      untouched : (q : ℕ) → q ≢ word_place r i → heap_of (c (suc k)).words q ≡ heap_of (c k).words q
      untouched q other = elsewhere (word_place r i) q (ap place_of sets) other

      header_none : IsHeader step → ⊥
      header_none is = subst IsHeader sets is

      all_fit : FitsObjects is_thread (c k).objects (Write r i v)
      all_fit = run.laid.wants k t at.from (Write r i v) within at.stands wants

      one_is : (q : ℕ) (word : IsWordPlace is_thread (c k).objects q) → q ≡ word_place r i → (word.r ≡ r) × (word.i ≡ i)
      one_is q word same = by_object ((c k).objects r) refl all_fit.1
        where
          less : (j i : ℕ) → 2 + j ≡ 2 + i → j ≡ i
          less j i is = omega (arith, is)

          by_object : (o : Option Object) → (c k).objects r ≡ o → IsSomeAnd o (λ x. i < x.words) → (word.r ≡ r) × (word.i ≡ i)
          by_object None there low = absurd low
          by_object (Some o) there low =
              let word_low = word.low in
              let word_at = word.place in
              let one = one_place (c k).objects (runs_keep_layout code b is_thread c acts run.laid k up).apart word.r r word.o o word.there there (2 + word.i) (2 + i) (omega (arith, word_low)) (omega (arith, low))
              (omega (arith, word_at, same)) in
              (one.0, less word.i i one.1)

      -- nobody else is to put it back
      others_none : (u : ℕ) → u ≢ t → notes (word_place r i) (back k u) ≡ true → ⊥
      others_none u other has = steps.safe_unnoted code b is_thread first classes c acts run doomed tells k t u (word_place r i) at.from up at.stands other
          (subst (λ n. is_safe at.from n ≡ true) (sym found) (writer code b is_thread first classes c acts run k t step a here at (noted_at code b is_thread first classes c acts run k up) (word_place r i) old (written_word at.from v) sets done)) has

      there_not_none : (q : ℕ) → (c k).objects q ≡ None → q ≡ r → ⊥
      there_not_none q none same = by_object ((c k).objects r) refl all_fit.1
        where
          by_object : (o : Option Object) → (c k).objects r ≡ o → IsSomeAnd o (λ x. i < x.words) → ⊥
          by_object None there low = low
          by_object (Some o) there low = none_some o (sym none ∙ ap (c k).objects same ∙ there)

      false_or : (z : Bool) → (z ≡ true → ⊥) → z ≡ false
      false_or true other = absurd (other refl)
      false_or false other = refl

      -- ---- the thread has nothing to undo

      module _ (none : to_undo doomed ((c k).levels t) ≡ 0) (was_empty : back k t ≡ []) (is_empty : back (suc k) t ≡ []) where
        settled_by : (q j : ℕ) → settled (suc k) q j ≡ set_at (settled k) r (set_at (settled k r) i v) q j
        settled_by q j = seen_settled none q j ∙ ap (λ n. words_by (told code b at.from step a) n (settled k) q j) wants ∙ ap (λ s. words_by s (Want (Write r i v)) (settled k) q j) seen

        here_value : (q j : ℕ) → q ≡ r → j ≡ i → settled (suc k) q j ≡ v
        here_value q j same_q same_j = settled_by q j ∙ ap (λ n. set_at (settled k) r (set_at (settled k r) i v) n j) same_q ∙ ap (set_at (settled k) r (set_at (settled k r) i v) r) same_j ∙ set_here (settled k) r i v

        there_value : (q j : ℕ) → (q ≡ r → j ≢ i) → settled (suc k) q j ≡ settled k q j
        there_value q j other = settled_by q j ∙ set_elsewhere (settled k) r i v q j other

        apart_value : (q : ℕ) (word : IsWordPlace is_thread (c (suc k)).objects q) → q ≢ word_place r i → settled (suc k) word.r word.i ≡ settled k word.r word.i
        apart_value q word other = there_value word.r word.i (λ same_r same_i. other (word.place ∙ ap (λ n. word_place n word.i) same_r ∙ ap (word_place r) same_i))

        back_same : (u : ℕ) → back (suc k) u ≡ back k u
        back_same u = elim (same_or_other u t) [
          | inl own ↦ ap (back (suc k)) own ∙ is_empty ∙ sym was_empty ∙ ap (back k) (sym own)
          | inr other ↦ others_same u other
        ]

        pub kept_write : SettledAt (suc k)
        kept_write = record {
          stands = λ q word nobody.
              let was = old_word header_none q word in
              elim (same_or_other q (word_place r i)) [
                | inl same ↦
                    let one = one_is q was.0 same in
                    here_value word.r word.i (sym was.1 ∙ one.0) (sym was.2 ∙ one.1) ∙ sym (value_written v (pack_tag at.from.section at.from.levels) all_fit.0.2) ∙ ap value_of (sym new) ∙ ap (λ n. value_of (heap_of (c (suc k)).words n)) (sym same)
                | inr other ↦ apart_value q word other ∙ to_old word.r word.i was.0.r was.0.i (value_of (heap_of (c (suc k)).words q)) was.1 was.2
                    (before.stands q was.0 (λ u. ap (notes q) (sym (back_same u)) ∙ nobody u) ∙ ap value_of (sym (untouched q other)))
              ];
          put_back = λ q u word has.
              let was = old_word header_none q word in
              let had : notes q (back k u) ≡ true = ap (notes q) (sym (back_same u)) ∙ has in
              elim (same_or_other q (word_place r i)) [
                | inl same ↦ absurd (elim (same_or_other u t) [
                  | inl own ↦ true≢false (sym had ∙ ap (λ n. notes q (back k n)) own ∙ ap (notes q) was_empty)
                  | inr other ↦ others_none u other (subst (λ n. notes n (back k u) ≡ true) same had)
                ])
                | inr other ↦ apart_value q word other ∙ to_old word.r word.i was.0.r was.0.i (value_of (replay (back (suc k) u) (heap_of (c (suc k)).words) q)) was.1 was.2
                    (before.put_back q u was.0 had ∙ ap value_of (replay_noted (back k u) (heap_of (c k).words) (heap_of (c (suc k)).words) q had)
                    ∙ ap (λ log. value_of (replay log (heap_of (c (suc k)).words) q)) (sym (back_same u)))
              ];
          none = λ q j gone. there_value q j (λ same. absurd (there_not_none q (none_before q gone) same)) ∙ before.none q j (none_before q gone);
        }

      -- ---- the thread is to be undone

      module _ (same_settled : (q j : ℕ) → settled (suc k) q j ≡ settled k q j) (more : back (suc k) t ≡ record { at = word_place r i; old = old } ∷ back k t) where
        noted_here : notes (word_place r i) (back (suc k) t) ≡ true
        noted_here = ap (notes (word_place r i)) more ∙ noted_first (record { at = word_place r i; old = old }) (back k t)

        unnoted_before : (q u : ℕ) → notes q (back (suc k) u) ≡ false → notes q (back k u) ≡ false
        unnoted_before q u none = elim (same_or_other u t) [
          | inl own ↦ false_or (notes q (back k u)) (λ has. true≢false (sym (ap (λ n. notes q (back (suc k) n)) own ∙ ap (notes q) more
              ∙ noted_more q (record { at = word_place r i; old = old }) (back k t) (ap (λ n. notes q (back k n)) (sym own) ∙ has)) ∙ none))
          | inr other ↦ ap (notes q) (sym (others_same u other)) ∙ none
        ]

        own_put_back : (q : ℕ) (was : IsWordPlace is_thread (c k).objects q) → notes q (back (suc k) t) ≡ true → settled k was.r was.i ≡ value_of (replay (back (suc k) t) (heap_of (c (suc k)).words) q)
        own_put_back q was has = by_test (notes q (back k t)) refl
          where
            after : value_of (replay (back k t) (set_at (heap_of (c (suc k)).words) (word_place r i) old) q) ≡ value_of (replay (back (suc k) t) (heap_of (c (suc k)).words) q)
            after = ap (λ log. value_of (replay log (heap_of (c (suc k)).words) q)) (sym more)

            nobody : q ≡ word_place r i → notes q (back k t) ≡ false → (u : ℕ) → notes q (back k u) ≡ false
            nobody same none u = elim (same_or_other u t) [
              | inl own ↦ ap (λ n. notes q (back k n)) own ∙ none
              | inr other ↦ false_or (notes q (back k u)) (λ also. others_none u other (subst (λ n. notes n (back k u) ≡ true) same also))
            ]

            first_one : notes q (back k t) ≡ false → q ≡ word_place r i
            first_one none = elim (noted_or q (record { at = word_place r i; old = old }) (back k t) (ap (notes q) (sym more) ∙ has)) [ inl same ↦ same | inr later ↦ absurd (true≢false (sym later ∙ none)) ]

            by_test : (z : Bool) → notes q (back k t) ≡ z → settled k was.r was.i ≡ value_of (replay (back (suc k) t) (heap_of (c (suc k)).words) q)
            by_test true is = before.put_back q t was is ∙ ap value_of (replay_noted (back k t) (heap_of (c k).words) (set_at (heap_of (c (suc k)).words) (word_place r i) old) q is) ∙ after
            by_test false is =
                let same = first_one is in
                before.stands q was (nobody same is) ∙ ap (λ n. value_of (heap_of (c k).words n)) same ∙ ap value_of found
                ∙ ap value_of (sym (replay_unnoted (back k t) (set_at (heap_of (c (suc k)).words) (word_place r i) old) q is ∙ ap (set_at (heap_of (c (suc k)).words) (word_place r i) old) same
                ∙ set_at-hit (heap_of (c (suc k)).words) (word_place r i) old)) ∙ after

        pub noted_write : SettledAt (suc k)
        noted_write = record {
          stands = λ q word nobody.
              let was = old_word header_none q word in
              let other : q ≢ word_place r i = λ same. true≢false (sym noted_here ∙ ap (λ n. notes n (back (suc k) t)) (sym same) ∙ nobody t) in
              same_settled word.r word.i ∙ to_old word.r word.i was.0.r was.0.i (value_of (heap_of (c (suc k)).words q)) was.1 was.2
              (before.stands q was.0 (λ u. unnoted_before q u (nobody u)) ∙ ap value_of (sym (untouched q other)));
          put_back = λ q u word has.
              let was = old_word header_none q word in
              same_settled word.r word.i ∙ to_old word.r word.i was.0.r was.0.i (value_of (replay (back (suc k) u) (heap_of (c (suc k)).words) q)) was.1 was.2 (elim (same_or_other u t) [
                | inl own ↦ own_put_back q was.0 (ap (λ n. notes q (back (suc k) n)) (sym own) ∙ has) ∙ ap (λ n. value_of (replay (back (suc k) n) (heap_of (c (suc k)).words) q)) (sym own)
                | inr other ↦
                    let had : notes q (back k u) ≡ true = ap (notes q) (sym (others_same u other)) ∙ has in
                    before.put_back q u was.0 had ∙ ap value_of (replay_noted (back k u) (heap_of (c k).words) (heap_of (c (suc k)).words) q had)
                    ∙ ap (λ log. value_of (replay log (heap_of (c (suc k)).words) q)) (sym (others_same u other))
              ]);
          none = λ q j gone. same_settled q j ∙ before.none q j (none_before q gone);
        }
