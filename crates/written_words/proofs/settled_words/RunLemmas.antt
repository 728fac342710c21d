-- The words are settled at each place of a run, and reads that are left find the settled values.
use Rattle.std.proofs.Common.{◌≡◌, ◌≢◌, inl, inr, ℕ, zero, suc, ◌+◌, ◌-◌, ◌<◌, ◌≤◌, ◌&&◌, Bool, true, false, true≢false, Option, None, Some, List, [], ◌∷◌, length, drop, nat_eq, refl, sym, ◌∙◌, ap, subst, arith}
use Rattle.std.specs.Prelude.{nat_lt, nat_le, slice_get, if◌then◌else◌}
use Rattle.std.proofs.lemmas.Grind.{common_steps}
use Rattle.std.proofs.lemmas.Bool.Decides.{nat_tests}
use Rattle.std.proofs.lemmas.List.{get_or-drop}
use Rattle.std.proofs.lemmas.Option.{slice_get_within}
use Rattle.op_core.specs.declared.Op.TheVariants.{Write}
use Rattle.op_core.specs.declared.Next.TheVariants.{Want}
use Rattle.op_core.specs.declared.Reply.{Reply}
use Rattle.op_core.specs.ThreadCode.{Code}
use Rattle.op_core.specs.OrdinaryState.{set_at, Object}
use Rattle.op_core.proofs.PointwiseLemmas.{same_or_other, set_at-hit, set_at-other}
use Rattle.heap_words.specs.declared.areas.Area.{Area}
use Rattle.heap_words.specs.Words.{value_of}
use Rattle.section_state.specs.SectionWord.{revoke_of}
use Rattle.write_log.specs.declared.Noted.{Noted}
use Rattle.step_port.specs.declared.answer.StepAnswer.{StepAnswer}
use Rattle.step_port.specs.declared.step.Step.{Step}
use Rattle.step_port.specs.declared.step.Step.TheVariants.{SwapWord, RestoreWord}
use Rattle.thread_automaton.specs.declared.Bounds.{Bounds}
use Rattle.thread_automaton.specs.declared.Attempt.TheVariants.{Undoing}
use Rattle.thread_automaton.specs.ThreadState.{ThreadState, Mark, no_mark, nth_or, is_open, mark_of, from_level}
use Rattle.thread_automaton.specs.NextMove.{word_place, deepened_since, undo_next}
use Rattle.thread_automaton.specs.Checks.{noted, written_word}
use Rattle.thread_automaton.specs.Told.{advanced, told, after_answer, after_quiet}
use Rattle.core_runs.specs.Cores.{Core}
use Rattle.core_runs.specs.Acts.{Act, quiet, did, beside, DidAt, ActAt}
use Rattle.core_runs.specs.Reading.{ordinary}
use Rattle.ordinary_words.specs.Reading.{word_in}
use Rattle.section_laws.specs.Runs.{IsRun}
use Rattle.section_laws.proofs.DeedLemmas.{makes_it}
use Rattle.section_laws.proofs.RunLemmas.{along}
use Rattle.section_laws.specs.Marks.{MarksFall, counting_marks}
use Rattle.section_laws.proofs.level_marks.RunLemmas.{marks_fall}
use Rattle.section_laws.proofs.level_marks.RowLemmas.{NoUndo, all_count}
use Rattle.section_laws.specs.Layout.{IsWordPlace}
use Rattle.section_laws.proofs.run_layout.RunLemmas.{beside_object}
use Rattle.first_law.proofs.run_monitors.StageLemmas.{undoes_none}
use Rattle.section_laws.specs.Settled.{to_undo, words_back, notes}
use Rattle.section_laws.proofs.settled_lists.PartLemmas.{noted_back}
use Rattle.first_law.specs.SettledRuns.{IsDoomedTest}
use Rattle.first_law.proofs.settled_monitors.DoomedLemmas.{doomed_open}
use Rattle.written_words.specs.Noted.{IsTaggedRun, heap_of}
use Rattle.written_words.proofs.noted_words.TurnLemmas.{SetsNoWord, marks_of, drops_levels, forgets_all, opens_one, writes_word, puts_word_back}
use Rattle.written_words.proofs.noted_words.StepLemmas.{IsRestore}
use Rattle.written_words.proofs.noted_words.DidLemmas.{turn}
use Rattle.written_words.proofs.noted_words.RunLemmas.{noted_at}
use Rattle.written_words.proofs.noted_words.TagLemmas.{PutsFirst, puts_first}
use Rattle.written_words.specs.SettledWords.{AreSettledWords, back_words, WordsAreSettled, WordsSettle}
use Rattle.written_words.proofs.settled_words.ReplayLemmas.{none_back}
use Rattle.written_words.proofs.settled_words.TurnLemmas.{Unseen, calm, opens, closes, ends_all, undone, writes, puts}
use Rattle.written_words.proofs.settled_words.RoundLemmas as rounds
use Rattle.written_words.proofs.settled_words.StepLemmas as steps
use Rattle.written_words.proofs.settled_words.SettleLemmas as settles

-- ---- marks and logs

-- each mark was made when no more was logged
pub falls_at : (n l : ℕ) (marks : List Mark) → MarksFall l marks → (nth_or no_mark n marks).noted ≤ l
falls_at n l [] falls = omega arith
falls_at zero l (m ∷ marks) falls = falls.0
falls_at (suc n) l (m ∷ marks) falls = let first = falls.0 in let later = falls_at n m.noted marks falls.2 in omega (arith, first, later)

module _ {S : Type 0} (code : Code S) (b : Bounds) (is_thread : ℕ → Bool) (first : S) (classes : ℕ) (c : ℕ → Core S) (acts : List Act) (run : IsTaggedRun code b is_thread first classes c acts) (doomed : ℕ → Bool)
    (tells : IsDoomedTest c acts doomed) (settled : ℕ → ℕ → ℕ → ℕ) (are : AreSettledWords code b is_thread doomed c acts settled) where
  ran : IsRun code b c acts
  ran = run.monitors.levelled.ordered.run

  abbrev SettledAt : ℕ → Type 0
  SettledAt k = WordsAreSettled is_thread doomed (c k) (settled k)

  abbrev back : ℕ → ℕ → List Noted
  back k u = steps.back code b is_thread first classes c acts run doomed tells k u

  module _ (k t : ℕ) (step : Step) (a : StepAnswer) (here : slice_get acts k ≡ Some (did t step a)) (at : DidAt code b c k t step a) (before : SettledAt k) where
    within : k < length acts
    within = slice_get_within acts k (did t step a) here

    up : k ≤ length acts
    up = let low = within in omega (arith, low)

    abbrev y : ThreadState S
    y = after_answer code b at.from step a

    was_back : back k t ≡ words_back (to_undo doomed ((c k).levels t)) at.from.marks at.from.log
    was_back = steps.was_back code b is_thread first classes c acts run doomed tells k t step a here at

    -- where the levels stay
    now_back : rounds.levels_then code b is_thread first classes c acts run k t step a here at ≡ (c k).levels t → back (suc k) t ≡ words_back (to_undo doomed ((c k).levels t)) y.marks y.log
    now_back same = steps.own_back code b is_thread first classes c acts run doomed tells k t step a here at ∙ ap (λ l. words_back (to_undo doomed l) y.marks y.log) same

    -- ---- a word is put back

    -- the marks that count were made when no more was logged than is left
    falls_then : (w p o : ℕ) → at.from.attempt ≡ Undoing w → step ≡ RestoreWord p o → MarksFall (length (drop 1 at.from.log)) (drop (at.from.levels - revoke_of w) at.from.marks)
    falls_then w p o undoing sets = subst (λ g. MarksFall (length (drop 1 at.from.log)) (counting_marks g at.from.levels at.from.marks)) undoing (elim (turn code b is_thread first classes c acts run k t step a here at
        (noted_at code b is_thread first classes c acts run k up)) [
          | drops_levels j none section log top marks ↦ absurd (subst (λ s. SetsNoWord s a) sets none)
          | forgets_all none log ↦ absurd (subst (λ s. SetsNoWord s a) sets none)
          | opens_one m none section log noted top marks ↦ absurd (subst (λ s. SetsNoWord s a) sets none)
          | writes_word r i v old wants swaps done safe section log whole top marks ↦ absurd (subst IsRestore (sym sets ∙ swaps) tt)
          | puts_word_back u q x also puts_it does section log top marks ↦ subst (λ ms. MarksFall (length (drop 1 at.from.log)) ms) marks (subst (λ l. MarksFall (length l) (marks_of y)) log
              (marks_fall code b first classes c acts run.monitors.levelled.ordered (suc k) t y within (rounds.own_there code b is_thread first classes c acts run k t step a here at)))
        ])

    put_so : (w p o : ℕ) → at.from.attempt ≡ Undoing w → step ≡ RestoreWord p o → undo_next at.from w (revoke_of w) ≡ RestoreWord p o → Unseen (told code b at.from step a) (code.next at.from.local)
        → rounds.levels_then code b is_thread first classes c acts run k t step a here at ≡ (c k).levels t → y.log ≡ drop 1 at.from.log → y.marks ≡ at.from.marks → SettledAt (suc k)
    put_so w p o undoing sets does unseen same log marks = by_count (to_undo doomed ((c k).levels t)) refl
      where
        counts : suc (length ((c k).levels t)) ≤ revoke_of w + to_undo doomed ((c k).levels t)
        counts = ((steps.around code b is_thread first classes c acts run doomed tells k t step a here at).undoing w undoing).2

        low : revoke_of w ≤ length ((c k).levels t)
        low = ((steps.around code b is_thread first classes c acts run doomed tells k t step a here at).undoing w undoing).1

        counted : length ((c k).levels t) ≡ at.from.levels
        counted = (steps.around code b is_thread first classes c acts run doomed tells k t step a here at).counted

        noted_first : PutsFirst (mark_of at.from (revoke_of w)).noted p o at.from.log
        noted_first = puts_first (mark_of at.from (revoke_of w)).noted at.from.section w p o at.from.log (deepened_since (mark_of at.from (revoke_of w)) at.from.held) (from_level (revoke_of w) at.from.held) does

        no_count : (n l r : ℕ) → n ≡ 0 → suc l ≤ r + n → r ≤ l → ⊥
        no_count n l r none deep low = omega (arith, none, deep, low)

        by_count : (n : ℕ) → to_undo doomed ((c k).levels t) ≡ n → SettledAt (suc k)
        by_count zero is = absurd (no_count (to_undo doomed ((c k).levels t)) (length ((c k).levels t)) (revoke_of w) is counts low)
        by_count (suc m) is =
            settles.put_settled code b is_thread first classes c acts run doomed tells settled are k t step a here at before p o sets noted_first.x (words_back (suc m) at.from.marks (drop 1 at.from.log))
            (was_back ∙ ap (λ n. words_back n at.from.marks at.from.log) is ∙ first_noted)
            (now_back same ∙ ap (λ n. words_back n y.marks y.log) is ∙ ap (λ ms. words_back (suc m) ms y.log) marks ∙ ap (words_back (suc m) at.from.marks) log)
            noted_first.here noted_first.old (settles.unseen_settled code b is_thread first classes c acts run doomed tells settled are k t step a here at before unseen)
          where
            inside : (l y r n m : ℕ) → l ≡ y → suc l ≤ r + n → n ≡ suc m → (y - r) + (m - (y - r)) ≡ m
            inside l y r n m same deep is = omega (arith, same, deep, is)

            -- the outermost level that is to be undone opened with no more logged
            fewer : (nth_or no_mark m at.from.marks).noted ≤ length (drop 1 at.from.log)
            fewer = subst (λ j. (nth_or no_mark j at.from.marks).noted ≤ length (drop 1 at.from.log))
                (inside (length ((c k).levels t)) at.from.levels (revoke_of w) (to_undo doomed ((c k).levels t)) m counted counts is)
                (subst (λ (x : Mark). x.noted ≤ length (drop 1 at.from.log)) (get_or-drop (at.from.levels - revoke_of w) at.from.marks (m - (at.from.levels - revoke_of w)) no_mark)
                (falls_at (m - (at.from.levels - revoke_of w)) (length (drop 1 at.from.log)) (drop (at.from.levels - revoke_of w) at.from.marks) (falls_then w p o undoing sets)))

            first_noted : words_back (suc m) at.from.marks at.from.log ≡ noted_first.x ∷ words_back (suc m) at.from.marks (drop 1 at.from.log)
            first_noted = ap (words_back (suc m) at.from.marks) noted_first.whole ∙ noted_back m at.from.marks noted_first.x (drop 1 at.from.log) fewer

    -- ---- a word is overwritten

    write_so : (r i v old : ℕ) → code.next at.from.local ≡ Want (Write r i v) → step ≡ SwapWord (word_place r i) old (written_word at.from v) → a ≡ StepAnswer.Done
        → told code b at.from step a ≡ advanced (Some Reply.Done) → rounds.levels_then code b is_thread first classes c acts run k t step a here at ≡ (c k).levels t
        → y.log ≡ noted at.from (word_place r i) old → y.marks ≡ at.from.marks → SettledAt (suc k)
    write_so r i v old wants sets done seen same log marks = by_count (to_undo doomed ((c k).levels t)) refl
      where
        now : (n : ℕ) → to_undo doomed ((c k).levels t) ≡ n → back (suc k) t ≡ words_back n at.from.marks (noted at.from (word_place r i) old)
        now n is = now_back same ∙ ap (λ m. words_back m y.marks y.log) is ∙ ap (λ ms. words_back n ms y.log) marks ∙ ap (words_back n at.from.marks) log

        was : (n : ℕ) → to_undo doomed ((c k).levels t) ≡ n → back k t ≡ words_back n at.from.marks at.from.log
        was n is = was_back ∙ ap (λ m. words_back m at.from.marks at.from.log) is

        by_count : (n : ℕ) → to_undo doomed ((c k).levels t) ≡ n → SettledAt (suc k)
        by_count zero is = settles.kept_write code b is_thread first classes c acts run doomed tells settled are k t step a here at before r i v old wants sets done seen is (was zero is) (now zero is)
        by_count (suc m) is = settles.noted_write code b is_thread first classes c acts run doomed tells settled are k t step a here at before r i v old wants sets done seen
            (settles.kept_settled code b is_thread first classes c acts run doomed tells settled are k t step a here at before some)
            (now (suc m) is ∙ ap (λ test. words_back (suc m) at.from.marks (if test then record { at = word_place r i; old = old } ∷ at.from.log else at.from.log)) open_so
            ∙ noted_back m at.from.marks (record { at = word_place r i; old = old }) at.from.log (falls_at m (length at.from.log) at.from.marks falls) ∙ ap (λ xs. record { at = word_place r i; old = old } ∷ xs) (sym (was (suc m) is)))
          where
            some : 0 < to_undo doomed ((c k).levels t)
            some = subst (λ n. 0 < n) (sym is) (omega arith)

            open_so : is_open at.from ≡ true
            open_so = doomed_open code b first classes c acts run.monitors.levelled doomed tells k t at.from up at.stands some

            falls : MarksFall (length at.from.log) at.from.marks
            falls = subst (MarksFall (length at.from.log)) (all_count at.from.attempt at.from.levels at.from.marks
                (undoes_none code at.from (code.next at.from.local) step at.from.attempt (makes_it at.from.over (nat_le b.limits.turns at.from.counted) _ step at.move) (subst NoUndo (sym sets) tt)))
                (marks_fall code b first classes c acts run.monitors.levelled.ordered k t at.from up at.stands)

    -- ---- all turns

    calm_so : SetsNoWord step a → Unseen (told code b at.from step a) (code.next at.from.local) → SettledAt (suc k)
    calm_so none unseen = settles.calm_settled code b is_thread first classes c acts run doomed tells settled are k t step a here at before none unseen

    did_settled : SettledAt (suc k)
    did_settled = elim (rounds.turn code b is_thread first classes c acts run k t step a here at) [
      | calm none unseen same leaves ↦ calm_so none unseen
      | opens silents held none unseen same leaves ↦ calm_so none unseen
      | closes n none unseen other same leaves ↦ calm_so none unseen
      | ends_all none unseen other same ↦ calm_so none unseen
      | undone w s v none unseen undoing is noted same leaves ↦ calm_so none unseen
      | writes r i v old wants sets done seen same log marks ↦ write_so r i v old wants sets done seen same log marks
      | puts w p o undoing sets does unseen same log marks ↦ put_so w p o undoing sets does unseen same log marks
    ]

  -- ---- silent moves, and steps beside those of threads

  still : (k : ℕ) → k < length acts → ((p : ℕ) → heap_of (c (suc k)).words p ≡ heap_of (c k).words p) → ((u : ℕ) → back (suc k) u ≡ back k u) → ((r i : ℕ) → settled (suc k) r i ≡ settled k r i)
      → (c (suc k)).objects ≡ (c k).objects → SettledAt k → SettledAt (suc k)
  still k within same_heap same_back same_settled same_objects before =
      settles.stays_settled code b is_thread first classes c acts run doomed tells settled are k within (λ p word. same_heap p) same_back same_settled (λ r none. ap (λ (f : ℕ → Option Object). f r) (sym same_objects) ∙ none)
      (λ p word. inl (record { r = word.r; i = word.i; o = word.o; there = ap (λ (f : ℕ → Option Object). f word.r) (sym same_objects) ∙ word.there; low = word.low; place = word.place; kept = word.kept }, refl, refl))
      (λ p u has. steps.word_logged code b is_thread first classes c acts run doomed tells k u p (low k within) (steps.puts_back code b is_thread first classes c acts run doomed tells k u p has)) before
    where
      low : (k : ℕ) → k < length acts → k ≤ length acts
      low k within = omega (arith, within)

  act_settled : (k : ℕ) (act : Act) → slice_get acts k ≡ Some act → ActAt code b c k act → SettledAt k → SettledAt (suc k)
  act_settled k (quiet t) here at before = still k (slice_get_within acts k (quiet t) here) (λ p. ap (λ (core : Core S). heap_of core.words p) at.leads) same_back (are.goes_on k (quiet t) here)
      (ap (λ (core : Core S). core.objects) at.leads) before
    where
      same_back : (u : ℕ) → back (suc k) u ≡ back k u
      same_back u = ap (λ (core : Core S). back_words doomed (core.levels u) (core.threads u)) at.leads ∙ elim (same_or_other u t) [
        | inl own ↦ ap (back_words doomed ((c k).levels u)) (ap (set_at (c k).threads t (Some (after_quiet at.from at.local))) own ∙ set_at-hit (c k).threads t (Some (after_quiet at.from at.local)))
            ∙ ap (back_words doomed ((c k).levels u)) (sym (ap (c k).threads own ∙ at.stands))
        | inr other ↦ ap (back_words doomed ((c k).levels u)) (set_at-other (c k).threads t (Some (after_quiet at.from at.local)) u other)
      ]
  act_settled k (did t step a) here at before = did_settled k t step a here at before
  act_settled k (beside t step a) here at before = still k (slice_get_within acts k (beside t step a) here) (λ p. ap (λ (core : Core S). heap_of core.words p) at.leads ∙ beside_object step at.is (c k).words p)
      (λ u. ap (λ (core : Core S). back_words doomed (core.levels u) (core.threads u)) at.leads) (are.goes_on k (beside t step a) here) (ap (λ (core : Core S). core.objects) at.leads) before

  -- ---- at the beginning

  nobody_first : (u : ℕ) → back 0 u ≡ []
  nobody_first u = by_thread ((c 0).threads u) refl
    where
      by_thread : (o : Option (ThreadState S)) → (c 0).threads u ≡ o → back_words doomed ((c 0).levels u) o ≡ []
      by_thread None is = refl
      by_thread (Some th) is = ap (λ (x : ThreadState S). words_back (to_undo doomed ((c 0).levels u)) x.marks x.log) (ran.begins.threads u th is).3 ∙ none_back (to_undo doomed ((c 0).levels u)) []

  reads_word : (p : ℕ) (word : IsWordPlace is_thread (c 0).objects p) → (ordinary code is_thread (c 0)).words word.r word.i ≡ value_of (heap_of (c 0).words p)
  reads_word p word = ap (word_in is_thread (c 0).words word.r word.i) word.there ∙ ap (λ test. if test then (if is_thread word.o.class && nat_eq word.i 1 then 0 else value_of ((c 0).words (Area.Object (word_place word.r word.i)))) else 0) (is_less word.i word.o.words word.low)
      ∙ ap (λ test. if test then 0 else value_of ((c 0).words (Area.Object (word_place word.r word.i)))) (not_start (is_thread word.o.class) word.i word.kept) ∙ ap (λ n. value_of (heap_of (c 0).words n)) (sym word.place)
    where
      is_less : (i n : ℕ) → i < n → nat_lt i n ≡ true
      is_less i n low = grind (arith, common_steps, nat_tests)

      not_one : (i : ℕ) → i ≢ 1 → nat_eq i 1 ≡ false
      not_one i other = by_test (nat_eq i 1) refl
        where
          same : (i : ℕ) → nat_eq i 1 ≡ true → i ≡ 1
          same i is = grind (arith, common_steps, nat_tests)

          by_test : (z : Bool) → nat_eq i 1 ≡ z → nat_eq i 1 ≡ false
          by_test true is = absurd (other (same i is))
          by_test false is = is

      not_start : (thread : Bool) (i : ℕ) → (thread ≡ true → i ≢ 1) → (thread && nat_eq i 1) ≡ false
      not_start true i kept = not_one i (kept refl)
      not_start false i kept = refl

  first_settled : SettledAt 0
  first_settled = record {
    stands = λ p word nobody. are.begins word.r word.i ∙ reads_word p word;
    put_back = λ p t word has. absurd (true≢false (sym has ∙ ap (notes p) (nobody_first t)));
    none = λ r i gone. are.begins r i ∙ ap (word_in is_thread (c 0).words r i) gone;
  }

  pub settled_at : (k : ℕ) → k ≤ length acts → SettledAt k
  settled_at k within = along code b c acts ran.leads SettledAt first_settled (λ n act here at before. act_settled n act here at before) k within

pub words_settle : {S : Type 0} (code : Code S) → WordsSettle code
words_settle code b is_thread first classes c acts run doomed tells settled are k within = settled_at code b is_thread first classes c acts run doomed tells settled are k within
