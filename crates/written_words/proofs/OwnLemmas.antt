-- What each open level of a thread has written, with each step of the thread itself.
use Rattle.std.proofs.Common.{◌≡◌, inl, inr, ℕ, zero, suc, ◌+◌, ◌-◌, ◌<◌, ◌≤◌, Bool, true, false, Some, List, [], ◌∷◌, length, drop, refl, sym, ◌∙◌, ap, subst, arith}
use Rattle.std.specs.Prelude.{nat_lt, nat_le, slice_get}
use Rattle.std.proofs.lemmas.Grind.{common_steps}
use Rattle.std.proofs.lemmas.Bool.Decides.{nat_tests}
use Rattle.std.proofs.lemmas.List.{get_or-drop}
use Rattle.std.proofs.lemmas.Option.{same_Some}
use Rattle.op_core.specs.declared.Op.TheVariants.{Write}
use Rattle.op_core.specs.declared.Next.TheVariants.{Want}
use Rattle.op_core.specs.ThreadCode.{Code}
use Rattle.op_core.specs.OrdinaryState.{set_at}
use Rattle.heap_words.specs.declared.areas.Area.TheVariants.{Section}
use Rattle.section_state.specs.SectionWord.{pinned_of, revoke_of}
use Rattle.step_port.specs.declared.answer.StepAnswer.{StepAnswer}
use Rattle.step_port.specs.declared.answer.StepAnswer.TheVariants.{Done}
use Rattle.step_port.specs.declared.step.Step.{Step}
use Rattle.step_port.specs.declared.step.Step.TheVariants.{SwapWord, RestoreWord}
use Rattle.thread_automaton.specs.declared.Bounds.{Bounds}
use Rattle.thread_automaton.specs.declared.Attempt.TheVariants.{Undoing}
use Rattle.thread_automaton.specs.declared.Held.{Held}
use Rattle.thread_automaton.specs.ThreadState.{ThreadState, Mark, no_mark, nth_or, is_open}
use Rattle.thread_automaton.specs.NextMove.{word_place, undo_next}
use Rattle.thread_automaton.specs.Checks.{written_word, noted}
use Rattle.thread_automaton.specs.Told.{after_answer}
use Rattle.core_runs.specs.Cores.{Core}
use Rattle.core_runs.specs.Acts.{Act, did, DidAt}
use Rattle.section_laws.specs.LevelRun.{In}
use Rattle.section_laws.specs.Runs.{IsRun}
use Rattle.section_laws.proofs.DeedLemmas.{makes_it}
use Rattle.section_laws.proofs.RunLemmas.{facts_at}
use Rattle.section_laws.proofs.own_sections.SeenLemmas.{undoing_seen}
use Rattle.section_laws.proofs.own_sections.MoveLemmas.{own_at, own_words_are_known}
use Rattle.section_laws.proofs.section_levels.RunLemmas.{counted_at}
use Rattle.section_laws.specs.Marks.{MarksFall}
use Rattle.section_laws.proofs.level_marks.RowLemmas.{NoUndo, all_count}
use Rattle.section_laws.proofs.level_marks.RunLemmas.{marks_fall}
use Rattle.section_laws.specs.OpenSections.{IsLiveOrRevoking}
use Rattle.first_law.proofs.run_monitors.StageLemmas.{undoes_none}
use Rattle.written_words.specs.Noted.{IsTaggedRun}
use Rattle.written_words.proofs.noted_words.TurnLemmas.{SetsNoWord}
use Rattle.written_words.proofs.noted_words.StepLemmas.{was_live, pins}
use Rattle.written_words.proofs.settled_words.RunLemmas.{falls_at}
use Rattle.written_words.proofs.settled_words.TurnLemmas.{Leaves, calm, opens, closes, ends_all, undone, writes, puts}
use Rattle.written_words.specs.Writers.{AreLevelsOf, Writers, log_of, writers}
use Rattle.written_words.specs.Tags.{OldWordsSay}
use Rattle.written_words.specs.Written.{has, HasWrittenSince}
use Rattle.written_words.proofs.LevelLemmas.{levels_at}
use Rattle.written_words.proofs.PlaceLemmas.{place_in, place_later, one_section, depth_at}
use Rattle.written_words.proofs.settled_words.RoundLemmas as rounds
use Rattle.written_words.proofs.TagLemmas.{old_length, AllBefore}
use Rattle.written_words.proofs.SinceLemmas.{has_not, since_opened, old_opened, since_same, since_written, since_put}
use Rattle.written_words.proofs.WrittenLemmas as written
use Rattle.written_words.proofs.PartLemmas as parts
use Rattle.written_words.proofs.PartLemmas.{some_section}

module _ {S : Type 0} (code : Code S) (b : Bounds) (is_thread : ℕ → Bool) (first : S) (classes : ℕ) (c : ℕ → Core S) (acts : List Act) (run : IsTaggedRun code b is_thread first classes c acts) where
  ran : IsRun code b c acts
  ran = run.monitors.levelled.ordered.run

  abbrev PartOf : ℕ → ℕ → ThreadState S → ℕ → ℕ → Type 0
  PartOf k t th i v = parts.PartOf code b is_thread first classes c acts run k t th i v

  module _ (k t : ℕ) (step : Step) (a : StepAnswer) (here : slice_get acts k ≡ Some (did t step a)) (at : DidAt code b c k t step a) (so : written.WrittenAt code b is_thread first classes c acts run k)
      (was : parts.PartsOf code b is_thread first classes c acts run k t at.from) where
    within : k < length acts
    within = rounds.within code b is_thread first classes c acts run k t step a here at

    up : k ≤ length acts
    up = rounds.up code b is_thread first classes c acts run k t step a here at

    abbrev y : ThreadState S
    y = after_answer code b at.from step a

    there_then : (c (suc k)).threads t ≡ Some (after_answer code b at.from step a)
    there_then = rounds.own_there code b is_thread first classes c acts run k t step a here at

    abbrev levels_then : List ℕ
    levels_then = rounds.levels_then code b is_thread first classes c acts run k t step a here at

    own_levels : AreLevelsOf c acts t at.from.section ((c k).levels t)
    own_levels = levels_at code b first classes c acts run.monitors.levelled k up t at.from at.stands

    counted : length ((c k).levels t) ≡ at.from.levels
    counted = (counted_at code b first classes c acts run.monitors.levelled k up).there t at.from at.stands

    abbrev pinned_then : ℕ
    pinned_then = pinned_of ((c (suc k)).words (Section y.section))

    module _ (live : IsLiveOrRevoking ((c (suc k)).words (Section y.section))) (i v : ℕ) (is_then : slice_get ((c (suc k)).levels t) i ≡ Some v) (deep : pinned_then < y.levels - i) where
      levels_are : AreLevelsOf c acts t y.section ((c (suc k)).levels t)
      levels_are = levels_at code b first classes c acts run.monitors.levelled (suc k) within t y there_then

      is : slice_get levels_then i ≡ Some v
      is = subst (λ l. slice_get l i ≡ Some v) (rounds.own_levels code b is_thread first classes c acts run k t step a here at) is_then

      -- where all levels are seen pinned there is nothing to say
      shut_none : {P : Type 0} → is_open y ≡ false → P
      shut_none shut = absurd (no y.pinned pinned_then y.levels i shut
          (own_words_are_known code b c acts ran run.monitors.levelled.ordered.in_bits (suc k) t y within there_then
          (some_section code b is_thread first classes c acts run (suc k) t i pinned_then y within there_then deep)).0.pinned deep)
        where
          at_most : (p l : ℕ) → nat_lt p l ≡ false → l ≤ p
          at_most p l is = grind (arith, common_steps, nat_tests)

          no : (p w l i : ℕ) → nat_lt p l ≡ false → p ≤ w → w < l - i → ⊥
          no p w l i shut low deep = let few = at_most p l shut in omega (arith, few, low, deep)

      -- The level was open before, as number n: then it was part of the same section, and as deep.
      module _ (n : ℕ) (was_is : slice_get ((c k).levels t) n ≡ Some v) where
        same_section : y.section ≡ at.from.section
        same_section = (one_section c acts t y.section t at.from.section v ((c (suc k)).levels t) ((c k).levels t) levels_are (place_in i v ((c (suc k)).levels t) is_then) own_levels (place_in n v ((c k).levels t) was_is)).1

        same_depth : y.levels - i ≡ at.from.levels - n
        same_depth = ap (λ m. m - i) (sym ((counted_at code b first classes c acts run.monitors.levelled (suc k) within).there t y there_then)) ∙ depth_at c acts t y.section i v ((c (suc k)).levels t) levels_are is_then
            ∙ sym (depth_at c acts t at.from.section n v ((c k).levels t) own_levels was_is) ∙ ap (λ m. m - n) counted

        was_deep : pinned_of ((c k).words (Section at.from.section)) < at.from.levels - n
        was_deep = lower (pinned_of ((c k).words (Section at.from.section))) pinned_then (y.levels - i) (at.from.levels - n)
            (subst (λ s. pinned_of ((c k).words (Section at.from.section)) ≤ pinned_of ((c (suc k)).words (Section s))) (sym same_section) (pins code b is_thread first classes c acts run k at.from.section within)) deep same_depth
          where
            lower : (p q l m : ℕ) → p ≤ q → q < l → l ≡ m → p < m
            lower p q l m low deep is = omega (arith, low, deep, is)

        had_section : 0 < at.from.section
        had_section = some_section code b is_thread first classes c acts run k t n (pinned_of ((c k).words (Section at.from.section))) at.from up at.stands was_deep

        old_part : PartOf k t at.from n v
        old_part = was (was_live code b is_thread first classes c acts run k t at.from within at.stands had_section (subst (λ s. IsLiveOrRevoking ((c (suc k)).words (Section s))) same_section live)) n v was_is was_deep

        -- it wasn't seen pinned
        was_open : is_open at.from ≡ true
        was_open = above at.from.pinned (pinned_of ((c k).words (Section at.from.section))) at.from.levels n
            (own_words_are_known code b c acts ran run.monitors.levelled.ordered.in_bits k t at.from up at.stands had_section).0.pinned was_deep
          where
            unpinned : (p l : ℕ) → p < l → nat_lt p l ≡ true
            unpinned p l less = grind (arith, common_steps, nat_tests)

            above : (p w l n : ℕ) → p ≤ w → w < l - n → nat_lt p l ≡ true
            above p w l n low deep = unpinned p l (omega (arith, low, deep))

        -- no word is overwritten or put back, and the log and the mark stay
        stays : SetsNoWord step a → y.log ≡ at.from.log → nth_or no_mark i y.marks ≡ nth_or no_mark n at.from.marks → PartOf (suc k) t y i v
        stays none log mark =
            subst (λ m. HasWrittenSince v m.noted y.log ((writers c acts (suc k)).old t) (writers c acts (suc k)).word) (sym mark)
            (subst (λ l. HasWrittenSince v (nth_or no_mark n at.from.marks).noted l ((writers c acts (suc k)).old t) (writers c acts (suc k)).word) (sym log)
            (subst (λ o. HasWrittenSince v (nth_or no_mark n at.from.marks).noted at.from.log o (writers c acts (suc k)).word) (sym (written.old_kept code b is_thread first classes c acts run k t step a here at so none log))
            (since_same v (nth_or no_mark n at.from.marks).noted at.from.log ((writers c acts k).old t) (writers c acts k).word (writers c acts (suc k)).word
            (λ p. ap (has v) (written.word_same code b is_thread first classes c acts run k t step a here at so none p)) old_part)))

      -- levels are closed, or none is
      dropped : (j : ℕ) → SetsNoWord step a → levels_then ≡ drop j ((c k).levels t) → Leaves at.from.log (drop j at.from.marks) y.log y.marks (is_open y) → PartOf (suc k) t y i v
      dropped j none less (inl kept) = stays (j + i) (place_later i j v ((c k).levels t) (subst (λ l. slice_get l i ≡ Some v) less is)) none kept.0
          (ap (nth_or no_mark i) kept.1 ∙ get_or-drop j at.from.marks i no_mark)
      dropped j none less (inr shut) = shut_none shut

      -- a level is opened
      opened : (silents : ℕ) (held : List Held) → SetsNoWord step a → levels_then ≡ k ∷ (c k).levels t
          → Leaves at.from.log (record { silents = silents; noted = length at.from.log; held = held } ∷ at.from.marks) y.log y.marks (is_open y) → PartOf (suc k) t y i v
      opened silents held none more (inr shut) = shut_none shut
      opened silents held none more (inl kept) = by_place i refl (subst (λ l. slice_get l i ≡ Some v) more is)
        where
          mark : Mark
          mark = record { silents = silents; noted = length at.from.log; held = held }

          old_then : (writers c acts (suc k)).old t ≡ (writers c acts k).old t
          old_then = written.old_kept code b is_thread first classes c acts run k t step a here at so none kept.0

          own_old : length ((writers c acts k).old t) ≡ length at.from.log
          own_old = old_length c acts (c k).words t at.from.log ((writers c acts k).old t) (subst (λ o. OldWordsSay c acts (c k).words t (log_of o) ((writers c acts k).old t)) at.stands (so.old t))

          fresh : k ≡ v → HasWrittenSince v (length at.from.log) y.log ((writers c acts (suc k)).old t) (writers c acts (suc k)).word
          fresh now = since_opened v (length at.from.log) y.log ((writers c acts (suc k)).old t) (writers c acts (suc k)).word (sym (ap length kept.0))
              (λ p. has_not v ((writers c acts (suc k)).word p) (λ there. no v k (sym now) (so.before p v (subst (In v) (written.word_same code b is_thread first classes c acts run k t step a here at so none p) there))))
              (old_opened v (length at.from.log) y.log ((writers c acts (suc k)).old t) (same (length y.log) (length at.from.log) (ap length kept.0)) (ap length old_then ∙ own_old ∙ sym (ap length kept.0))
              (subst (λ n. AllBefore n ((writers c acts (suc k)).old t)) now (subst (AllBefore k) (sym old_then) (so.old_before t))))
            where
              no : (v k : ℕ) → v ≡ k → v < k → ⊥
              no v k is low = omega (arith, is, low)

              same : (m n : ℕ) → m ≡ n → m ≤ n
              same m n is = omega (arith, is)

          by_place : (m : ℕ) → i ≡ m → slice_get (k ∷ (c k).levels t) m ≡ Some v → PartOf (suc k) t y i v
          by_place zero first is_k = subst (λ (m : Mark). HasWrittenSince v m.noted y.log ((writers c acts (suc k)).old t) (writers c acts (suc k)).word)
              (sym (ap (λ n. nth_or no_mark n y.marks) first ∙ ap (nth_or no_mark 0) kept.1)) (fresh (same_Some k v is_k))
          by_place (suc n) later is_n = stays n is_n none kept.0 (ap (λ m. nth_or no_mark m y.marks) later ∙ ap (nth_or no_mark (suc n)) kept.1)

      -- a word is overwritten
      swapped : (r j x old : ℕ) → code.next at.from.local ≡ Want (Write r j x) → step ≡ SwapWord (word_place r j) old (written_word at.from x) → a ≡ Done → levels_then ≡ (c k).levels t
          → y.log ≡ noted at.from (word_place r j) old → y.marks ≡ at.from.marks → PartOf (suc k) t y i v
      swapped r j x old wants sets done same log marks =
          let more = written.old_noted code b is_thread first classes c acts run k t step a here at so r j x old wants sets done log (was_open i was_is) in
          subst (λ ms. HasWrittenSince v (nth_or no_mark i ms).noted y.log ((writers c acts (suc k)).old t) (writers c acts (suc k)).word) (sym marks)
          (subst (λ l. HasWrittenSince v (nth_or no_mark i at.from.marks).noted l ((writers c acts (suc k)).old t) (writers c acts (suc k)).word) (sym more.0)
          (subst (λ o. HasWrittenSince v (nth_or no_mark i at.from.marks).noted (record { at = word_place r j; old = old } ∷ at.from.log) o (writers c acts (suc k)).word) (sym more.1)
          (subst (HasWrittenSince v (nth_or no_mark i at.from.marks).noted (record { at = word_place r j; old = old } ∷ at.from.log) ((writers c acts k).word (word_place r j) ∷ (writers c acts k).old t)) (sym word_then)
          (since_written v (nth_or no_mark i at.from.marks).noted (word_place r j) old at.from.log ((writers c acts k).old t) (writers c acts k).word ((c k).levels t) (falls_at i (length at.from.log) at.from.marks falls)
          (place_in i v ((c k).levels t) was_is) (old_part i was_is)))))
        where
          was_is : slice_get ((c k).levels t) i ≡ Some v
          was_is = subst (λ l. slice_get l i ≡ Some v) same is

          falls : MarksFall (length at.from.log) at.from.marks
          falls = subst (MarksFall (length at.from.log)) (all_count at.from.attempt at.from.levels at.from.marks
              (undoes_none code at.from (code.next at.from.local) step at.from.attempt (makes_it at.from.over (nat_le b.limits.turns at.from.counted) _ step at.move) (subst NoUndo (sym sets) tt)))
              (marks_fall code b first classes c acts run.monitors.levelled.ordered k t at.from up at.stands)

          word_then : (writers c acts (suc k)).word ≡ set_at (writers c acts k).word (word_place r j) ((c k).levels t)
          word_then = ap (λ (w : Writers). w.word) (written.swapped code b is_thread first classes c acts run k t step a here at so r j x old wants sets done log)

      -- a word is put back
      restored : (w p o : ℕ) → step ≡ RestoreWord p o → undo_next at.from w (revoke_of w) ≡ RestoreWord p o → levels_then ≡ (c k).levels t → y.log ≡ drop 1 at.from.log → y.marks ≡ at.from.marks → PartOf (suc k) t y i v
      restored w p o sets does same log marks =
          let noted_first = written.noted_first code b is_thread first classes c acts run k t step a here at so w p o sets does log in
          let word_then : (writers c acts (suc k)).word ≡ set_at (writers c acts k).word p (nth_or [] 0 ((writers c acts k).old t)) =
          ap (λ (z : Writers). z.word) (written.restored code b is_thread first classes c acts run k t step a here at so w p o sets does log) in
          subst (λ ms. HasWrittenSince v (nth_or no_mark i ms).noted y.log ((writers c acts (suc k)).old t) (writers c acts (suc k)).word) (sym marks)
          (subst (λ l. HasWrittenSince v (nth_or no_mark i at.from.marks).noted l ((writers c acts (suc k)).old t) (writers c acts (suc k)).word) (sym log)
          (subst (λ z. HasWrittenSince v (nth_or no_mark i at.from.marks).noted (drop 1 at.from.log) z (writers c acts (suc k)).word) (sym (written.old_less code b is_thread first classes c acts run k t step a here at so w p o sets does log))
          (subst (HasWrittenSince v (nth_or no_mark i at.from.marks).noted (drop 1 at.from.log) (drop 1 ((writers c acts k).old t))) (sym word_then)
          (subst (λ q. HasWrittenSince v (nth_or no_mark i at.from.marks).noted (drop 1 at.from.log) (drop 1 ((writers c acts k).old t)) (set_at (writers c acts k).word q (nth_or [] 0 ((writers c acts k).old t)))) noted_first.here
          (since_put v (nth_or no_mark i at.from.marks).noted noted_first.x (drop 1 at.from.log) ((writers c acts k).old t) (writers c acts k).word
          (subst (λ l. HasWrittenSince v (nth_or no_mark i at.from.marks).noted l ((writers c acts k).old t) (writers c acts k).word) noted_first.whole (old_part i (subst (λ l. slice_get l i ≡ Some v) same is))))))))

      part_then : PartOf (suc k) t y i v
      part_then = elim (rounds.turn code b is_thread first classes c acts run k t step a here at) [
        | calm none unseen same leaves ↦ dropped 0 none same leaves
        | opens silents held none unseen same leaves ↦ opened silents held none same leaves
        | closes n none unseen other same leaves ↦ dropped (at.from.levels - n) none (same ∙ ap (λ l. drop (l - n) ((c k).levels t)) counted) leaves
        | ends_all none unseen other same ↦ ended same
        | undone w s x none unseen undoing marks_so noted same leaves ↦ dropped (suc (at.from.levels - revoke_of w)) none (same ∙ ap (λ j. drop j ((c k).levels t)) (places w undoing)) leaves
        | writes r j x old wants sets done seen same log marks ↦ swapped r j x old wants sets done same log marks
        | puts w p o undoing sets does unseen same log marks ↦ restored w p o sets does same log marks
      ]
        where
          ended : levels_then ≡ [] → PartOf (suc k) t y i v
          ended none = cc_none (sym (ap (λ l. slice_get l i) none) ∙ is)
            where
              cc_none : slice_get [] i ≡ Some v → PartOf (suc k) t y i v
              cc_none is = cc

          places : (w : ℕ) → at.from.attempt ≡ Undoing w → length ((c k).levels t) - (revoke_of w - 1) ≡ suc (at.from.levels - revoke_of w)
          places w undoing =
              let seen = undoing_seen code at.from (c k).words (own_at code b c acts ran run.monitors.levelled.ordered.in_bits k up t at.from at.stands) ((facts_at code b c acts ran k up).fit t at.from at.stands) w undoing in
              count (length ((c k).levels t)) at.from.levels at.from.pinned (revoke_of w) counted seen.0 seen.1
            where
              count : (l y p r : ℕ) → l ≡ y → p < r → r ≤ y → l - (r - 1) ≡ suc (y - r)
              count l y p r is some low = omega (arith, is, some, low)

    pub own_kept : parts.PartsOf code b is_thread first classes c acts run (suc k) t y
    own_kept live i v is deep = part_then live i v is deep
