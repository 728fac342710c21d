-- What each open level has written, with each step of a thread.
use Rattle.std.proofs.Common.{◌≡◌, ◌≢◌, ◌⊎◌, inl, inr, ℕ, suc, ◌-◌, ◌<◌, ◌≤◌, Bool, true, false, Some, List, [], length, nat_eq, refl, sym, ◌∙◌, ap, subst, arith}
use Rattle.std.specs.Prelude.{slice_get}
use Rattle.std.proofs.lemmas.Grind.{common_steps}
use Rattle.std.proofs.lemmas.Bool.Decides.{nat_tests}
use Rattle.op_core.specs.ThreadCode.{Code}
use Rattle.op_core.proofs.PointwiseLemmas.{same_or_other}
use Rattle.heap_words.specs.declared.areas.Area.TheVariants.{Section}
use Rattle.heap_words.specs.Words.{tag_of, tag_section, tag_level}
use Rattle.section_state.specs.SectionWord.{pinned_of, revoke_of}
use Rattle.step_port.specs.declared.answer.StepAnswer.{StepAnswer}
use Rattle.step_port.specs.declared.step.Step.{Step}
use Rattle.thread_automaton.specs.declared.Bounds.{Bounds}
use Rattle.thread_automaton.specs.declared.Attempt.TheVariants.{Undoing}
use Rattle.thread_automaton.specs.ThreadState.{ThreadState, no_mark, nth_or, mark_of}
use Rattle.thread_automaton.specs.NextMove.{word_place}
use Rattle.thread_automaton.specs.Checks.{is_safe, written_word, noted}
use Rattle.thread_automaton.specs.Told.{after_answer}
use Rattle.automaton_rows.specs.Fits.{IsFit}
use Rattle.core_runs.specs.Cores.{Core}
use Rattle.core_runs.specs.Acts.{Act, did, DidAt}
use Rattle.section_laws.specs.LevelRun.{In}
use Rattle.section_laws.specs.Runs.{IsRun}
use Rattle.section_laws.proofs.SectionLemmas.{sections_apart}
use Rattle.section_laws.proofs.RunLemmas.{facts_at}
use Rattle.section_laws.specs.Known.{IsCommittedOrPinned}
use Rattle.section_laws.proofs.section_levels.RunLemmas.{counted_at}
use Rattle.section_laws.specs.OpenSections.{IsLiveOrRevoking}
use Rattle.section_laws.proofs.open_sections.WordLemmas.{committed_closed}
use Rattle.section_laws.specs.Layout.{IsWordPlace}
use Rattle.written_words.specs.Noted.{IsTaggedRun, heap_of}
use Rattle.written_words.proofs.noted_words.TagLemmas.{PutsFirst}
use Rattle.written_words.proofs.noted_words.TurnLemmas.{SetsNoWord}
use Rattle.written_words.proofs.noted_words.StepLemmas.{safe_other, was_live, pins, undone_part}
use Rattle.written_words.proofs.noted_words.DidLemmas.{writer}
use Rattle.written_words.proofs.noted_words.RunLemmas.{noted_at}
use Rattle.written_words.proofs.settled_words.TurnLemmas.{calm, opens, closes, ends_all, undone, writes, puts}
use Rattle.written_words.specs.Writers.{AreLevelsOf, writers}
use Rattle.written_words.specs.Tags.{TagSays, OldWordSays}
use Rattle.written_words.specs.Written.{has, HasWrittenSince}
use Rattle.written_words.proofs.LevelLemmas.{levels_at}
use Rattle.written_words.proofs.PlaceLemmas.{place_in, one_section, at_least, depth_at}
use Rattle.written_words.proofs.settled_words.RoundLemmas as rounds
use Rattle.written_words.proofs.StepLemmas as steps
use Rattle.written_words.proofs.StepLemmas.{was_there, begins}
use Rattle.written_words.proofs.TagLemmas.{of_section}
use Rattle.written_words.proofs.SinceLemmas.{has_not, since_same}
use Rattle.written_words.proofs.WrittenLemmas as written

module _ {S : Type 0} (code : Code S) (b : Bounds) (is_thread : ℕ → Bool) (first : S) (classes : ℕ) (c : ℕ → Core S) (acts : List Act) (run : IsTaggedRun code b is_thread first classes c acts) where
  ran : IsRun code b c acts
  ran = run.monitors.levelled.ordered.run

  -- number i of the levels of thread t, which is th, is v, and it isn't pinned
  abbrev pub PartOf : ℕ → ℕ → ThreadState S → ℕ → ℕ → Type 0
  PartOf k t th i v = HasWrittenSince v (nth_or no_mark i th.marks).noted th.log ((writers c acts k).old t) (writers c acts k).word

  abbrev pub PartsOf : ℕ → ℕ → ThreadState S → Type 0
  PartsOf k t th = IsLiveOrRevoking ((c k).words (Section th.section)) → (i v : ℕ) → slice_get ((c k).levels t) i ≡ Some v → pinned_of ((c k).words (Section th.section)) < th.levels - i → PartOf k t th i v

  abbrev pub PartsAt : ℕ → Type 0
  PartsAt k = (t : ℕ) (th : ThreadState S) → (c k).threads t ≡ Some th → PartsOf k t th

  -- a thread with a level open has a section
  pub some_section : (k t i p : ℕ) (th : ThreadState S) → k ≤ length acts → (c k).threads t ≡ Some th → p < th.levels - i → 0 < th.section
  some_section k t i p th within there deep = by_section (nat_eq th.section 0) refl
    where
      fits : IsFit code th
      fits = (facts_at code b c acts ran k within).fit t th there

      zero_or : (n : ℕ) → nat_eq n 0 ≡ true → n ≡ 0
      zero_or n is = grind (arith, common_steps, nat_tests)

      some_or : (n : ℕ) → nat_eq n 0 ≡ false → 0 < n
      some_or n is = grind (arith, common_steps, nat_tests)

      no : (p l i : ℕ) → l ≡ 0 → p < l - i → ⊥
      no p l i none deep = omega (arith, none, deep)

      by_section : (z : Bool) → nat_eq th.section 0 ≡ z → 0 < th.section
      by_section true is = absurd (no p th.levels i (zero_or th.levels (sym fits.kept.levels ∙ is)) deep)
      by_section false is = some_or th.section is

  -- a thread goes on with the same levels, marks and log
  pub kept_on : (k t : ℕ) (th : ThreadState S) (within : k < length acts) → (c k).threads t ≡ Some th → PartsOf k t th → (c (suc k)).levels t ≡ (c k).levels t → (writers c acts (suc k)).old t ≡ (writers c acts k).old t
      → (IsLiveOrRevoking ((c k).words (Section th.section)) → (i v : ℕ) → slice_get ((c k).levels t) i ≡ Some v → pinned_of ((c k).words (Section th.section)) < th.levels - i
      → (p : ℕ) → has v ((writers c acts (suc k)).word p) ≡ has v ((writers c acts k).word p))
      → PartsOf (suc k) t th
  kept_on k t th within there parts same_levels same_old same live i v is deep =
      let pinned = pins code b is_thread first classes c acts run k th.section within in
      let was_deep = lower (pinned_of ((c k).words (Section th.section))) (pinned_of ((c (suc k)).words (Section th.section))) (th.levels - i) pinned deep in
      let was = was_live code b is_thread first classes c acts run k t th within there (some_section k t i (pinned_of ((c k).words (Section th.section))) th (upto k within) there was_deep) live in
      let at_i = subst (λ l. slice_get l i ≡ Some v) same_levels is in
      subst (λ o. HasWrittenSince v (nth_or no_mark i th.marks).noted th.log o (writers c acts (suc k)).word) (sym same_old)
      (since_same v (nth_or no_mark i th.marks).noted th.log ((writers c acts k).old t) (writers c acts k).word (writers c acts (suc k)).word (same was i v at_i was_deep) (parts was i v at_i was_deep))
    where
      upto : {n : ℕ} (k : ℕ) → k < n → k ≤ n
      upto k within = omega (arith, within)

      lower : (p q l : ℕ) → p ≤ q → q < l → p < l
      lower p q l low deep = omega (arith, low, deep)

  -- Level v of thread u, number i of those that it has open, isn't pinned.
  module _ (k u i v : ℕ) (uh : ThreadState S) (within : k ≤ length acts) (there : (c k).threads u ≡ Some uh) (live : IsLiveOrRevoking ((c k).words (Section uh.section))) (is : slice_get ((c k).levels u) i ≡ Some v)
      (deep : pinned_of ((c k).words (Section uh.section)) < uh.levels - i) where
    pub its_levels : AreLevelsOf c acts u uh.section ((c k).levels u)
    its_levels = levels_at code b first classes c acts run.monitors.levelled k within u uh there

    pub open_now : In v ((c k).levels u)
    open_now = place_in i v ((c k).levels u) is

    pub some : 0 < uh.section
    some = some_section k u i (pinned_of ((c k).words (Section uh.section))) uh within there deep

    -- the tag of what it has written names its section, at that level or further inside
    pub carries : (writer : List ℕ) (tag : ℕ) → TagSays c acts writer tag → In v writer → (tag_section tag ≡ uh.section) × (uh.levels - i ≤ tag_level tag)
    carries writer tag says has_it =
        let of = of_section c acts writer tag v says has_it in
        let one = one_section c acts of.0 (tag_section tag) u uh.section v writer ((c k).levels u) of.1 has_it its_levels open_now in (
          one.1,
          low (length ((c v).levels u)) (length writer) (tag_level tag) (length ((c k).levels u)) uh.levels i
              (subst (λ n. suc (length ((c v).levels n)) ≤ length writer) one.0 (at_least c acts of.0 (tag_section tag) v writer of.1 has_it)) of.2
              (depth_at c acts u uh.section i v ((c k).levels u) its_levels is) ((counted_at code b first classes c acts run.monitors.levelled k within).there u uh there),
        )
      where
        low : (d w l n m i : ℕ) → suc d ≤ w → l ≡ w → n - i ≡ suc d → n ≡ m → m - i ≤ l
        low d w l n m i least level depth count = omega (arith, least, level, depth, count)

    -- no old word that another thread has logged was written by it
    pub not_old : (t : ℕ) → u ≢ t → (writer : List ℕ) (tag : ℕ) → OldWordSays c acts (c k).words t writer tag → has v writer ≡ false
    not_old t other writer tag say = has_not v writer (λ also. by_safe also say.safe)
      where
        above : (p n l : ℕ) → p < n → n ≤ l → l ≤ p → ⊥
        above p n l deep low pinned = omega (arith, deep, low, pinned)

        by_safe : In v writer → AreLevelsOf c acts t (tag_section tag) writer ⊎ IsCommittedOrPinned ((c k).words (Section (tag_section tag))) (tag_level tag) → ⊥
        by_safe also (inl own) = other (one_section c acts u uh.section t (tag_section tag) v ((c k).levels u) writer its_levels open_now own also).0
        by_safe also (inr pinned) =
            let its = carries writer tag say.says also in
            elim (subst (λ s. IsCommittedOrPinned ((c k).words (Section s)) (tag_level tag)) its.0 pinned) [
              | inl committed ↦ committed_closed ((c k).words (Section uh.section)) committed live
              | inr low ↦ above (pinned_of ((c k).words (Section uh.section))) (uh.levels - i) (tag_level tag) deep its.1 low
            ]

  module _ (k t : ℕ) (step : Step) (a : StepAnswer) (here : slice_get acts k ≡ Some (did t step a)) (at : DidAt code b c k t step a) (so : written.WrittenAt code b is_thread first classes c acts run k) (parts : PartsAt k) where
    within : k < length acts
    within = rounds.within code b is_thread first classes c acts run k t step a here at

    up : k ≤ length acts
    up = rounds.up code b is_thread first classes c acts run k t step a here at

    abbrev y : ThreadState S
    y = after_answer code b at.from step a

    own_levels : AreLevelsOf c acts t at.from.section ((c k).levels t)
    own_levels = levels_at code b first classes c acts run.monitors.levelled k up t at.from at.stands

    -- ---- levels of other threads

    module _ (u i v : ℕ) (uh : ThreadState S) (other : u ≢ t) (there : (c k).threads u ≡ Some uh) (live : IsLiveOrRevoking ((c k).words (Section uh.section))) (is : slice_get ((c k).levels u) i ≡ Some v)
        (deep : pinned_of ((c k).words (Section uh.section)) < uh.levels - i) where
      its_own : AreLevelsOf c acts u uh.section ((c k).levels u)
      its_own = its_levels k u i v uh up there live is deep

      -- the own levels of the thread that makes the step are others
      not_own : has v ((c k).levels t) ≡ false
      not_own = has_not v ((c k).levels t) (λ also. other (one_section c acts u uh.section t at.from.section v ((c k).levels u) ((c k).levels t) its_own (open_now k u i v uh up there live is deep) own_levels also).0)

      -- nor has the level written what that thread overwrites,
      not_safe : (p : ℕ) → IsWordPlace is_thread (c k).objects p → is_safe at.from (heap_of (c k).words p) ≡ true → has v ((writers c acts k).word p) ≡ false
      not_safe p word safe = has_not v ((writers c acts k).word p) (λ also. safe_other code b is_thread first classes c acts run k t u (uh.levels - i) (heap_of (c k).words p) at.from uh up at.stands there other (some k u i v uh up there live is deep) live deep
          (carries k u i v uh up there live is deep ((writers c acts k).word p) (tag_of (heap_of (c k).words p)) (so.says p word) also) safe)

      -- or puts back
      not_undone : (w p o : ℕ) → at.from.attempt ≡ Undoing w → IsWordPlace is_thread (c k).objects p → PutsFirst (mark_of at.from (revoke_of w)).noted p o at.from.log → has v ((writers c acts k).word p) ≡ false
      not_undone w p o undoing word noted_first = has_not v ((writers c acts k).word p) (λ also.
          let part = undone_part code b is_thread first classes c acts run k t w at.from up (noted_at code b is_thread first classes c acts run k up) at.stands undoing in
          let its = carries k u i v uh up there live is deep ((writers c acts k).word p) (tag_of (heap_of (c k).words p)) (so.says p word) also in
          let same : at.from.section ≡ uh.section = sym (part.1.0 p noted_first.noted).0 ∙ its.0 in
          other (sym (sections_apart code b c acts ran k t u at.from uh up at.stands there part.0 same)))

      word_other : (p : ℕ) → has v ((writers c acts (suc k)).word p) ≡ has v ((writers c acts k).word p)
      word_other p = elim (rounds.turn code b is_thread first classes c acts run k t step a here at) [
        | calm none unseen same leaves ↦ none_set none
        | opens silents held none unseen same leaves ↦ none_set none
        | closes n none unseen also same leaves ↦ none_set none
        | ends_all none unseen also same ↦ none_set none
        | undone w s x none unseen undoing marks noted same leaves ↦ none_set none
        | writes r j x old wants sets done seen same log marks ↦ elim (same_or_other p (word_place r j)) [
          | inl here_p ↦
              let word = written.placed_word code b is_thread first classes c acts run k t step a here at so r j x old wants sets done log in
              let found = written.found code b is_thread first classes c acts run k t step a here at so r j x old wants sets done log in
              ap (λ n. has v ((writers c acts (suc k)).word n)) here_p ∙ ap (has v) (written.written_here code b is_thread first classes c acts run k t step a here at so r j x old wants sets done log) ∙ not_own
              ∙ sym (ap (λ n. has v ((writers c acts k).word n)) here_p ∙ not_safe (word_place r j) word (subst (λ n. is_safe at.from n ≡ true) (sym found)
              (writer code b is_thread first classes c acts run k t step a here at (noted_at code b is_thread first classes c acts run k up) (word_place r j) old (written_word at.from x) sets done)))
          | inr apart ↦ ap (has v) (written.unwritten_there code b is_thread first classes c acts run k t step a here at so r j x old wants sets done log p apart)
        ]
        | puts w q o undoing sets does unseen same log marks ↦ elim (same_or_other p q) [
          | inl here_p ↦
              let say = written.say_first code b is_thread first classes c acts run k t step a here at so w q o sets does log in
              let noted_first = written.noted_first code b is_thread first classes c acts run k t step a here at so w q o sets does log in
              ap (λ n. has v ((writers c acts (suc k)).word n)) here_p ∙ ap (has v) (written.put_here code b is_thread first classes c acts run k t step a here at so w q o sets does log)
              ∙ not_old k u i v uh up there live is deep t other (nth_or [] 0 ((writers c acts k).old t)) (tag_of noted_first.x.old) say.0
              ∙ sym (ap (λ n. has v ((writers c acts k).word n)) here_p ∙ not_undone w q o undoing (written.logged_word code b is_thread first classes c acts run k t step a here at so w q o sets does log) noted_first)
          | inr apart ↦ ap (has v) (written.put_nowhere code b is_thread first classes c acts run k t step a here at so w q o sets does log p apart)
        ]
      ]
        where
          none_set : SetsNoWord step a → has v ((writers c acts (suc k)).word p) ≡ has v ((writers c acts k).word p)
          none_set none = ap (has v) (written.word_same code b is_thread first classes c acts run k t step a here at so none p)

    pub others_kept : (u : ℕ) (uh : ThreadState S) → u ≢ t → (c (suc k)).threads u ≡ Some uh → PartsOf (suc k) u uh
    others_kept u uh other there_then = elim (steps.other_thread code b is_thread first classes c acts run k t step a here at u uh other there_then) [
      | was_there there ↦ kept_on k u uh within there (parts u uh there) (steps.others_levels code b is_thread first classes c acts run k t step a here at u other)
          (steps.others_old code b is_thread first classes c acts run k t step a here at u other) (λ live i v is deep p. word_other u i v uh other there live is deep p)
      | begins number priority l none new ↦ λ live i v is deep. absurd (no (pinned_of ((c (suc k)).words (Section uh.section))) uh.levels i (ap (λ (x : ThreadState S). x.levels) new) deep)
    ]
      where
        no : (p l i : ℕ) → l ≡ 0 → p < l - i → ⊥
        no p l i none deep = omega (arith, none, deep)
