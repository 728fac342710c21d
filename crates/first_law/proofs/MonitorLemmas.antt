-- A monitor gets another owner or depth, and every other part of the ordinary state that words stand for stays.
use Rattle.std.proofs.Common.{◌≡◌, ◌≢◌, inl, inr, ℕ, ◌+◌, ◌<◌, ◌≤◌, nat_eq, Bool, true, false, Some, List, length, refl, sym, ◌∙◌, ap, subst, arith}
use Rattle.std.specs.Prelude.{if◌then◌else◌}
use Rattle.std.proofs.lemmas.Grind.{common_steps}
use Rattle.std.proofs.lemmas.Bool.Decides.{nat_tests}
use Rattle.std.proofs.lemmas.Option.{same_Some}
use Rattle.op_core.specs.declared.Next.{Next}
use Rattle.op_core.specs.ThreadCode.{Code}
use Rattle.op_core.specs.OrdinaryState.{set_at, Object, Monitor, free, held, IsOwner, OrdinaryState}
use Rattle.op_core.proofs.PointwiseLemmas.{same_or_other, set_at-hit, set_at-other}
use Rattle.heap_words.specs.declared.areas.Area.{Area}
use Rattle.heap_words.specs.Words.{value_of}
use Rattle.section_state.specs.SectionWord.{owner_of}
use Rattle.monitor_core.specs.Monitors.{monitor_section, monitor_depth, is_own}
use Rattle.step_port.specs.declared.answer.StepAnswer.{StepAnswer}
use Rattle.step_port.specs.declared.step.Step.{Step}
use Rattle.step_port.specs.Words.{Words}
use Rattle.ordinary_words.specs.Reading.{word_in, start_in, monitor_of, monitor_in}
use Rattle.thread_automaton.specs.declared.Bounds.{Bounds}
use Rattle.thread_automaton.specs.declared.Held.{Held}
use Rattle.thread_automaton.specs.ThreadState.{ThreadState, held_as}
use Rattle.thread_automaton.specs.NextMove.{held_word}
use Rattle.thread_automaton.specs.Changes.{Change}
use Rattle.automaton_rows.specs.Undoing.{is_held}
use Rattle.core_runs.specs.Cores.{Core}
use Rattle.core_runs.specs.Acts.{Act}
use Rattle.core_runs.specs.Reading.{ordinary}
use Rattle.section_laws.proofs.run_layout.PlaceLemmas.{one_place}
use Rattle.first_law.specs.Monitors.{FitsMonitorWord, MonitorsFit}
use Rattle.first_law.specs.InPlace.{IsSeenRun}
use Rattle.first_law.proofs.StateLemmas.{differs, word_kept, start_kept, monitor_kept}
use Rattle.first_law.proofs.OwnerLemmas.{section_is, not_free, own_section, section_held, depth_held, some_held}
use Rattle.first_law.proofs.OwnerLemmas as owners
use Rattle.first_law.proofs.TurnLemmas.{up, monitors}
use Rattle.first_law.proofs.EntryLemmas.{Done, did_at}
use Rattle.first_law.proofs.WordRows.{layout, has_start}

pub monitor_some : (w : Words) (m : ℕ) → m ≢ 0 → monitor_of w m ≡ held (owner_of (w (Area.Section (monitor_section m)))) (monitor_depth m)
monitor_some w m some = ap (λ x. if x then free else held (owner_of (w (Area.Section (monitor_section m)))) (monitor_depth m)) (differs m 0 some)

own_parts : (m own : ℕ) → is_own m own ≡ true → (0 < own) × (monitor_section m ≡ own)
own_parts m own is = (above m own is, same m own is)
  where
    above : (m own : ℕ) → is_own m own ≡ true → 0 < own
    above m own is = grind (arith, common_steps, nat_tests)

    same : (m own : ℕ) → is_own m own ≡ true → monitor_section m ≡ own
    same m own is = grind (arith, common_steps, nat_tests)

not_own : (m own : ℕ) → is_own m own ≡ false → 0 < own → monitor_section m ≡ own → ⊥
not_own m own is some same = grind (arith, common_steps, nat_tests)

zero_section : monitor_section 0 ≡ 0
unfolding monitor_section
zero_section = refl

module _ {S : Type 0} (code : Code S) (b : Bounds) (is_thread : ℕ → Bool) (first : S) (classes : ℕ) (c : ℕ → Core S) (acts : List Act) (run : IsSeenRun code b is_thread first classes c acts) (k t : ℕ)
    (th : ThreadState S) where
  abbrev state : OrdinaryState S
  state = ordinary code is_thread (c k)

  module _ {next : Next} {step : Step} {a : StepAnswer} {change : Change} (act : Done code b is_thread first classes c acts run k t th next step a change) where
    low : k ≤ length acts
    low = up code b is_thread first classes c acts run k t step a act.here (did_at code b is_thread first classes c acts run k t th act)

    pub fit_here : MonitorsFit code (c k)
    fit_here = monitors code b is_thread first classes c acts run k t step a act.here (did_at code b is_thread first classes c acts run k t th act)

    -- the thread owns the section that it has open
    pub own_here : 0 < th.section → owner_of ((c k).words (Area.Section th.section)) ≡ t
    own_here some = (own_section code b is_thread first classes c acts run k low t th act.stands some).0

    pub monitor_at : (r : ℕ) (o : Object) → (c k).objects r ≡ Some o → state.monitors r ≡ monitor_of (c k).words ((c k).words (Area.Object (r + 1)))
    monitor_at r o there = ap (monitor_in (c k).words r) there

    -- a monitor of the own section is the thread's
    pub own_monitor : (r m : ℕ) (o : Object) → (c k).objects r ≡ Some o → m ≡ (c k).words (Area.Object (r + 1)) → is_own m th.section ≡ true → state.monitors r ≡ held t (monitor_depth m)
    own_monitor r m o there found own =
        let parts = own_parts m th.section own in
        monitor_at r o there ∙ ap (monitor_of (c k).words) (sym found) ∙ monitor_some (c k).words m (λ none. not_zero th.section parts.0 (sym parts.1 ∙ ap monitor_section none ∙ zero_section))
        ∙ ap (λ s. held (owner_of ((c k).words (Area.Section s))) (monitor_depth m)) parts.1 ∙ ap (λ n. held n (monitor_depth m)) (own_here parts.0)
      where
        not_zero : (n : ℕ) → 0 < n → n ≡ 0 → ⊥
        not_zero n some none = omega (arith, some, none)

    -- and another one isn't
    pub others_monitor : (r m : ℕ) (o : Object) → (c k).objects r ≡ Some o → m ≡ (c k).words (Area.Object (r + 1)) → is_own m th.section ≡ false → IsOwner t (state.monitors r) → ⊥
    others_monitor r m o there found other owns = by_zero (nat_eq m 0) refl
      where
        is_zero : (n : ℕ) → nat_eq n 0 ≡ true → n ≡ 0
        is_zero n is = grind (arith, common_steps, nat_tests)

        some : (n : ℕ) → nat_eq n 0 ≡ false → n ≢ 0
        some n is = grind (arith, common_steps, nat_tests)

        by_zero : (x : Bool) → nat_eq m 0 ≡ x → ⊥
        by_zero true none = subst (IsOwner t) (monitor_at r o there ∙ ap (monitor_of (c k).words) (sym found ∙ is_zero m none)) owns
        by_zero false is_some =
            let holder = fit_here.held.holders r o there (λ none. some m is_some (found ∙ none)) in
            let section : monitor_section m ≡ holder.1.section = ap monitor_section found ∙ section_held code b is_thread first classes c acts run k low fit_here holder.0 r holder.1 holder.2 holder.3 in
            let above = fit_here.held.sections holder.0 r holder.1 holder.2 holder.3 in
            let owner : owner_of ((c k).words (Area.Section (monitor_section m))) ≡ holder.0 =
            ap (λ s. owner_of ((c k).words (Area.Section s))) section ∙ (own_section code b is_thread first classes c acts run k low holder.0 holder.1 holder.2 above).0 in
            let same : holder.0 ≡ t = sym owner ∙ subst (IsOwner t) (monitor_at r o there ∙ ap (monitor_of (c k).words) (sym found) ∙ monitor_some (c k).words m (some m is_some)) owns in
            let thread : holder.1 ≡ th = same_Some holder.1 th (sym holder.2 ∙ ap (c k).threads same ∙ act.stands) in
            not_own m th.section other (subst (λ (z : ThreadState S). 0 < z.section) thread above) (section ∙ ap (λ (z : ThreadState S). z.section) thread)

    -- one that the thread holds
    pub held_monitor : (r : ℕ) (o : Object) → (c k).objects r ≡ Some o → is_held r th.held ≡ true → state.monitors r ≡ held t (held_as r th.held).depth
    held_monitor r o there holds =
        monitor_at r o there ∙ monitor_some (c k).words ((c k).words (Area.Object (r + 1))) (some_held code b is_thread first classes c acts run k low fit_here t r th act.stands holds)
        ∙ ap (λ s. held (owner_of ((c k).words (Area.Section s))) (monitor_depth ((c k).words (Area.Object (r + 1))))) (section_held code b is_thread first classes c acts run k low fit_here t r th act.stands holds)
        ∙ ap (λ n. held n (monitor_depth ((c k).words (Area.Object (r + 1))))) (own_here (fit_here.held.sections t r th act.stands holds))
        ∙ ap (held t) (depth_held code b is_thread first classes c acts run k low fit_here t r th act.stands holds)

    -- ---- the word of a monitor that changes

    module _ (v : Words) (r : ℕ) (o : Object) (there : (c k).objects r ≡ Some o) (others : (p : ℕ) → p ≢ r + 1 → v (Area.Object p) ≡ (c k).words (Area.Object p)) where
      apart_of : (q d : ℕ) (p : Object) → (c k).objects q ≡ Some p → d < 2 + p.words → q + d ≡ r + 1 → (q ≡ r) × (d ≡ 1)
      apart_of q d p there_p below same = one_place (c k).objects (layout code b is_thread first classes c acts run k t th act).0.apart q r p o there_p there d 1 below (omega arith) same

      no_one : (d : ℕ) → 2 ≤ d → d ≡ 1 → ⊥
      no_one d low one = omega (arith, low, one)

      pub words_stay : (q i : ℕ) → word_in is_thread v q i ((c k).objects q) ≡ state.words q i
      words_stay q i = word_kept is_thread (c k).words v q i ((c k).objects q) (λ p there_p less plain. ap value_of (others (q + 2 + i) (λ same.
          no_one (2 + i) (omega arith) (apart_of q (2 + i) p there_p (omega (arith, less)) (omega (arith, same))).1)))

      pub starts_stay : (q : ℕ) → start_in is_thread v q ((c k).objects q) ≡ state.starts q
      starts_stay q = start_kept is_thread (c k).words v q ((c k).objects q) (λ p there_p thread. others (q + 3) (λ same.
          no_one 3 (omega arith) (apart_of q 3 p there_p (three p.words (has_start code b is_thread first classes c acts run k t th act q p there_p thread)) same).1))
        where
          three : (j : ℕ) → 1 < j → 3 < 2 + j
          three j some = omega (arith, some)

      -- the monitors, where the words of sections stay
      pub monitors_set : (x : Monitor) → ((s : ℕ) → v (Area.Section s) ≡ (c k).words (Area.Section s)) → monitor_of v (v (Area.Object (r + 1))) ≡ x
          → (q : ℕ) → monitor_in v q ((c k).objects q) ≡ set_at state.monitors r x q
      monitors_set x sections is q = elim (same_or_other q r) [
        | inl own ↦ ap (λ m. monitor_in v m ((c k).objects m)) own ∙ ap (monitor_in v r) there ∙ is ∙ sym (ap (set_at state.monitors r x) own ∙ set_at-hit state.monitors r x)
        | inr other ↦ monitor_kept (c k).words v q ((c k).objects q)
            (λ p there_p. others (q + 1) (λ same. other (apart_of q 1 p there_p (omega arith) same).0))
            (λ p there_p some. ap owner_of (sections (monitor_section ((c k).words (Area.Object (q + 1)))))) ∙ sym (set_at-other state.monitors r x q other)
      ]

    -- the own section holds a monitor then
    pub taken_so : (v : Words) (h : Held) → ((s : ℕ) → v (Area.Section s) ≡ (c k).words (Area.Section s)) → FitsMonitorWord h → 0 < th.section → monitor_of v (held_word th.section h) ≡ held t h.depth
    taken_so v h sections fits some =
        let low = fit_here.numbers t th act.stands in
        monitor_some v (held_word th.section h) (not_free th.section h.depth h.level fits.0)
        ∙ ap (λ s. held (owner_of (v (Area.Section s))) (monitor_depth (held_word th.section h))) (section_is th.section h.depth h.level low fits.1 fits.2)
        ∙ ap (λ n. held (owner_of n) (monitor_depth (held_word th.section h))) (sections th.section) ∙ ap (λ n. held n (monitor_depth (held_word th.section h))) (own_here some)
        ∙ ap (held t) (owners.depth_is th.section h.depth h.level low fits.1 fits.2)
