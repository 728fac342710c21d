-- The words of monitors after an undoing.
use Rattle.std.proofs.Common.{◌≡◌, ℕ, suc, ◌+◌, ◌-◌, ◌^◌, ◌<◌, ◌≤◌, Bool, true, false, None, Some, List, [], ◌∷◌, length, nat_eq, refl, sym, ◌∙◌, ap, subst, arith}
use Rattle.std.specs.Prelude.{◌||◌, if◌then◌else◌}
use Rattle.std.proofs.lemmas.Grind.{common_steps}
use Rattle.std.proofs.lemmas.Bool.Decides.{nat_tests}
use Rattle.std.proofs.lemmas.Option.{same_Some, slice_get_within}
use Rattle.op_core.specs.declared.Next.{Next}
use Rattle.op_core.specs.ThreadCode.{Code}
use Rattle.heap_words.specs.declared.areas.Area.{Area}
use Rattle.section_state.specs.SectionWord.{revoke_of}
use Rattle.monitor_core.specs.Monitors.{monitor_section, monitor_level}
use Rattle.step_port.specs.declared.answer.StepAnswer.{StepAnswer}
use Rattle.step_port.specs.declared.answer.StepAnswer.TheVariants.{Done}
use Rattle.step_port.specs.declared.step.Step.{Step}
use Rattle.step_port.specs.declared.step.Step.TheVariants.{MarkUndone}
use Rattle.step_port.specs.Steps.{effect_of}
use Rattle.step_port.specs.Words.{CanAnswer}
use Rattle.thread_automaton.specs.declared.Bounds.{Bounds}
use Rattle.thread_automaton.specs.declared.Held.{Held}
use Rattle.thread_automaton.specs.declared.Attempt.{Attempt}
use Rattle.thread_automaton.specs.declared.Attempt.TheVariants.{Begin, Undoing}
use Rattle.thread_automaton.specs.ThreadState.{ThreadState, is_open, held_as}
use Rattle.thread_automaton.specs.Changes.{Change, forgotten, without_level, stood_at, section_at, changed}
use Rattle.thread_automaton.specs.Answers.{change_of}
use Rattle.thread_automaton.specs.Told.{Told, advanced, born, told, counted_for, after_answer}
use Rattle.automaton_rows.specs.Rows.{Row, is_lost, is_undone}
use Rattle.automaton_rows.specs.Undoing.{is_held}
use Rattle.automaton_rows.proofs.RowLemmas.{answers_are_rows, by_if}
use Rattle.core_runs.specs.Cores.{Core}
use Rattle.core_runs.specs.Acts.{Act, did, DidAt}
use Rattle.section_laws.specs.Runs.{IsRun}
use Rattle.section_laws.proofs.SectionLemmas.{sections_apart}
use Rattle.section_laws.proofs.RunLemmas.{act_at, facts_at}
use Rattle.section_laws.proofs.own_sections.SeenLemmas.{undoing_seen}
use Rattle.section_laws.proofs.own_sections.MoveLemmas.{own_at}
use Rattle.section_laws.specs.HeldLevels.{AreAtMost, kept_by}
use Rattle.section_laws.proofs.held_levels.StandLemmas.{held_levels_are_open}
use Rattle.first_law.specs.RunMonitors.{IsObject, IsMonitorRun}
use Rattle.first_law.specs.Held.{Holds}
use Rattle.first_law.specs.Laws.{MonitorsAreHeld}
use Rattle.first_law.proofs.run_monitors.ListLemmas.{depth_fits, level_fits}
use Rattle.first_law.proofs.run_monitors.MarkLemmas as words
use Rattle.first_law.proofs.run_monitors.RunLemmas.{so_at, monitors_are_held}
use Rattle.first_law.proofs.run_monitors.DidLemmas as dids
use Rattle.written_words.proofs.GoneLemmas as gone
use Rattle.written_words.specs.UndoneMonitors.{MarksUndone, UndoneLevelsHoldNoMonitor, UndoneSectionsHoldNoMonitor}

-- ---- the thread after its section was marked as undone

abbrev IsMark : Step → Type 0
IsMark (MarkUndone s w) = Unit {0}
IsMark step = ⊥

-- It begins an attempt with the levels further out, or the step is none that marks a section.
data Marked {S : Type 0} (x : ThreadState S) (step : Step) (attempt : Attempt) (section levels : ℕ) : Type 0 where
  marked : (w : ℕ) → x.attempt ≡ Undoing w → attempt ≡ Begin → section ≡ section_at (revoke_of w - 1) x.section → levels ≡ revoke_of w - 1 → Marked x step attempt section levels
  other_step : (IsMark step → ⊥) → Marked x step attempt section levels

module _ {S : Type 0} (code : Code S) (b : Bounds) (th : ThreadState S) where
  abbrev Marks : Step → ThreadState S → Type 0
  Marks step y = Marked th step y.attempt y.section y.levels

  lost_none : (step : Step) (v : ℕ) → CanAnswer (effect_of step) (StepAnswer.Lost v) → IsMark step → ⊥
  lost_none (MarkUndone s w) v can is = can
  lost_none step v can is = is

  marks_of : {next : Next} {step : Step} {a : StepAnswer} {change : Change} → Row code b th next step a change → CanAnswer (effect_of step) a → Marks step (changed code th change)
  marks_of (is_lost {step = step} {v = v}) can = other_step (lost_none step v can)
  marks_of (is_undone {w = w} at undo does) can = begun (without_level (record (stood_at th (revoke_of w)) { section = section_at (revoke_of w - 1) th.section; attempt = Begin }) (revoke_of w)) (marked w at refl refl refl)
    where
      begun : {step : Step} (y : ThreadState S) → Marks step y → Marks step (forgotten y)
      begun {step} y marks = by_if (λ (z : ThreadState S). Marks step z) (is_open y) y (record y { log = []; saved = []; marks = [] }) (λ open_so. marks) (λ shut. marks)
  marks_of row can = other_step (λ is. is)

  counted_marks : {step : Step} (by : Told) (y : ThreadState S) → Marks step y → Marks step (counted_for by y)
  counted_marks (advanced None) y marks = marks
  counted_marks (advanced (Some reply)) y marks = marks
  counted_marks born y marks = marks
  counted_marks other y marks = marks

abbrev seen_word : Attempt → ℕ
seen_word (Undoing w) = w
seen_word attempt = 0

-- each monitor that is held was taken no further in
at_most : (n r : ℕ) (held : List Held) → AreAtMost n held → is_held r held ≡ true → (held_as r held).level ≤ n
at_most n r [] low has = cc
at_most n r (h ∷ held) low has = by_test (nat_eq h.object r) (λ more. at_most n r held low.1 more) has
  where
    by_test : (t : Bool) → (is_held r held ≡ true → (held_as r held).level ≤ n) → (t || is_held r held) ≡ true → (if t then h else held_as r held).level ≤ n
    by_test true more has = low.0
    by_test false more has = more has

-- ---- along a run

module _ {S : Type 0} (code : Code S) (b : Bounds) (first : S) (classes : ℕ) (c : ℕ → Core S) (acts : List Act) (run : IsMonitorRun code b first classes c acts) where
  ran : IsRun code b c acts
  ran = run.levelled.ordered.run

  abbrev word : ℕ → ℕ → ℕ
  word k r = (c k).words (Area.Object (r + 1))

  -- what the word of a monitor says that is held
  module _ (k t r : ℕ) (th : ThreadState S) (within : k ≤ length acts) (stands : (c k).threads t ≡ Some th) (held : is_held r th.held ≡ true) where
    holds : Holds b (code.next th.local) th
    holds = (so_at code b first classes c acts run k within).0 t th stands

    low : th.section < 2 ^ 32
    low = below th.section b.limits.sections holds.within run.numbers
      where
        below : (s l : ℕ) → s ≤ l → l < 2 ^ 32 → s < 2 ^ 32
        below s l low high = omega (arith, low, high)

    depth : (held_as r th.held).depth < 2 ^ 16
    depth = (depth_fits r th.held holds.depths held).1

    few : (held_as r th.held).level < 2 ^ 8
    few = (level_fits r th.held ((facts_at code b c acts ran k within).fit t th stands).kept.in_levels).1

    section : monitor_section (word k r) ≡ th.section
    section = ap monitor_section ((monitors_are_held code b first classes c acts run k within).says t r th stands held) ∙ words.section_is th.section (held_as r th.held).depth (held_as r th.held).level low depth few

    level : monitor_level (word k r) ≡ (held_as r th.held).level
    level = ap monitor_level ((monitors_are_held code b first classes c acts run k within).says t r th stands held) ∙ words.level_is th.section (held_as r th.held).depth (held_as r th.held).level low depth few

  -- a monitor that carries a section is held by the thread of that section
  record Holder (k s r : ℕ) : Type 0 where
    thread : ℕ
    th : ThreadState S
    stands : (c k).threads thread ≡ Some th
    held : is_held r th.held ≡ true
    own : th.section ≡ s
    level : monitor_level (word k r) ≡ (held_as r th.held).level

  holder : (k s r : ℕ) → k ≤ length acts → 0 < s → IsObject (c k) r → monitor_section (word k r) ≡ s → Holder k s r
  holder k s r within some there carries = record { thread = taken.0; th = taken.1; stands = taken.2; held = taken.3; own = sym (section k taken.0 r taken.1 within taken.2 taken.3) ∙ carries; level = level k taken.0 r taken.1 within taken.2 taken.3 }
    where
      monitors : MonitorsAreHeld (c k)
      monitors = monitors_are_held code b first classes c acts run k within

      taken : (t : ℕ) × (th : ThreadState S) × ((c k).threads t ≡ Some th) × (is_held r th.held ≡ true)
      taken = monitors.taken r there (λ free. no s (sym carries ∙ ap monitor_section free ∙ words.section_of_zero) some)
        where
          no : (s : ℕ) → s ≡ 0 → 0 < s → ⊥
          no s none some = omega (arith, none, some)

  module _ (k t s n : ℕ) (marks : MarksUndone c acts k t s n) where
    within : k < length acts
    within = slice_get_within acts k (did t (MarkUndone s marks.word) Done) marks.marks

    up : k ≤ length acts
    up = let low = within in omega (arith, low)

    some_section : 0 < s
    some_section = gone.some_section code b first classes c acts run.levelled k t s marks.word marks.marks

    holds_none : (j r : ℕ) → n ≡ 1 → k < j → j ≤ length acts → IsObject (c j) r → monitor_section (word j r) ≡ s → ⊥
    holds_none j r whole later low there carries =
        let h = holder j s r low some_section there carries in
        gone.section_gone code b first classes c acts run.levelled k t s marks.word marks.marks marks.seen marks.th marks.stands marks.undoing (marks.level ∙ whole) j h.thread h.th later low h.stands h.own

    at : DidAt code b c k t (MarkUndone s marks.word) Done
    at = act_at code b c acts k (did t (MarkUndone s marks.word) Done) ran.leads marks.marks

    same : at.from ≡ marks.th
    same = same_Some at.from marks.th (sym at.stands ∙ marks.stands)

    abbrev y : ThreadState S
    y = after_answer code b at.from (MarkUndone s marks.word) Done

    there_then : (c (suc k)).threads t ≡ Some (after_answer code b at.from (MarkUndone s marks.word) Done)
    there_then = ap (λ (core : Core S). core.threads t) at.leads
        ∙ dids.own_there code b first classes c acts run k within t (MarkUndone s marks.word) Done marks.marks at (so_at code b first classes c acts run k up)

    turn : Marked at.from (MarkUndone s marks.word) y.attempt y.section y.levels
    turn = counted_marks code b at.from (told code b at.from (MarkUndone s marks.word) Done) (changed code at.from (change_of code b at.from (code.next at.from.local) (MarkUndone s marks.word) Done))
        (marks_of code b at.from (answers_are_rows code b at.from (MarkUndone s marks.word) Done ((facts_at code b c acts ran k up).fit t at.from at.stands).attempt at.move tt) tt)

    lower : (r : ℕ) → IsObject (c (suc k)) r → monitor_section (word (suc k) r) ≡ s → monitor_level (word (suc k) r) < n
    lower r there carries = by_turn turn
      where
        h : Holder (suc k) s r
        h = holder (suc k) s r within some_section there carries

        own_section : at.from.section ≡ s
        own_section = ap (λ (x : ThreadState S). x.section) (same ∙ same_Some marks.th (gone.undoes code b first classes c acts run.levelled k t s marks.word marks.marks).th
            (sym marks.stands ∙ (gone.undoes code b first classes c acts run.levelled k t s marks.word marks.marks).stands)) ∙ gone.own_section code b first classes c acts run.levelled k t s marks.word marks.marks

        by_turn : Marked at.from (MarkUndone s marks.word) y.attempt y.section y.levels → monitor_level (word (suc k) r) < n
        by_turn (other_step none) = absurd (none tt)
        by_turn (marked w undoing begins section levels) = by_whole (nat_eq (revoke_of w - 1) 0) refl
          where
            level_n : revoke_of w ≡ n
            level_n = ap revoke_of (ap seen_word (sym undoing ∙ ap (λ (x : ThreadState S). x.attempt) same ∙ marks.undoing)) ∙ marks.level

            some_level : 0 < revoke_of w
            some_level = above at.from.pinned (revoke_of w) (undoing_seen code at.from (c k).words (own_at code b c acts ran run.levelled.ordered.in_bits k up t at.from at.stands) ((facts_at code b c acts ran k up).fit t at.from at.stands) w undoing).0
              where
                above : (p r : ℕ) → p < r → 0 < r
                above p r low = omega (arith, low)

            one : (r n : ℕ) → nat_eq (r - 1) 0 ≡ true → 0 < r → r ≡ n → n ≡ 1
            one r n is some same = grind (arith, common_steps, nat_tests)

            by_whole : (z : Bool) → nat_eq (revoke_of w - 1) 0 ≡ z → monitor_level (word (suc k) r) < n
            by_whole true is = absurd (holds_none (suc k) r (one (revoke_of w) n is some_level level_n) (omega arith) within there carries)
            by_whole false is = less (monitor_level (word (suc k) r)) (held_as r h.th.held).level y.levels (revoke_of w) n h.level low levels some_level level_n
              where
                less : (m l y r n : ℕ) → m ≡ l → l ≤ y → y ≡ r - 1 → 0 < r → r ≡ n → m < n
                less m l y r n is low same some level = omega (arith, is, low, same, some, level)

                goes_on : y.section ≡ s
                goes_on = section ∙ ap (λ z. if z then 0 else at.from.section) is ∙ own_section

                own : t ≡ h.thread
                own = sections_apart code b c acts ran (suc k) t h.thread y h.th within there_then h.stands (subst (λ m. 0 < m) (sym goes_on) some_section) (goes_on ∙ sym h.own)

                is_own : h.th ≡ after_answer code b at.from (MarkUndone s marks.word) Done
                is_own = same_Some h.th (after_answer code b at.from (MarkUndone s marks.word) Done) (sym h.stands ∙ ap (c (suc k)).threads (sym own) ∙ there_then)

                open_levels : AreAtMost y.levels y.held
                open_levels = subst (λ g. AreAtMost y.levels (kept_by g (code.next y.local) y.held)) begins (held_levels_are_open code b first classes c acts run.levelled.ordered (suc k) t y within there_then)

                low : (held_as r h.th.held).level ≤ y.levels
                low = at_most y.levels r h.th.held (subst (λ (x : ThreadState S). AreAtMost y.levels x.held) (sym is_own) open_levels) h.held

pub undone_levels_hold_no_monitor : {S : Type 0} (code : Code S) → UndoneLevelsHoldNoMonitor code
undone_levels_hold_no_monitor code b first classes c acts run k t s n r marks there carries = lower code b first classes c acts run k t s n marks r there carries

pub undone_sections_hold_no_monitor : {S : Type 0} (code : Code S) → UndoneSectionsHoldNoMonitor code
undone_sections_hold_no_monitor code b first classes c acts run k j t s r marks later low there carries = holds_none code b first classes c acts run k t s 1 marks j r refl later low there carries
