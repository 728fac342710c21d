-- What each change of a thread makes of its saves and levels.
use Rattle.std.proofs.Common.{◌≡◌, ℕ, zero, suc, ◌-◌, ◌<◌, ◌≤◌, false, List, [], ◌∷◌, None, Some, length, drop, refl, sym, ap, subst, arith}
use Rattle.std.specs.Prelude.{nat_lt, if◌then◌else◌}
use Rattle.std.proofs.lemmas.Grind.{common_steps}
use Rattle.std.proofs.lemmas.Bool.Decides.{nat_tests}
use Rattle.op_core.specs.declared.Next.{Next}
use Rattle.op_core.specs.declared.Reply.{Reply}
use Rattle.op_core.specs.ThreadCode.{Code}
use Rattle.heap_words.specs.declared.areas.Area.{Area}
use Rattle.heap_words.specs.declared.areas.Area.TheVariants.{Section}
use Rattle.section_state.specs.SectionWord.{revoke_of}
use Rattle.step_port.specs.declared.answer.StepAnswer.{StepAnswer}
use Rattle.step_port.specs.declared.step.Step.{Step}
use Rattle.step_port.specs.Steps.{place_of}
use Rattle.thread_automaton.specs.declared.Bounds.{Bounds}
use Rattle.thread_automaton.specs.declared.Attempt.TheVariants.{Begin, Look, Undoing}
use Rattle.thread_automaton.specs.ThreadState.{ThreadState, Mark, is_open, is_own_section}
use Rattle.thread_automaton.specs.Changes.{Change, goes, sees_pinned, opens, opens_level, closes_to, closes, goes_back, forgotten, with_level, with_levels, without_level, stood_at, section_at, answered, changed}
use Rattle.thread_automaton.specs.Answers.{lost_on}
use Rattle.thread_automaton.specs.Told.{Told, advanced, born, counted_for}
use Rattle.automaton_rows.specs.Rows.{Row, is_lost, is_undone}
use Rattle.automaton_rows.proofs.RowLemmas.{by_if}
use Rattle.core_runs.specs.Cores.{Core, outermost, levels_by}
use Rattle.section_laws.specs.OpenedSaves.{WasAt, AreAsOpened}

-- a section is undone to the level to which it is revoked
pub undone_level : {S : Type 0} (code : Code S) (b : Bounds) (th : ThreadState S) {next : Next} {step : Step} {a : StepAnswer} {change : Change} → Row code b th next step a change
    → (n : ℕ) → change ≡ goes_back n → (w : ℕ) × (th.attempt ≡ Undoing w) × (n ≡ revoke_of w)
undone_level code b th (is_undone {w = w} at undo does) n same = (w, at, ap level_in (sym same))
  where
    level_in : Change → ℕ
    level_in (goes_back m) = m
    level_in change = revoke_of w
undone_level code b th (is_lost {step = step}) n same = absurd (by_area (place_of step) same)
  where
    by_area : (area : Area) → lost_on th area ≡ goes_back n → ⊥
    by_area (Section s) same = by_if (λ change. change ≡ goes_back n → ⊥) (is_own_section th s) (goes Look) (goes Begin) (λ own is. cc) (λ other is. cc) same
    by_area area same = cc
undone_level code b th row n same = cc

module _ {S : Type 0} (c : ℕ → Core S) (t : ℕ) where
  opened_drop : (j : ℕ) (saved : List S) (marks : List Mark) (places : List ℕ) → AreAsOpened c t saved marks places → AreAsOpened c t (drop j saved) (drop j marks) (drop j places)
  opened_drop zero saved marks places each = each
  opened_drop (suc j) [] marks places each = tt
  opened_drop (suc j) (l ∷ saved) [] places each = absurd each
  opened_drop (suc j) (l ∷ saved) (m ∷ marks) [] each = absurd each
  opened_drop (suc j) (l ∷ saved) (m ∷ marks) (p ∷ places) each = opened_drop j saved marks places each.1

  abbrev Opened : ThreadState S → List ℕ → Type 0
  Opened y places = AreAsOpened c t y.saved y.marks places

  forgets : (y : ThreadState S) (places : List ℕ) → Opened y places → Opened (forgotten y) places
  forgets y places each = by_if (λ z. Opened z places) (is_open y) y (record y { log = []; saved = []; marks = [] }) (λ open_so. each) (λ shut. tt)

  module _ (code : Code S) (k : ℕ) (th : ThreadState S) (at : (c k).threads t ≡ Some th) (levels : List ℕ) (counted : length levels ≡ th.levels) (each : AreAsOpened c t th.saved th.marks levels) where
    here : WasAt c t k th.local th.silents
    here = record { th = th; stands = at; was = refl; moves = refl }

    -- the outermost n are left
    left : (n : ℕ) → AreAsOpened c t (drop (th.levels - n) th.saved) (drop (th.levels - n) th.marks) (outermost n levels)
    left n = subst (λ m. AreAsOpened c t (drop (th.levels - n) th.saved) (drop (th.levels - n) th.marks) (drop (m - n) levels)) (sym counted) (opened_drop (th.levels - n) th.saved th.marks levels each)

    pub changes : (change : Change) → ((n : ℕ) → change ≡ goes_back n → (0 < n) × (n ≤ th.levels)) → Opened (changed code th change) (levels_by k change levels)
    changes (sees_pinned depth attempt) undone = forgets (record th { pinned = depth; attempt = attempt }) levels each
    changes (opens s attempt) undone = (here, each)
    changes (opens_level attempt) undone = forgets (with_level (record th { attempt = attempt })) (k ∷ levels) (here, each)
    changes (closes_to n attempt) undone = forgets (with_levels (record th { attempt = attempt }) n) (outermost n levels) (left n)
    changes closes undone = none_left (with_levels (record (answered code th Reply.Done) { held = []; section = 0 }) 0) (shut_at th.pinned)
      where
        shut_at : (n : ℕ) → nat_lt n 0 ≡ false
        shut_at n = grind (arith, common_steps, nat_tests)

        none_left : (y : ThreadState S) → is_open y ≡ false → Opened (forgotten y) []
        none_left y shut = subst (λ test. Opened (if test then y else record y { log = []; saved = []; marks = [] }) []) (sym shut) tt
    changes (goes_back n) undone =
        forgets (without_level (record (stood_at th n) { section = section_at (n - 1) th.section; attempt = Begin }) n) (outermost (n - 1) levels)
        (subst (λ j. AreAsOpened c t (drop j th.saved) (drop j th.marks) (outermost (n - 1) levels)) (one_more th.levels n (undone n refl).0 (undone n refl).1) (left (n - 1)))
      where
        one_more : (l n : ℕ) → 0 < n → n ≤ l → l - (n - 1) ≡ suc (l - n)
        one_more l n some low = omega (arith, some, low)
    changes change undone = each

  pub counted_opened : (told : Told) (y : ThreadState S) (places : List ℕ) → Opened y places → Opened (counted_for told y) places
  counted_opened (advanced None) y places each = each
  counted_opened (advanced (Some reply)) y places each = each
  counted_opened born y places each = each
  counted_opened other y places each = each
