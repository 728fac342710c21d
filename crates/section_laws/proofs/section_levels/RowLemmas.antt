-- What each row of the automaton makes of the levels that are open.
use Rattle.std.proofs.Common.{◌≡◌, ℕ, zero, suc, ◌-◌, ◌≤◌, true, None, Some, List, [], ◌∷◌, length, nat_eq, refl, sym, ◌∙◌, ap, subst, arith, drop}
use Rattle.std.proofs.lemmas.Grind.{common_steps}
use Rattle.std.proofs.lemmas.Bool.Decides.{nat_tests}
use Rattle.op_core.specs.declared.Next.{Next}
use Rattle.op_core.specs.declared.Reply.{Reply}
use Rattle.op_core.specs.ThreadCode.{Code}
use Rattle.heap_words.specs.declared.areas.Area.{Area}
use Rattle.heap_words.specs.declared.areas.Area.TheVariants.{Section}
use Rattle.section_state.specs.SectionWord.{pinned_of, revoke_of}
use Rattle.step_port.specs.declared.answer.StepAnswer.{StepAnswer}
use Rattle.step_port.specs.declared.step.Step.{Step}
use Rattle.step_port.specs.declared.step.Step.TheVariants.{OpenSection, OpenLevel, CloseLevel, Release}
use Rattle.step_port.specs.Steps.{place_of}
use Rattle.thread_automaton.specs.declared.Bounds.{Bounds}
use Rattle.thread_automaton.specs.declared.Attempt.TheVariants.{Begin, Look, Checked, Fixed, Undoing}
use Rattle.thread_automaton.specs.ThreadState.{ThreadState, is_open, is_own_section}
use Rattle.thread_automaton.specs.Changes.{Change, goes, answered, forgotten, with_level, with_levels, without_level, stood_at, section_at, changed}
use Rattle.thread_automaton.specs.Checks.{behind_pin}
use Rattle.thread_automaton.specs.Monitors.{take_for}
use Rattle.thread_automaton.specs.Answers.{lost_on, change_of}
use Rattle.thread_automaton.specs.Told.{Told, advanced, born, told, counted_for, after_answer}
use Rattle.automaton_rows.specs.Fits.{IsKept}
use Rattle.automaton_rows.specs.Rows.{Row, is_lost, own_stands, pins, is_undone, section_opened, level_opened, levels_closed, section_left}
use Rattle.automaton_rows.proofs.RowLemmas.{by_if}
use Rattle.core_runs.specs.Cores.{outermost, levels_by}

-- the step opens a section or a level
abbrev pub IsOpening : Step → Type 0
IsOpening (OpenSection s w) = Unit {0}
IsOpening (OpenLevel s w) = Unit {0}
IsOpening step = ⊥

-- With act number k the levels that are open go from the first list to the second, and their number from the one to the
-- other: levels are closed, or none is; or one is opened.
pub data LevelsGo (step : Step) (k before after : ℕ) (levels behind : List ℕ) : Type 0 where
  goes_out : after ≤ before → behind ≡ outermost after levels → LevelsGo step k before after levels behind
  goes_in : IsOpening step → after ≡ suc before → behind ≡ k ∷ levels → LevelsGo step k before after levels behind

-- ---- lists

pub drop_none : {A : Type 0} (n : ℕ) (xs : List A) → n ≡ 0 → drop n xs ≡ xs
drop_none zero xs none = refl
drop_none (suc n) xs none = absurd (no n none)
  where
    no : (n : ℕ) → suc n ≡ 0 → ⊥
    no n none = omega (arith, none)

pub drop_all : {A : Type 0} (n : ℕ) (xs : List A) → length xs ≤ n → drop n xs ≡ []
drop_all zero [] low = refl
drop_all zero (x ∷ xs) low = absurd (no (length xs) low)
  where
    no : (n : ℕ) → suc n ≤ 0 → ⊥
    no n low = omega (arith, low)
drop_all (suc n) [] low = refl
drop_all (suc n) (x ∷ xs) low = drop_all n xs (less (length xs) n low)
  where
    less : (m n : ℕ) → suc m ≤ suc n → m ≤ n
    less m n low = omega (arith, low)

-- the outermost ones are all, and none
pub outermost_all : (n : ℕ) (levels : List ℕ) → length levels ≡ n → outermost n levels ≡ levels
outermost_all n levels is = drop_none (length levels - n) levels (same (length levels) n is)
  where
    same : (m n : ℕ) → m ≡ n → m - n ≡ 0
    same m n is = omega (arith, is)

pub outermost_none : (levels : List ℕ) → outermost 0 levels ≡ []
outermost_none levels = drop_all (length levels - 0) levels (same (length levels))
  where
    same : (n : ℕ) → n ≤ n - 0
    same n = omega arith

pub length_outermost : (n : ℕ) (levels : List ℕ) → n ≤ length levels → length (outermost n levels) ≡ n
length_outermost n levels low = length_drop (length levels - n) levels ∙ back (length levels) n low
  where
    length_drop : (m : ℕ) (xs : List ℕ) → length (drop m xs) ≡ length xs - m
    length_drop zero xs = whole (length xs)
      where
        whole : (n : ℕ) → n ≡ n - 0
        whole n = omega arith
    length_drop (suc m) [] = none m
      where
        none : (m : ℕ) → 0 ≡ 0 - suc m
        none m = omega arith
    length_drop (suc m) (x ∷ xs) = length_drop m xs ∙ shift (length xs) m
      where
        shift : (n m : ℕ) → n - m ≡ suc n - suc m
        shift n m = omega arith

    back : (m n : ℕ) → n ≤ m → m - (m - n) ≡ n
    back m n low = omega (arith, low)

-- ---- rows

module _ {S : Type 0} (code : Code S) (b : Bounds) (th : ThreadState S) (k : ℕ) (levels : List ℕ) (counted : length levels ≡ th.levels) where
  abbrev Goes : Step → Change → Type 0
  Goes step change = LevelsGo step k th.levels (changed code th change).levels levels (levels_by k change levels)

  same : (n : ℕ) → n ≤ n
  same n = omega arith

  -- the levels stay
  stay : {step : Step} {after : ℕ} {behind : List ℕ} → after ≡ th.levels → behind ≡ levels → LevelsGo step k th.levels after levels behind
  stay {after = after} is kept = goes_out (as_is after th.levels is) (kept ∙ sym (ap (λ n. outermost n levels) is ∙ outermost_all th.levels levels counted))
    where
      as_is : (m n : ℕ) → m ≡ n → m ≤ n
      as_is m n is = omega (arith, is)

  forgotten_levels : (y : ThreadState S) → (forgotten y).levels ≡ y.levels
  forgotten_levels y = by_if (λ z. z.levels ≡ y.levels) (is_open y) y (record y { log = []; saved = []; marks = [] }) (λ yes. refl) (λ no. refl)

  forgets_go : {step : Step} {behind : List ℕ} (y : ThreadState S) → LevelsGo step k th.levels y.levels levels behind → LevelsGo step k th.levels (forgotten y).levels levels behind
  forgets_go {step} {behind} y go = subst (λ n. LevelsGo step k th.levels n levels behind) (sym (forgotten_levels y)) go

  no_levels : nat_eq th.section 0 ≡ true → IsKept th → th.levels ≡ 0
  no_levels none kept = is_zero th.levels (sym kept.levels ∙ none)
    where
      is_zero : (n : ℕ) → nat_eq n 0 ≡ true → n ≡ 0
      is_zero n is = grind (arith, common_steps, nat_tests)

  levels_go : {next : Next} {step : Step} {a : StepAnswer} {change : Change} → Row code b th next step a change → IsKept th
      → ((s w n : ℕ) → step ≡ CloseLevel s w n → n ≤ th.levels) → ((w : ℕ) → th.attempt ≡ Undoing w → revoke_of w ≤ th.levels) → Goes step change
  levels_go (is_lost {step = step} {v = v}) kept closed undoing = by_area (place_of step)
    where
      by_area : (area : Area) → Goes step (lost_on th area)
      by_area (Section s) = by_if (λ change. Goes step change) (is_own_section th s) (goes Look) (goes Begin) (λ yes. stay refl refl) (λ no. stay refl refl)
      by_area area = stay refl refl
  levels_go (own_stands {w = w} at looks live) kept closed undoing = stay (forgotten_levels (record th { pinned = pinned_of w; attempt = Checked })) refl
  levels_go (pins {next = next} unpinned lasts) kept closed undoing = stay (forgotten_levels (record th { pinned = th.levels; attempt = behind_pin th next })) refl
  levels_go (is_undone {w = w} at undo does) kept closed undoing =
      forgets_go (without_level (record (stood_at th (revoke_of w)) { section = section_at (revoke_of w - 1) th.section; attempt = Begin }) (revoke_of w)) (goes_out (less (revoke_of w) th.levels (undoing w at)) refl)
    where
      less : (r n : ℕ) → r ≤ n → r - 1 ≤ n
      less r n low = omega (arith, low)
  levels_go (section_opened enters none some) kept closed undoing = goes_in tt (one th.levels (no_levels none kept)) refl
    where
      one : (n : ℕ) → n ≡ 0 → 1 ≡ suc n
      one n none = omega (arith, none)
  levels_go (level_opened {next = next} enters some needs room) kept closed undoing =
      goes_in tt (forgotten_levels (with_level (record th { attempt = Fixed (take_for th next th.section (suc th.levels)) }))) refl
  levels_go (levels_closed {r = r} {depth = depth} closes) kept closed undoing =
      forgets_go (with_levels (record th { attempt = Fixed (Release r) }) depth) (goes_out (closed _ _ depth refl) refl)
  levels_go (section_left at none) kept closed undoing =
      forgets_go (with_levels (record (answered code th Reply.Done) { held = []; section = 0 }) 0) (goes_out (omega arith) (sym (outermost_none levels)))
  levels_go row kept closed undoing = stay refl refl

  counted_levels : (told : Told) (y : ThreadState S) → (counted_for told y).levels ≡ y.levels
  counted_levels (advanced None) y = refl
  counted_levels (advanced (Some reply)) y = refl
  counted_levels born y = refl
  counted_levels other y = refl

  pub levels_after : {step : Step} {a : StepAnswer} → Row code b th (code.next th.local) step a (change_of code b th (code.next th.local) step a) → IsKept th
      → ((s w n : ℕ) → step ≡ CloseLevel s w n → n ≤ th.levels) → ((w : ℕ) → th.attempt ≡ Undoing w → revoke_of w ≤ th.levels)
      → LevelsGo step k th.levels (after_answer code b th step a).levels levels (levels_by k (change_of code b th (code.next th.local) step a) levels)
  levels_after {step} {a} row kept closed undoing =
      subst (λ n. LevelsGo step k th.levels n levels (levels_by k (change_of code b th (code.next th.local) step a) levels))
      (sym (counted_levels (told code b th step a) (changed code th (change_of code b th (code.next th.local) step a)))) (levels_go row kept closed undoing)

-- as many are open after it
pub counted_after : (step : Step) (k before after : ℕ) (levels behind : List ℕ) → length levels ≡ before → LevelsGo step k before after levels behind → length behind ≡ after
counted_after step k before after levels behind is (goes_out low kept) = ap length kept ∙ length_outermost after levels (fits after before (length levels) low is)
  where
    fits : (m n l : ℕ) → m ≤ n → l ≡ n → m ≤ l
    fits m n l low is = omega (arith, low, is)
counted_after step k before after levels behind is (goes_in opening more kept) = ap length kept ∙ next (length levels) before after is more
  where
    next : (l m n : ℕ) → l ≡ m → n ≡ suc m → suc l ≡ n
    next l m n is more = omega (arith, is, more)
