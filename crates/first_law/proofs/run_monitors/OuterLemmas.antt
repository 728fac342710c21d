-- What is so of the steps that rows fix, and of the monitors that are held beside one that is left.
use Rattle.std.proofs.Common.{◌≡◌, inl, inr, ℕ, suc, ◌+◌, ◌-◌, ◌^◌, ◌<◌, ◌≤◌, Bool, true, false, ◌||◌, true≢false, List, [], ◌∷◌, length, nat_eq, refl, sym, ◌∙◌, ap, subst, arith}
use Rattle.std.specs.Prelude.{nat_lt, if◌then◌else◌}
use Rattle.std.proofs.lemmas.Grind.{common_steps}
use Rattle.std.proofs.lemmas.Bool.Decides.{nat_tests}
use Rattle.op_core.specs.Replies.{IsEntry}
use Rattle.op_core.specs.declared.Op.TheVariants.{Enter, Exit, Rewake}
use Rattle.op_core.specs.declared.Next.{Next}
use Rattle.op_core.specs.declared.Next.TheVariants.{Want}
use Rattle.monitor_core.specs.Monitors.{monitor_word, monitor_depth, monitor_level}
use Rattle.thread_automaton.specs.declared.Held.{Held}
use Rattle.thread_automaton.specs.ThreadState.{ThreadState, held_as, highest}
use Rattle.thread_automaton.specs.Changes.{without}
use Rattle.thread_automaton.specs.Monitors.{monitor_wanted, needs_level}
use Rattle.automaton_rows.specs.Undoing.{is_held, HeldOnce}
use Rattle.section_laws.specs.HeldLevels.{AreAtMost}
use Rattle.section_laws.proofs.held_levels.HeldLemmas.{highest_low, without_low}
use Rattle.first_law.specs.Held.{has_level, LevelsDiffer, IsEnteredOnce, OpensFor, TakesFor, SetsFor, WaitsHold}
use Rattle.first_law.proofs.run_monitors.ListLemmas.{less_or, not_less, has_parts, has_highest_of, has_below_highest, level_alone}
use Rattle.first_law.proofs.run_monitors.KeptLemmas.{SaysHeld}
use Rattle.first_law.proofs.run_monitors.ChangeLemmas.{twice}

-- ---- what rows fix

pub opens_for : (held : List Held) (next : Next) → is_held (monitor_wanted next) held ≡ false → OpensFor held next
opens_for held (Want (Enter r)) none = none
opens_for held next none = tt

pub takes_for : {S : Type 0} (th : ThreadState S) (next : Next) → is_held (monitor_wanted next) th.held ≡ false → needs_level th next ≡ false → TakesFor th.levels th.held next
takes_for th (Want (Enter r)) none taken = (none, twice (has_level th.levels th.held) taken)
takes_for th next none taken = tt

pub sets_for : (section level depth m : ℕ) (held : List Held) (next : Next) → IsEntry next → WaitsHold level depth held next → SaysHeld held (monitor_wanted next) m → nat_eq (monitor_depth m) 65535 ≡ false
    → SetsFor section held next (monitor_word section (monitor_depth m + 1) (monitor_level m))
sets_for section level depth m held (Want (Enter r)) enters waits says room = (
  says.has,
  below (monitor_depth m) (held_as r held).depth says.depth says.low room,
  ap (λ d. monitor_word section d (monitor_level m)) (one_more (monitor_depth m) (held_as r held).depth says.depth) ∙ ap (λ l. monitor_word section (suc (held_as r held).depth) l) says.level,
)
  where
    below : (m d : ℕ) → m ≡ d → d < 2 ^ 16 → nat_eq m 65535 ≡ false → d < 65535
    below m d is low room = under d low (subst (λ n. nat_eq n 65535 ≡ false) is room)
      where
        under : (d : ℕ) → d < 2 ^ 16 → nat_eq d 65535 ≡ false → d < 65535
        under d low room = grind (arith, common_steps, nat_tests)

    one_more : (m d : ℕ) → m ≡ d → m + 1 ≡ suc d
    one_more m d is = omega (arith, is)
sets_for section level depth m held (Want (Rewake r)) enters waits says room = true≢false (sym says.has ∙ waits.2)
sets_for section level depth m held next enters waits says room = absurd enters

-- left once, of more times
pub sets_less : (section r m : ℕ) (held : List Held) → SaysHeld held r m → nat_lt 1 (monitor_depth m) ≡ true → SetsFor section held (Want (Exit r)) (monitor_word section (monitor_depth m - 1) (monitor_level m))
sets_less section r m held says more =
    let deep = less_or 1 (monitor_depth m) more in (
      says.has,
      (
        (held_as r held).depth - 2,
        back (held_as r held).depth (monitor_depth m) says.depth deep,
        ap (λ d. monitor_word section d (monitor_level m)) (less (held_as r held).depth (monitor_depth m) says.depth deep) ∙ ap (λ l. monitor_word section (suc ((held_as r held).depth - 2)) l) says.level,
      ),
    )
  where
    back : (d m : ℕ) → m ≡ d → 1 < m → suc (suc (d - 2)) ≡ d
    back d m is deep = omega (arith, is, deep)

    less : (d m : ℕ) → m ≡ d → 1 < m → m - 1 ≡ suc (d - 2)
    less d m is deep = omega (arith, is, deep)

pub entered_once : (r m : ℕ) (held : List Held) → SaysHeld held r m → nat_lt 1 (monitor_depth m) ≡ false → IsEnteredOnce r held
entered_once r m held says last = (says.has, one (held_as r held).depth (monitor_depth m) says.depth says.some (not_less 1 (monitor_depth m) last))
  where
    one : (d m : ℕ) → m ≡ d → 0 < d → m ≤ 1 → d ≡ 1
    one d m is some low = omega (arith, is, some, low)

-- the monitor that is left was taken at the innermost level
pub is_innermost : (levels r : ℕ) (held : List Held) → HeldOnce held → AreAtMost levels held → has_level levels held ≡ true → highest (without r held) < (held_as r held).level → (held_as r held).level ≤ levels
    → (held_as r held).level ≡ levels
is_innermost levels r held once each has outer low = elim (has_parts levels r held once has) [
  | inl own ↦ own.1
  | inr more ↦ absurd (no levels (highest (without r held)) (held_as r held).level (has_below_highest levels (without r held) more) outer low)
]
  where
    no : (l h a : ℕ) → l ≤ h → h < a → a ≤ l → ⊥
    no l h a low less high = omega (arith, low, less, high)

pub held_low : (n r : ℕ) (held : List Held) → AreAtMost n held → is_held r held ≡ true → (held_as r held).level ≤ n
held_low n r [] each is = cc
held_low n r (h ∷ held) each is = by_test (nat_eq h.object r) is (held_low n r held each.1)
  where
    by_test : (t : Bool) → (t || is_held r held) ≡ true → (is_held r held ≡ true → (held_as r held).level ≤ n) → (if t then h else held_as r held).level ≤ n
    by_test true is rest = each.0
    by_test false is rest = rest is

-- another one is further in than it is
pub is_outer : (r : ℕ) (held : List Held) → HeldOnce held → LevelsDiffer held → is_held r held ≡ true → 0 < length (without r held) → (held_as r held).level ≤ highest (without r held)
    → (held_as r held).level < highest (without r held)
is_outer r held once apart is some low = under (held_as r held).level (highest (without r held)) low
    (λ same. true≢false (sym (subst (λ n. has_level n (without r held) ≡ true) (sym same) (has_highest_of (without r held) some)) ∙ level_alone r held once apart is))
  where
    under : (a h : ℕ) → a ≤ h → (a ≡ h → ⊥) → a < h
    under a h low other = by_test (nat_lt a h) refl
      where
        equal : (a h : ℕ) → a ≤ h → h ≤ a → a ≡ h
        equal a h low high = omega (arith, low, high)

        by_test : (t : Bool) → nat_lt a h ≡ t → a < h
        by_test true less = less_or a h less
        by_test false more = absurd (other (equal a h low (not_less a h more)))

-- where it was taken at the innermost level, the others are further out
pub others_below : (levels r : ℕ) (held : List Held) → HeldOnce held → LevelsDiffer held → AreAtMost levels held → is_held r held ≡ true → 0 < length (without r held) → (held_as r held).level ≡ levels
    → highest (without r held) < (held_as r held).level
others_below levels r held once apart each is some same = by_test (nat_lt (highest (without r held)) (held_as r held).level) refl
  where
    no : (a h l : ℕ) → a < h → h ≤ l → a ≡ l → ⊥
    no a h l less low same = omega (arith, less, low, same)

    by_test : (t : Bool) → nat_lt (highest (without r held)) (held_as r held).level ≡ t → highest (without r held) < (held_as r held).level
    by_test true less = less_or (highest (without r held)) (held_as r held).level less
    by_test false more = absurd (no (held_as r held).level (highest (without r held)) levels (is_outer r held once apart is some (not_less (highest (without r held)) (held_as r held).level more))
        (highest_low levels (without r held) (without_low levels r held each)) same)

-- what is left has each level but that one
pub has_left : (n r : ℕ) (held : List Held) → HeldOnce held → has_level n held ≡ true → ((held_as r held).level ≡ n → ⊥) → has_level n (without r held) ≡ true
has_left n r held once has other = elim (has_parts n r held once has) [ inl own ↦ absurd (other own.1) | inr more ↦ more ]
