-- What a thread holds, apart from its marks, and the parts of it that each change keeps.
use Rattle.std.proofs.Common.{◌≡◌, inl, inr, ℕ, ◌^◌, ◌<◌, ◌≤◌, true, false, true≢false, List, nat_eq, refl, sym, ◌∙◌, ap, arith}
use Rattle.std.proofs.lemmas.Grind.{common_steps}
use Rattle.std.proofs.lemmas.Bool.Decides.{nat_tests}
use Rattle.op_core.specs.declared.Op.{Op}
use Rattle.op_core.specs.declared.Op.TheVariants.{Enter, Exit, Wait, Rewake, Start, Init}
use Rattle.op_core.specs.declared.Next.{Next}
use Rattle.op_core.specs.declared.Next.TheVariants.{Want}
use Rattle.op_core.specs.Orderly.{IsRewake}
use Rattle.monitor_core.specs.Monitors.{monitor_section, monitor_depth, monitor_level, is_own}
use Rattle.step_port.specs.declared.step.Step.TheVariants.{Release}
use Rattle.thread_automaton.specs.declared.Bounds.{Bounds}
use Rattle.thread_automaton.specs.declared.Held.{Held}
use Rattle.thread_automaton.specs.declared.Attempt.{Attempt}
use Rattle.thread_automaton.specs.declared.Attempt.TheVariants.{Fixed, Undoing}
use Rattle.thread_automaton.specs.ThreadState.{ThreadState, held_as, highest}
use Rattle.thread_automaton.specs.NextMove.{held_word}
use Rattle.thread_automaton.specs.Changes.{without}
use Rattle.thread_automaton.specs.Checks.{behind_pin}
use Rattle.automaton_rows.specs.Fits.{InLevels}
use Rattle.automaton_rows.specs.Rows.{IsAccess, NeedsOwner}
use Rattle.automaton_rows.specs.Undoing.{is_held, HeldOnce}
use Rattle.automaton_rows.proofs.UndoLemmas.{depth_is}
use Rattle.section_laws.specs.HeldLevels.{AreAtMost}
use Rattle.section_laws.proofs.held_levels.HeldLemmas.{highest_low, without_low}
use Rattle.section_laws.proofs.level_marks.RowLemmas.{IsUndoing}
use Rattle.first_law.specs.Held.{has_level, LevelsDiffer, DepthsFit, top_at, AtRest, TopHolds, PinsFor, StageHolds, WaitsHold, OpensWithin, Holds}
use Rattle.first_law.proofs.run_monitors.ListLemmas.{true_or, false_or, has_parts, has_below_highest, depth_fits, level_fits}
use Rattle.first_law.proofs.run_monitors.MarkLemmas.{section_is, level_is, word_some}

-- ---- the parts of it that are of monitors alone

pub record Kept (limit : ℕ) (next : Next) (section levels pinned level depth : ℕ) (held : List Held) (g : Attempt) : Type 0 where
  pub once : HeldOnce held
  pub apart : LevelsDiffer held
  pub depths : DepthsFit held
  pub levels_have : (n : ℕ) → 0 < n → pinned ≤ n → n < top_at g levels → has_level n held ≡ true
  pub top : 0 < section → TopHolds levels level held next g
  pub fixed : StageHolds section levels pinned held next g
  pub waits : WaitsHold level depth held next
  pub within : section ≤ limit
  pub opens : OpensWithin limit g

abbrev pub KeptOf : {S : Type 0} → Bounds → Next → ThreadState S → Type 0
KeptOf b next th = Kept b.limits.sections next th.section th.levels th.pinned th.level th.depth th.held th.attempt

pub kept_of : {S : Type 0} (b : Bounds) (next : Next) (th : ThreadState S) → Holds b next th → KeptOf b next th
kept_of b next th h =
    record { once = h.once; apart = h.apart; depths = h.depths; levels_have = h.levels; top = h.top; fixed = h.fixed; waits = h.waits; within = h.within; opens = h.opens }

-- ---- the innermost level

pub top_all : (g : Attempt) (levels : ℕ) → (IsUndoing g → ⊥) → top_at g levels ≡ levels
top_all (Undoing w) levels calm = absurd (calm tt)
top_all g levels calm = refl

-- neither undoing, nor about to release a monitor
abbrev pub IsCalm : Attempt → Type 0
IsCalm (Undoing w) = ⊥
IsCalm (Fixed (Release q)) = ⊥
IsCalm g = Unit {0}

pub calm_top : (g : Attempt) (levels : ℕ) → IsCalm g → top_at g levels ≡ levels
calm_top (Undoing w) levels calm = absurd calm
calm_top g levels calm = refl

pub calm_holds : (levels level : ℕ) (held : List Held) (next : Next) (g : Attempt) → IsCalm g → AtRest levels level held next → TopHolds levels level held next g
calm_holds levels level held next (Undoing w) calm rest = absurd calm
calm_holds levels level held next (Fixed (Release q)) calm rest = absurd calm
calm_holds levels level held next g calm rest = rest

-- neither an Enter nor the second half of a wait
abbrev pub IsUsual : Next → Type 0
IsUsual (Want (Enter r)) = ⊥
IsUsual (Want (Rewake r)) = ⊥
IsUsual next = Unit {0}

pub usual_rest : (levels level : ℕ) (held : List Held) (next : Next) → IsUsual next → AtRest levels level held next → has_level levels held ≡ true
usual_rest levels level held (Want (Enter r)) usual rest = absurd usual
usual_rest levels level held (Want (Rewake r)) usual rest = absurd usual
usual_rest levels level held next usual rest = rest

-- whatever is to be done next, where a monitor was taken at it
pub rest_any : (levels level : ℕ) (held : List Held) (next : Next) → has_level levels held ≡ true → AtRest levels level held next
rest_any levels level held (Want (Enter r)) has = λ none. absurd (true≢false (sym has ∙ none))
rest_any levels level held (Want (Rewake r)) has = inl has
rest_any levels level held next has = has

pub waits_usual : (level depth : ℕ) (held : List Held) (next : Next) → (IsRewake next → ⊥) → depth ≡ 0 → WaitsHold level depth held next
waits_usual level depth held (Want (Rewake r)) usual none = absurd (usual tt)
waits_usual level depth held next usual none = none

pub no_wait : (level depth : ℕ) (held : List Held) (next : Next) → (IsRewake next → ⊥) → WaitsHold level depth held next → depth ≡ 0
no_wait level depth held (Want (Rewake r)) usual waits = absurd (usual tt)
no_wait level depth held next usual waits = waits

pub needs_usual : (next : Next) (r : ℕ) → NeedsOwner next r → IsUsual next
needs_usual (Want (Exit q)) r needs = tt
needs_usual (Want (Wait q)) r needs = tt
needs_usual (Want (Op.Notify q)) r needs = tt
needs_usual next r needs = absurd needs

pub access_pins : (held : List Held) (next : Next) → IsAccess next → PinsFor held next
access_pins held (Want (Op.Read r i)) accesses = tt
access_pins held (Want (Op.Write r i v)) accesses = tt
access_pins held next accesses = absurd accesses

-- ---- the word of a monitor that was loaded

-- what it says to a thread that has this section open
pub record LoadSays (section : ℕ) (held : List Held) (r m : ℕ) : Type 0 where
  pub own : is_held r held ≡ true → m ≡ held_word section (held_as r held)
  pub other : is_held r held ≡ false → is_own m section ≡ false

-- of a monitor that is held it says how often it was entered, and its level
pub record SaysHeld (held : List Held) (r m : ℕ) : Type 0 where
  pub has : is_held r held ≡ true
  pub depth : monitor_depth m ≡ (held_as r held).depth
  pub level : monitor_level m ≡ (held_as r held).level
  pub some : 0 < (held_as r held).depth
  pub low : (held_as r held).depth < 2 ^ 16

module _ (section : ℕ) (held : List Held) (r m : ℕ) (small : section < 2 ^ 32) (depths : DepthsFit held) (each : InLevels held) (says : LoadSays section held r m) where
  pub says_held : is_own m section ≡ true → SaysHeld held r m
  says_held own =
      let is = true_or (is_held r held) (λ none. true≢false (sym own ∙ says.other none)) in
      let fit = depth_fits r held depths is in
      let level = level_fits r held each in record {
        has = is;
        depth = ap monitor_depth (says.own is) ∙ depth_is section (held_as r held).depth (held_as r held).level small fit.1 level.1;
        level = ap monitor_level (says.own is) ∙ level_is section (held_as r held).depth (held_as r held).level small fit.1 level.1;
        some = fit.0;
        low = fit.1;
      }

  -- a free one isn't held
  pub free_other : 0 < section → nat_eq m 0 ≡ true → is_held r held ≡ false
  free_other some none = false_or (is_held r held) (λ is. word_some section (held_as r held).depth (held_as r held).level some (sym (says.own is) ∙ zero_is m none))
    where
      zero_is : (m : ℕ) → nat_eq m 0 ≡ true → m ≡ 0
      zero_is m none = grind (arith, common_steps, nat_tests)

  pub held_own : 0 < section → is_held r held ≡ true → is_own m section ≡ true
  held_own some is =
      let fit = depth_fits r held depths is in
      let level = level_fits r held each in
      is_own_of m section some (ap monitor_section (says.own is) ∙ section_is section (held_as r held).depth (held_as r held).level small fit.1 level.1)
    where
      is_own_of : (m s : ℕ) → 0 < s → monitor_section m ≡ s → is_own m s ≡ true
      is_own_of m s some same = grind (arith, common_steps, nat_tests)

-- ---- a monitor that is left out of order

-- the innermost level is that of another one
pub outer_top : (levels r : ℕ) (held : List Held) → HeldOnce held → AreAtMost levels held → has_level levels held ≡ true → (held_as r held).level < highest (without r held) → levels ≡ highest (without r held)
outer_top levels r held once each has outer = elim (has_parts levels r held once has) [
  | inl own ↦ absurd (no (held_as r held).level levels (highest (without r held)) own.1 outer (highest_low levels (without r held) (without_low levels r held each)))
  | inr more ↦ same levels (highest (without r held)) (has_below_highest levels (without r held) more) (highest_low levels (without r held) (without_low levels r held each))
]
  where
    no : (a l h : ℕ) → a ≡ l → a < h → h ≤ l → ⊥
    no a l h is less low = omega (arith, is, less, low)

    same : (l h : ℕ) → l ≤ h → h ≤ l → l ≡ h
    same l h low high = omega (arith, low, high)

module _ {S : Type 0} (th : ThreadState S) where
  pub behind_top : (next : Next) (levels : ℕ) → top_at (behind_pin th next) levels ≡ levels
  behind_top (Want (Exit r)) levels = refl
  behind_top (Want (Wait r)) levels = refl
  behind_top (Want (Op.Notify r)) levels = refl
  behind_top (Want (Start r p)) levels = refl
  behind_top (Want (Init c)) levels = refl
  behind_top next levels = refl

  pub behind_calm : (next : Next) → IsUndoing (behind_pin th next) → ⊥
  behind_calm (Want (Exit r)) undoing = undoing
  behind_calm (Want (Wait r)) undoing = undoing
  behind_calm (Want (Op.Notify r)) undoing = undoing
  behind_calm (Want (Start r p)) undoing = undoing
  behind_calm (Want (Init c)) undoing = undoing
  behind_calm next undoing = undoing

  -- where the attempt goes on once all levels were seen pinned
  pub behind_holds : (section levels pinned level : ℕ) (held : List Held) (next : Next) → levels ≤ pinned → HeldOnce held → AreAtMost levels held → PinsFor held next → AtRest levels level held next
      → TopHolds levels level held next (behind_pin th next)
  behind_holds section levels pinned level held (Want (Exit r)) whole once each pins rest = inr (outer_top levels r held once each rest pins.1)
  behind_holds section levels pinned level held (Want (Wait r)) whole once each pins rest = rest
  behind_holds section levels pinned level held (Want (Op.Notify r)) whole once each pins rest = rest
  behind_holds section levels pinned level held (Want (Start r p)) whole once each pins rest = rest
  behind_holds section levels pinned level held (Want (Init c)) whole once each pins rest = rest
  behind_holds section levels pinned level held next whole once each pins rest = rest

  pub behind_fixed : (section levels pinned : ℕ) (held : List Held) (next : Next) → levels ≤ pinned → PinsFor held next → StageHolds section levels pinned held next (behind_pin th next)
  behind_fixed section levels pinned held (Want (Exit r)) whole pins = (pins.0, inr (inl whole))
  behind_fixed section levels pinned held (Want (Wait r)) whole pins = pins
  behind_fixed section levels pinned held (Want (Op.Notify r)) whole pins = pins
  behind_fixed section levels pinned held (Want (Start r p)) whole pins = tt
  behind_fixed section levels pinned held (Want (Init c)) whole pins = tt
  behind_fixed section levels pinned held next whole pins = tt

  pub behind_opens : (limit : ℕ) (next : Next) → OpensWithin limit (behind_pin th next)
  behind_opens limit (Want (Exit r)) = tt
  behind_opens limit (Want (Wait r)) = tt
  behind_opens limit (Want (Op.Notify r)) = tt
  behind_opens limit (Want (Start r p)) = tt
  behind_opens limit (Want (Init c)) = tt
  behind_opens limit next = tt
