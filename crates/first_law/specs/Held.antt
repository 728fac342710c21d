-- What a thread holds, at each place of a run: by which levels, and what it has fixed to do with monitors.
use Rattle.std.specs.Prelude.{◌≡◌, ◌⊎◌, ◌<◌, ◌≤◌, ◌-◌, ◌^◌, ℕ, suc, Bool, true, false, List, [], ◌∷◌, map, filter, nat_eq, nat_lt}
use Rattle.std.specs.List.{list_any}
use Rattle.op_core.specs.declared.Op.{Op}
use Rattle.op_core.specs.declared.Op.TheVariants.{Enter, Exit, Wait, Rewake}
use Rattle.op_core.specs.declared.Next.{Next}
use Rattle.op_core.specs.declared.Next.TheVariants.{Want}
use Rattle.section_state.specs.SectionWord.{revoke_of}
use Rattle.step_port.specs.declared.step.Step.{Step}
use Rattle.step_port.specs.declared.step.Step.TheVariants.{DrawSection, OpenSection, OpenLevel, CloseLevel, Pin, Revoke, Commit, TakeMonitor, SetDepth, Release}
use Rattle.thread_automaton.specs.declared.Bounds.{Bounds}
use Rattle.thread_automaton.specs.declared.Held.{Held}
use Rattle.thread_automaton.specs.declared.Attempt.{Attempt}
use Rattle.thread_automaton.specs.declared.Attempt.TheVariants.{Fixed, Undoing}
use Rattle.thread_automaton.specs.ThreadState.{ThreadState, Mark, held_as, highest}
use Rattle.thread_automaton.specs.NextMove.{held_word}
use Rattle.thread_automaton.specs.Changes.{without}
use Rattle.automaton_rows.specs.Undoing.{is_held, HeldOnce}
use Rattle.section_laws.specs.Marks.{counting_marks}

-- ---- lists of held monitors

-- one of them was taken at level n
abbrev pub has_level : ℕ → List Held → Bool
has_level n held = list_any (λ h. nat_eq h.level n) held

-- no two were taken at the same level
abbrev pub LevelsDiffer : List Held → Type 0
LevelsDiffer [] = Unit {0}
LevelsDiffer (h ∷ held) = (has_level h.level held ≡ false) × LevelsDiffer held

-- each was entered at least once, and at most 65,535 times
abbrev pub DepthsFit : List Held → Type 0
DepthsFit [] = Unit {0}
DepthsFit (h ∷ held) = (0 < h.depth) × (h.depth < 2 ^ 16) × DepthsFit held

-- ---- levels

-- the innermost level that counts: while a section is undone to a level, those inside of that level don't any more
abbrev pub top_at : Attempt → ℕ → ℕ
top_at (Undoing w) levels = revoke_of w
top_at attempt levels = levels

-- Of the innermost level, where nothing is being undone: one of the monitors that are held was taken at it. It isn't taken
-- yet where an Enter has opened it, and then the wanted monitor isn't held; and it is the one that a wait gave up where
-- that is to be taken again.
abbrev pub AtRest : ℕ → ℕ → List Held → Next → Type 0
AtRest levels level held (Want (Enter r)) = has_level levels held ≡ false → is_held r held ≡ false
AtRest levels level held (Want (Rewake r)) = (has_level levels held ≡ true) ⊎ (level ≡ levels)
AtRest levels level held next = has_level levels held ≡ true

-- An exit is about to release its monitor. The innermost level is then that of one of the others, where there is one.
abbrev pub AtRelease : ℕ → List Held → Next → Type 0
AtRelease levels held (Want (Exit r)) = (without r held ≡ []) ⊎ (levels ≡ highest (without r held))
AtRelease levels held next = has_level levels held ≡ true

abbrev pub TopHolds : ℕ → ℕ → List Held → Next → Attempt → Type 0
TopHolds levels level held next (Undoing w) = Unit {0}
TopHolds levels level held next (Fixed (Release q)) = AtRelease levels held next
TopHolds levels level held next attempt = AtRest levels level held next

-- ---- steps on monitors that are fixed

-- the monitor of r is held, and was entered once
abbrev pub IsEnteredOnce : ℕ → List Held → Type 0
IsEnteredOnce r held = (is_held r held ≡ true) × ((held_as r held).depth ≡ 1)

-- the wanted monitor isn't held
abbrev pub OpensFor : List Held → Next → Type 0
OpensFor held (Want (Enter r)) = is_held r held ≡ false
OpensFor held next = Unit {0}

-- nor is one that was taken at the innermost level
abbrev pub TakesFor : ℕ → List Held → Next → Type 0
TakesFor levels held (Want (Enter r)) = (is_held r held ≡ false) × (has_level levels held ≡ false)
TakesFor levels held next = Unit {0}

-- the wanted monitor is held, and its word says that it was entered once more or once less
abbrev pub SetsFor : ℕ → List Held → Next → ℕ → Type 0
SetsFor section held (Want (Enter r)) new = (is_held r held ≡ true) × ((held_as r held).depth < 65535)
    × (new ≡ held_word section (record (held_as r held) { depth = suc (held_as r held).depth }))
SetsFor section held (Want (Exit r)) new = (is_held r held ≡ true)
    × ((d : ℕ) × (suc (suc d) ≡ (held_as r held).depth) × (new ≡ held_word section (record (held_as r held) { depth = suc d })))
SetsFor section held (Want (Rewake r)) new = ⊥
SetsFor section held next new = Unit {0}

-- the monitor is left that was taken at the innermost level
abbrev pub ClosesFor : ℕ → List Held → Next → Type 0
ClosesFor levels held (Want (Exit r)) = IsEnteredOnce r held × ((held_as r held).level ≡ levels)
ClosesFor levels held next = Unit {0}

abbrev pub CommitsFor : List Held → Next → Type 0
CommitsFor held (Want (Exit r)) = IsEnteredOnce r held
CommitsFor held next = Unit {0}

-- a monitor is left out of order; or one is held that is to be given up by a wait, or notified
abbrev pub PinsFor : List Held → Next → Type 0
PinsFor held (Want (Exit r)) = IsEnteredOnce r held × ((held_as r held).level < highest (without r held))
PinsFor held (Want (Wait r)) = is_held r held ≡ true
PinsFor held (Want (Op.Notify r)) = is_held r held ≡ true
PinsFor held next = Unit {0}

-- The monitor of an exit is released: its level is closed, or all levels were seen pinned, or no other is held.
abbrev pub ReleasesFor : ℕ → ℕ → List Held → Next → Type 0
ReleasesFor levels pinned held (Want (Exit r)) = IsEnteredOnce r held
    × ((levels < (held_as r held).level) ⊎ (levels ≤ pinned) ⊎ (without r held ≡ []))
ReleasesFor levels pinned held (Want (Wait r)) = is_held r held ≡ true
ReleasesFor levels pinned held next = Unit {0}

abbrev pub GoesFor : List Held → Next → Type 0
GoesFor held (Want (Wait r)) = is_held r held ≡ true
GoesFor held (Want (Op.Notify r)) = is_held r held ≡ true
GoesFor held next = Unit {0}

abbrev pub FixedHolds : ℕ → ℕ → ℕ → List Held → Next → Step → Type 0
FixedHolds section levels pinned held next DrawSection = Unit {0}
FixedHolds section levels pinned held next (OpenSection s w) = Unit {0}
FixedHolds section levels pinned held next (Revoke s w level) = Unit {0}
FixedHolds section levels pinned held next (OpenLevel s w) = OpensFor held next
FixedHolds section levels pinned held next (TakeMonitor q new) = TakesFor levels held next
FixedHolds section levels pinned held next (SetDepth q new) = SetsFor section held next new
FixedHolds section levels pinned held next (CloseLevel s w n) = ClosesFor levels held next
FixedHolds section levels pinned held next (Commit s w) = CommitsFor held next
FixedHolds section levels pinned held next (Pin s w level) = PinsFor held next
FixedHolds section levels pinned held next (Release q) = ReleasesFor levels pinned held next
FixedHolds section levels pinned held next step = GoesFor held next

abbrev pub StageHolds : ℕ → ℕ → ℕ → List Held → Next → Attempt → Type 0
StageHolds section levels pinned held next (Fixed step) = FixedHolds section levels pinned held next step
StageHolds section levels pinned held next attempt = Unit {0}

-- ---- waits

-- A monitor that a wait gave up isn't held, and none is that was taken at its level.
abbrev pub WaitsHold : ℕ → ℕ → List Held → Next → Type 0
WaitsHold level depth held (Want (Rewake r)) = (0 < depth) × (depth < 2 ^ 16) × (is_held r held ≡ false) × (has_level level held ≡ false)
WaitsHold level depth held next = depth ≡ 0

-- ---- marks

-- those that were taken further out than level n
abbrev pub further_out : ℕ → List Held → List Held
further_out n held = filter (λ h. nat_lt h.level n) held

-- the objects, each with its level
abbrev pub sites : List Held → List (ℕ × ℕ)
sites held = map (λ h. (h.object, h.level)) held

-- The mark of level n names, in their order, the monitors held that were taken further out.
abbrev pub MarkHolds : ℕ → Mark → List Held → Type 0
MarkHolds n mark held = (sites mark.held ≡ sites (further_out n held)) × DepthsFit mark.held

-- the first is that of level n, the next one that of the level outside of it, and so on
abbrev pub MarksHold : ℕ → List Mark → List Held → Type 0
MarksHold n [] held = Unit {0}
MarksHold n (m ∷ marks) held = MarkHolds n m held × MarksHold (n - 1) marks held

-- ---- sections

-- a section that is about to be opened has a number within the limit
abbrev pub OpensWithin : ℕ → Attempt → Type 0
OpensWithin limit (Fixed (OpenSection s w)) = s ≤ limit
OpensWithin limit attempt = Unit {0}

-- ---- all of it, of a thread that is to do this next

pub record Holds {S : Type 0} (b : Bounds) (next : Next) (th : ThreadState S) : Type 0 where
  -- no monitor is held twice, and no two were taken at the same level
  pub once : HeldOnce th.held
  pub apart : LevelsDiffer th.held
  pub depths : DepthsFit th.held
  -- each level that isn't the innermost, and is no further out than the depth to which the section was seen pinned, has a
  -- monitor
  pub levels : (n : ℕ) → 0 < n → th.pinned ≤ n → n < top_at th.attempt th.levels → has_level n th.held ≡ true
  -- and so has the innermost
  pub top : 0 < th.section → TopHolds th.levels th.level th.held next th.attempt
  pub fixed : StageHolds th.section th.levels th.pinned th.held next th.attempt
  pub waits : WaitsHold th.level th.depth th.held next
  pub marks : MarksHold (top_at th.attempt th.levels) (counting_marks th.attempt th.levels th.marks) th.held
  pub within : th.section ≤ b.limits.sections
  pub opens : OpensWithin b.limits.sections th.attempt
