-- What a thread makes of the monitors that it has loaded, and how it takes and leaves them.
use Rattle.std.specs.Prelude.{ℕ, ◌+◌, ◌-◌, Bool, false, not, List, [], ◌∷◌, nat_eq, nat_lt, if◌then◌else◌}
use Rattle.op_core.specs.declared.Limit.TheVariants.{Depth}
use Rattle.op_core.specs.declared.Op.{Op}
use Rattle.op_core.specs.declared.Op.TheVariants.{Enter, Exit, Wait, Rewake}
use Rattle.op_core.specs.declared.Reply.TheVariants.{NotOwner}
use Rattle.op_core.specs.declared.Next.{Next}
use Rattle.op_core.specs.declared.Next.TheVariants.{Want}
use Rattle.std.specs.List.{list_any}
use Rattle.monitor_core.specs.Monitors.{monitor_word, monitor_section, monitor_depth, monitor_level, is_own}
use Rattle.step_port.specs.declared.step.Step.{Step}
use Rattle.step_port.specs.declared.step.Step.TheVariants.{DrawSection, OpenLevel, CloseLevel, Commit, TakeMonitor, SetDepth}
use Rattle.thread_automaton.specs.declared.Attempt.{Attempt}
use Rattle.thread_automaton.specs.declared.Attempt.TheVariants.{Fixed, Meets, Undoing, Full}
use Rattle.thread_automaton.specs.declared.Held.{Held}
use Rattle.thread_automaton.specs.ThreadState.{ThreadState, own_word, highest}
use Rattle.thread_automaton.specs.NextMove.{held_word}
use Rattle.thread_automaton.specs.Changes.{Change, goes, replies, deepens, drops, closes, waits, sets_back, gives_back, without}
use Rattle.thread_automaton.specs.Checks.{to_pin}

-- the monitor that is to be entered or left
abbrev pub monitor_wanted : Next → ℕ
monitor_wanted (Want (Enter r)) = r
monitor_wanted (Want (Exit r)) = r
monitor_wanted (Want (Wait r)) = r
monitor_wanted (Want (Rewake r)) = r
monitor_wanted next = 0

-- The wanted monitor, once it is taken while n levels are open: after a wait as often and at the level that it had before
-- the wait, and else once, at the innermost level.
abbrev pub entry : {S : Type 0} → ThreadState S → Next → ℕ → Held
entry th (Want (Rewake r)) n = record { object = r; level = th.level; depth = th.depth }
entry th next n = record { object = monitor_wanted next; level = n; depth = 1 }

-- the section s takes it
abbrev pub take_for : {S : Type 0} → ThreadState S → Next → ℕ → ℕ → Step
take_for th next s n = TakeMonitor (monitor_wanted next) (held_word s (entry th next n))

-- the own section holds the monitor of this word, which then has this depth
abbrev pub deepened : {S : Type 0} → ThreadState S → ℕ → ℕ → ℕ → Step
deepened th r m depth = SetDepth r (monitor_word th.section depth (monitor_level m))

-- no monitor that is held has the innermost level: another thread took the one for which it was opened
abbrev pub is_untaken : {S : Type 0} → ThreadState S → Bool
is_untaken th = not (list_any (λ h. nat_eq h.level th.levels) th.held)

-- after a wait the monitor is taken at the level that it had
abbrev pub needs_level : {S : Type 0} → ThreadState S → Next → Bool
needs_level th (Want (Rewake r)) = false
needs_level th next = not (is_untaken th)

-- A free monitor is taken with a level of its own: the first one of a section that is opened first, or the next one of
-- the section that is open.
abbrev pub entering_free : {S : Type 0} → ThreadState S → Next → Change
entering_free th next =
    if nat_eq th.section 0 then goes (Fixed DrawSection)
    else if needs_level th next then
    (if nat_eq th.levels 255 then goes (Full Depth) else goes (Fixed (OpenLevel th.section (own_word th))))
    else goes (Fixed (take_for th next th.section th.levels))

-- the own one is entered once more
abbrev pub entering_own : {S : Type 0} → ThreadState S → ℕ → ℕ → Change
entering_own th r m = if nat_eq (monitor_depth m) 65535 then goes (Full Depth) else goes (Fixed (deepened th r m (monitor_depth m + 1)))

-- The monitor of r has the word m, and is to be entered. Of one that another section holds, that section is looked at.
abbrev pub entering : {S : Type 0} → ThreadState S → Next → ℕ → ℕ → Change
entering th next r m =
    if nat_eq m 0 then entering_free th next
    else if is_own m th.section then entering_own th r m
    else goes (Meets (monitor_section m) (monitor_level m))

-- The monitor of r, of this level, is to be left altogether, and these are held beside it. With the last one the section
-- ends: it is committed first. One whose level is inside of all others' closes that level first. Any other is left out
-- of order: the section is pinned first.
abbrev pub leaving : {S : Type 0} → ThreadState S → ℕ → ℕ → List Held → Change
leaving th r level [] = goes (Fixed (Commit th.section (own_word th)))
leaving th r level (h ∷ others) =
    if nat_lt (highest (h ∷ others)) level then goes (Fixed (CloseLevel th.section (own_word th) (highest (h ∷ others))))
    else goes (to_pin th (Want (Exit r)))

-- the own section holds the monitor of r, and it is to be left once
abbrev pub exiting : {S : Type 0} → ThreadState S → ℕ → ℕ → Change
exiting th r m =
    if nat_lt 1 (monitor_depth m) then goes (Fixed (deepened th r m (monitor_depth m - 1)))
    else leaving th r (monitor_level m) (without r th.held)

abbrev pub monitor_loaded : {S : Type 0} → ThreadState S → Next → ℕ → ℕ → Change
monitor_loaded th (Want (Exit q)) r m = if is_own m th.section then exiting th r m else replies NotOwner
monitor_loaded th (Want (Wait q)) r m = if is_own m th.section then goes (to_pin th (Want (Wait q))) else replies NotOwner
monitor_loaded th (Want (Op.Notify q)) r m = if is_own m th.section then goes (to_pin th (Want (Op.Notify q))) else replies NotOwner
monitor_loaded th next r m = entering th next r m

-- a monitor was left, and these are held still: with none the section has ended
abbrev pub left_with : List Held → Change
left_with [] = closes
left_with (h ∷ held) = drops (h ∷ held)

-- The monitor of r was released: by undoing, by a wait, after which the section stays open, or by an exit.
abbrev pub let_go : {S : Type 0} → ThreadState S → Next → Attempt → ℕ → Change
let_go th next (Undoing w) r = gives_back r
let_go th (Want (Wait q)) attempt r = waits r
let_go th next attempt r = left_with (without r th.held)

-- the monitor of r, which was held already, has this depth now: by undoing, or since it was entered or left once
abbrev pub depth_set : Attempt → ℕ → ℕ → Change
depth_set (Undoing w) r depth = sets_back r depth
depth_set attempt r depth = deepens r depth
