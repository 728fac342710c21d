-- The levels that each thread has open along a run.
use Rattle.std.specs.Prelude.{◌≡◌, ◌<◌, ◌≤◌, ℕ, Option, None, Some, List, [], length, slice_get, nat_eq, nat_lt, if◌then◌else◌}
use Rattle.op_core.specs.ThreadCode.{Code}
use Rattle.heap_words.specs.declared.areas.Area.TheVariants.{Section}
use Rattle.section_state.specs.declared.State.TheVariants.{Revoking}
use Rattle.section_state.specs.SectionWord.{pinned_of, revoke_of, undone_of}
use Rattle.monitor_core.specs.Contention.{is_in}
use Rattle.step_port.specs.declared.answer.StepAnswer.TheVariants.{Done}
use Rattle.step_port.specs.declared.step.Step.TheVariants.{MarkUndone}
use Rattle.step_port.specs.Words.{Words}
use Rattle.thread_automaton.specs.declared.Attempt.TheVariants.{Undoing}
use Rattle.thread_automaton.specs.declared.Bounds.{Bounds}
use Rattle.thread_automaton.specs.ThreadState.{ThreadState}
use Rattle.core_runs.specs.Cores.{Core}
use Rattle.core_runs.specs.Acts.{Act, did}
use Rattle.core_runs.specs.Revoked.{RevokesAt, IsDoomed}
use Rattle.section_laws.specs.LevelRun.{LevelAct, is_revoked, is_undone, IsLevelRun, PinnedAt, IsLevel}
use Rattle.section_laws.specs.Numbers.{AreNumbered}
use Rattle.section_laws.specs.HeldLevels.{IsOrderlyRun}

-- The code goes in order, words and numbers are in range, threads have their own numbers as the run begins, and no level is
-- open.
pub record IsLevelledRun {S : Type 0} (code : Code S) (b : Bounds) (first : S) (classes : ℕ) (c : ℕ → Core S) (acts : List Act) : Type 0 where
  pub ordered : IsOrderlyRun code b first classes c acts
  pub numbered : AreNumbered (c 0)
  pub closed : (t : ℕ) → (c 0).levels t ≡ []

-- a thread has as many levels open as there are acts that opened them
abbrev pub LevelsAreCounted : {S : Type 0} → Code S → Type 0
LevelsAreCounted {S} code = (b : Bounds) (first : S) (classes : ℕ) (c : ℕ → Core S) (acts : List Act) → IsLevelledRun code b first classes c acts
    → (k t : ℕ) (th : ThreadState S) → k ≤ length acts → (c k).threads t ≡ Some th → length ((c k).levels t) ≡ th.levels

-- ---- what is seen of the section of a thread

-- the word of the section that it has open
abbrev pub word_in : {S : Type 0} → Option (ThreadState S) → Words → Option ℕ
word_in None w = None
word_in (Some th) w = if nat_eq th.section 0 then None else Some (w (Section th.section))

-- the level to which a section of this word is being undone
abbrev pub revoked_by : Option ℕ → Option ℕ
revoked_by None = None
revoked_by (Some w) = if is_in Revoking w then Some (revoke_of w) else None

-- how deep the section is pinned; and after its end, how deep its thread has seen it pinned
abbrev pub pinned_in : {S : Type 0} → Option (ThreadState S) → Words → ℕ
pinned_in None w = 0
pinned_in (Some th) w = if nat_eq th.section 0 then th.pinned else pinned_of (w (Section th.section))

-- the core where n acts were made, and after the last
abbrev pub core_at : {S : Type 0} → (ℕ → Core S) → List Act → ℕ → Core S
core_at c acts n = c (if nat_lt n (length acts) then n else length acts)

abbrev pub levels_in : {S : Type 0} → (ℕ → Core S) → List Act → ℕ → ℕ → List ℕ
levels_in c acts t n = (core_at c acts n).levels t

abbrev pub revoked_in : {S : Type 0} → (ℕ → Core S) → List Act → ℕ → ℕ → Option ℕ
revoked_in c acts t n = revoked_by (word_in ((core_at c acts n).threads t) (core_at c acts n).words)

abbrev pub depth_in : {S : Type 0} → (ℕ → Core S) → List Act → ℕ → ℕ → ℕ
depth_in c acts t n = pinned_in ((core_at c acts n).threads t) (core_at c acts n).words

-- With act number k thread t, which is undoing its section to level n, marks it as undone so far.
pub record UndoesAt {S : Type 0} (c : ℕ → Core S) (acts : List Act) (k t n : ℕ) : Type 0 where
  pub th : ThreadState S
  pub word : ℕ
  pub stands : (c k).threads t ≡ Some th
  pub undoing : th.attempt ≡ Undoing word
  pub level : n ≡ revoke_of word
  pub notes : slice_get acts k ≡ Some (did t (MarkUndone th.section (undone_of word)) Done)

-- The levels of thread t are a run of levels, and its section's pinned depth is as it has to be.
pub record RunsInLevels {S : Type 0} (c : ℕ → Core S) (acts : List Act) (t : ℕ) : Type 0 where
  pub act : ℕ → LevelAct
  pub is_run : IsLevelRun (levels_in c acts t) (revoked_in c acts t) act
  pub pinned : (n : ℕ) → PinnedAt (levels_in c acts t) (revoked_in c acts t) act (depth_in c acts t) n
  -- where it is revoked, that act revokes it
  pub revokes : (k n : ℕ) → act k ≡ is_revoked n → (th : ThreadState S) × ((c k).threads t ≡ Some th) × RevokesAt acts k th.section n
  -- and where it is undone, the thread marks it as undone, and nowhere else
  pub undoes : (k n : ℕ) → act k ≡ is_undone n → UndoesAt c acts k t n
  pub notes : (k s w : ℕ) → slice_get acts k ≡ Some (did t (MarkUndone s w) Done) → (n : ℕ) × (act k ≡ is_undone n)

abbrev pub ThreadsRunInLevels : {S : Type 0} → Code S → Type 0
ThreadsRunInLevels {S} code = (b : Bounds) (first : S) (classes : ℕ) (c : ℕ → Core S) (acts : List Act) → IsLevelledRun code b first classes c acts
    → (t : ℕ) → RunsInLevels c acts t

-- what was opened at place p is open as level d of a thread, and is revoked, then or later: the level isn't pinned
abbrev pub DoomedLevelsAreUnpinned : {S : Type 0} → Code S → Type 0
DoomedLevelsAreUnpinned {S} code = (b : Bounds) (first : S) (classes : ℕ) (c : ℕ → Core S) (acts : List Act) → IsLevelledRun code b first classes c acts
    → (p d k t : ℕ) (th : ThreadState S) → k ≤ length acts → (c k).threads t ≡ Some th → IsDoomed c acts p → IsLevel p d ((c k).levels t)
    → pinned_of ((c k).words (Section th.section)) < d
