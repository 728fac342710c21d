-- What the word of a thread's own section says, at each place of a run.
use Rattle.std.specs.Prelude.{◌≡◌, ◌<◌, ◌≤◌, ◌^◌, ◌⊎◌, ℕ, Some, List, length, slice_get}
use Rattle.op_core.specs.ThreadCode.{Code}
use Rattle.heap_words.specs.declared.areas.Area.TheVariants.{Section}
use Rattle.section_state.specs.declared.State.TheVariants.{Live, Revoking, Committed}
use Rattle.section_state.specs.SectionWord.{number_of, section_word, state_of, owner_of, priority_of, pinned_of, depth_of, revoke_of}
use Rattle.step_port.specs.declared.answer.StepAnswer.TheVariants.{Found}
use Rattle.step_port.specs.declared.step.Step.TheVariants.{LoadWord}
use Rattle.thread_automaton.specs.declared.Bounds.{Bounds}
use Rattle.thread_automaton.specs.declared.Attempt.{Attempt}
use Rattle.thread_automaton.specs.declared.Attempt.TheVariants.{Undoing}
use Rattle.thread_automaton.specs.ThreadState.{ThreadState}
use Rattle.core_runs.specs.Cores.{Core}
use Rattle.core_runs.specs.Acts.{Act, did}
use Rattle.section_laws.specs.Runs.{IsRun}

-- The number and the priority of each thread have 8 bits, and each word of an object that a thread loads has 64.
pub record IsInBits {S : Type 0} (c : ℕ → Core S) (acts : List Act) : Type 0 where
  pub threads : (k t : ℕ) (th : ThreadState S) → k ≤ length acts → (c k).threads t ≡ Some th → (th.number < 2 ^ 8) × (th.priority < 2 ^ 8)
  pub words : (k t at w : ℕ) → slice_get acts k ≡ Some (did t (LoadWord at) (Found w)) → w < 2 ^ 64

-- What the word w of a section says whose thread has this number and priority, this number of levels open, and has seen it
-- pinned so deep, at least. It is live, or revoked to a level that is open and not pinned, or committed.
pub record SaysOfOwn (number thread_priority levels seen w : ℕ) : Type 0 where
  pub owner : owner_of w ≡ number
  pub priority : priority_of w ≡ thread_priority
  pub depth : depth_of w ≡ levels
  pub pinned : seen ≤ pinned_of w
  pub state : (state_of w ≡ number_of Live) ⊎ (state_of w ≡ number_of Revoking) ⊎ (state_of w ≡ number_of Committed)
  pub revoking : state_of w ≡ number_of Revoking → (pinned_of w < revoke_of w) × (revoke_of w ≤ levels)
  pub whole : w ≡ section_word (state_of w) number thread_priority (pinned_of w) levels (revoke_of w)

-- the word w of its own section
abbrev pub OwnWord : {S : Type 0} → ThreadState S → ℕ → Type 0
OwnWord th w = SaysOfOwn th.number th.priority th.levels th.pinned w

-- while a section is undone its word stays as its thread saw it
abbrev pub SeesUndoing : Attempt → ℕ → Type 0
SeesUndoing (Undoing seen) w = w ≡ seen
SeesUndoing attempt w = Unit {0}

-- so it is with each section that a thread has open
abbrev pub OwnWordsAreKnown : {S : Type 0} → Code S → Type 0
OwnWordsAreKnown {S} code = (b : Bounds) (c : ℕ → Core S) (acts : List Act) → IsRun code b c acts → IsInBits c acts
    → (k t : ℕ) (th : ThreadState S) → k ≤ length acts → (c k).threads t ≡ Some th → 0 < th.section
    → OwnWord th ((c k).words (Section th.section)) × SeesUndoing th.attempt ((c k).words (Section th.section))
