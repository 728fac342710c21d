-- Where runs begin, and which sections threads have open in them.
use Rattle.std.specs.Prelude.{◌≡◌, ◌≢◌, ◌<◌, ◌≤◌, ℕ, suc, true, Some, ◌⊎◌, List, ◌∷◌, length, slice_get}
use Rattle.op_core.specs.ThreadCode.{Code}
use Rattle.heap_words.specs.declared.areas.Area.TheVariants.{Section}
use Rattle.section_state.specs.declared.State.TheVariants.{Live}
use Rattle.section_state.specs.SectionWord.{pinned_of, depth_of, with_pinned, revoked_of}
use Rattle.monitor_core.specs.Contention.{is_in}
use Rattle.step_port.specs.declared.answer.StepAnswer.{StepAnswer}
use Rattle.step_port.specs.declared.answer.StepAnswer.TheVariants.{Done}
use Rattle.step_port.specs.declared.step.Step.{Step}
use Rattle.step_port.specs.declared.step.Step.TheVariants.{OpenSection}
use Rattle.step_port.specs.Words.{Words}
use Rattle.thread_automaton.specs.declared.Bounds.{Bounds}
use Rattle.thread_automaton.specs.ThreadState.{ThreadState, first_state}
use Rattle.core_runs.specs.WordRuns.{RunEntry}
use Rattle.core_runs.specs.declared.Birth.{Birth}
use Rattle.core_runs.specs.OwnParts.{IsCoreRun}
use Rattle.core_runs.specs.Cores.{Core}
use Rattle.core_runs.specs.Acts.{Act, did, ActFrom}

-- ---- beginnings

-- the thread is about to begin
abbrev pub BeginsAt : {S : Type 0} → ThreadState S → Type 0
BeginsAt {S} th = (number priority : ℕ) × (l : S) × (th ≡ first_state number priority l)

-- no section was opened yet
abbrev pub HasNoSections : Words → Type 0
HasNoSections w = (s : ℕ) → w (Section s) ≡ 0

-- no section was opened yet, and each thread that is there is about to begin
pub record IsBeginning {S : Type 0} (c : Core S) : Type 0 where
  pub sections : HasNoSections c.words
  pub threads : (t : ℕ) (th : ThreadState S) → c.threads t ≡ Some th → BeginsAt th

-- the acts are a run from its beginning on, and c k is the core when k of them were made
pub record IsRun {S : Type 0} (code : Code S) (b : Bounds) (c : ℕ → Core S) (acts : List Act) : Type 0 where
  pub begins : IsBeginning (c 0)
  pub leads : ActFrom code b c 0 acts

-- The same of a run as one list of entries, newest first: w are the words as it begins, and `first` is how a thread
-- then is.
pub record IsRunFrom {S : Type 0} (code : Code S) (b : Bounds) (first : Birth → ThreadState S) (main : Birth)
    (w : Words) (run : List RunEntry) : Type 0 where
  pub sections : HasNoSections w
  pub threads : (birth : Birth) → BeginsAt (first birth)
  pub is_run : IsCoreRun code b first main w run

-- ---- sections

-- no number is opened twice
abbrev pub SectionsOpenOnce : {S : Type 0} → Code S → Type 0
SectionsOpenOnce {S} code = (b : Bounds) (c : ℕ → Core S) (acts : List Act) → IsRun code b c acts
    → (j k t u s v w : ℕ) → slice_get acts j ≡ Some (did t (OpenSection s v) Done)
    → slice_get acts k ≡ Some (did u (OpenSection s w) Done) → j ≡ k

-- 0 is the number of no section: its word stays 0
abbrev pub ZeroIsNoSection : {S : Type 0} → Code S → Type 0
ZeroIsNoSection {S} code = (b : Bounds) (c : ℕ → Core S) (acts : List Act) → IsRun code b c acts
    → (k : ℕ) → k ≤ length acts → (c k).words (Section 0) ≡ 0

-- no two threads have the same section open
abbrev pub SectionsAreApart : {S : Type 0} → Code S → Type 0
SectionsAreApart {S} code = (b : Bounds) (c : ℕ → Core S) (acts : List Act) → IsRun code b c acts
    → (k t u : ℕ) (th uh : ThreadState S) → k ≤ length acts → (c k).threads t ≡ Some th → (c k).threads u ≡ Some uh
    → 0 < th.section → th.section ≡ uh.section → t ≡ u

-- a live section is pinned deeper, or is revoked to a level that is open and not pinned
pub record IsPinnedOrRevoked (old new : ℕ) : Type 0 where
  pub live : is_in Live old ≡ true
  pub leads : ((n : ℕ) × (pinned_of old < n) × (new ≡ with_pinned old n))
      ⊎ ((n : ℕ) × (pinned_of old < n) × (n ≤ depth_of old) × (new ≡ revoked_of old n))

-- A thread leaves the word of a section that was opened and isn't its own as it is, or pins the section deeper or revokes
-- it, both while it is live.
abbrev pub OthersSectionsStay : {S : Type 0} → Code S → Type 0
OthersSectionsStay {S} code = (b : Bounds) (c : ℕ → Core S) (acts : List Act) → IsRun code b c acts
    → (k t s : ℕ) (step : Step) (answer : StepAnswer) (th : ThreadState S)
    → slice_get acts k ≡ Some (did t step answer) → (c k).threads t ≡ Some th
    → s ≢ th.section → (c k).words (Section s) ≢ 0
    → ((c (suc k)).words (Section s) ≡ (c k).words (Section s))
    ⊎ IsPinnedOrRevoked ((c k).words (Section s)) ((c (suc k)).words (Section s))

-- what a run has begun with is a run
abbrev pub RunsBeginWithRuns : {S : Type 0} → Code S → Type 0
RunsBeginWithRuns {S} code = (b : Bounds) (first : Birth → ThreadState S) (main : Birth) (w : Words)
    (e : RunEntry) (run : List RunEntry) → IsRunFrom code b first main w (e ∷ run) → IsRunFrom code b first main w run
