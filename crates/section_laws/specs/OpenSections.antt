-- Which sections are live or revoked along a run, and what their words say.
use Rattle.std.specs.Prelude.{◌≡◌, ◌≢◌, ◌<◌, ◌≤◌, ◌⊎◌, ℕ, Some, List, length}
use Rattle.op_core.specs.ThreadCode.{Code}
use Rattle.heap_words.specs.declared.areas.Area.TheVariants.{Section}
use Rattle.section_state.specs.declared.State.TheVariants.{Live, Revoking}
use Rattle.section_state.specs.SectionWord.{number_of, state_of, pinned_of, depth_of, revoke_of}
use Rattle.thread_automaton.specs.declared.Bounds.{Bounds}
use Rattle.thread_automaton.specs.ThreadState.{ThreadState}
use Rattle.core_runs.specs.Cores.{Core}
use Rattle.core_runs.specs.Acts.{Act}
use Rattle.core_runs.specs.Revoked.{IsDoomed}
use Rattle.section_laws.specs.LevelRun.{In}
use Rattle.section_laws.specs.Runs.{IsRun}
use Rattle.section_laws.specs.OwnWords.{IsInBits}
use Rattle.section_laws.specs.Levels.{IsLevelledRun}

-- the section of this word is live, or revoked and not undone yet
abbrev pub IsLiveOrRevoking : ℕ → Type 0
IsLiveOrRevoking w = (state_of w ≡ number_of Live) ⊎ (state_of w ≡ number_of Revoking)

-- The thread of a section that is live or revoking.
pub record IsOpenBy {S : Type 0} (c : Core S) (s : ℕ) : Type 0 where
  pub thread : ℕ
  pub th : ThreadState S
  pub stands : c.threads thread ≡ Some th
  pub own : th.section ≡ s

-- each section that is live or revoking is open by a thread
abbrev pub OpenSectionsHaveThreads : {S : Type 0} → Code S → Type 0
OpenSectionsHaveThreads {S} code = (b : Bounds) (first : S) (classes : ℕ) (c : ℕ → Core S) (acts : List Act) → IsLevelledRun code b first classes c acts
    → (k s : ℕ) → k ≤ length acts → IsLiveOrRevoking ((c k).words (Section s)) → IsOpenBy (c k) s

-- The word of a section says a level to which it is revoked exactly while it is: one that is open and not pinned.
pub record SaysOfRevoking (w : ℕ) : Type 0 where
  pub revoked : state_of w ≡ number_of Revoking → (pinned_of w < revoke_of w) × (revoke_of w ≤ depth_of w)
  pub unrevoked : state_of w ≢ number_of Revoking → revoke_of w ≡ 0

abbrev pub WordsSayOfRevoking : {S : Type 0} → Code S → Type 0
WordsSayOfRevoking {S} code = (b : Bounds) (c : ℕ → Core S) (acts : List Act) → IsRun code b c acts → IsInBits c acts
    → (k s : ℕ) → k ≤ length acts → SaysOfRevoking ((c k).words (Section s))

-- what was opened at place p is open, and is revoked, then or later: until it is undone its section isn't committed
abbrev pub DoomedSectionsAreOpen : {S : Type 0} → Code S → Type 0
DoomedSectionsAreOpen {S} code = (b : Bounds) (first : S) (classes : ℕ) (c : ℕ → Core S) (acts : List Act) → IsLevelledRun code b first classes c acts
    → (p k t : ℕ) (th : ThreadState S) → k ≤ length acts → (c k).threads t ≡ Some th → IsDoomed c acts p → In p ((c k).levels t)
    → IsLiveOrRevoking ((c k).words (Section th.section))
