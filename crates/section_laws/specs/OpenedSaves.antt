-- The saves of the levels that threads have open, along a run.
use Rattle.std.specs.Prelude.{◌≡◌, ◌≤◌, ℕ, Some, List, [], ◌∷◌, length}
use Rattle.op_core.specs.ThreadCode.{Code}
use Rattle.thread_automaton.specs.declared.Bounds.{Bounds}
use Rattle.thread_automaton.specs.ThreadState.{ThreadState, Mark}
use Rattle.core_runs.specs.Cores.{Core}
use Rattle.core_runs.specs.Acts.{Act}
use Rattle.section_laws.specs.Levels.{IsLevelledRun}

-- As the act of this number was made, thread t was at this local state, and had made this number of silent moves since its
-- last event that others can see.
pub record WasAt {S : Type 0} (c : ℕ → Core S) (t place : ℕ) (local : S) (silents : ℕ) : Type 0 where
  pub th : ThreadState S
  pub stands : (c place).threads t ≡ Some th
  pub was : th.local ≡ local
  pub moves : th.silents ≡ silents

-- Each save, with the mark beside it, says how the thread was as the level opened: the places are those of the acts that
-- opened the levels. In each list the innermost comes first.
abbrev pub AreAsOpened : {S : Type 0} → (ℕ → Core S) → ℕ → List S → List Mark → List ℕ → Type 0
AreAsOpened c t [] marks places = Unit {0}
AreAsOpened c t (l ∷ saved) (m ∷ marks) (p ∷ places) = WasAt c t p l m.silents × AreAsOpened c t saved marks places
AreAsOpened c t (l ∷ saved) marks places = ⊥

abbrev pub SavesAreAsOpened : {S : Type 0} → Code S → Type 0
SavesAreAsOpened {S} code = (b : Bounds) (first : S) (classes : ℕ) (c : ℕ → Core S) (acts : List Act) → IsLevelledRun code b first classes c acts
    → (k t : ℕ) (th : ThreadState S) → k ≤ length acts → (c k).threads t ≡ Some th → AreAsOpened c t th.saved th.marks ((c k).levels t)
