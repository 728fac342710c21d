-- The saves of levels along a run: where each thread stood as a level opened.
use Rattle.std.specs.Prelude.{◌≡◌, ◌<◌, ◌≤◌, ℕ, Some, List, [], ◌∷◌, length}
use Rattle.op_core.specs.ThreadCode.{Code}
use Rattle.op_core.specs.OrdinaryState.{live}
use Rattle.thread_automaton.specs.declared.Bounds.{Bounds}
use Rattle.thread_automaton.specs.ThreadState.{ThreadState}
use Rattle.core_runs.specs.Cores.{Core}
use Rattle.core_runs.specs.Acts.{Act}
use Rattle.core_runs.specs.Reading.{thread_in}
use Rattle.section_laws.specs.Levels.{IsLevelledRun}

-- where act number p was made, thread t stood at the local state l
abbrev pub StoodAt : {S : Type 0} → Code S → (ℕ → Core S) → ℕ → ℕ → S → Type 0
StoodAt code c t p l = thread_in code ((c p).starting t) ((c p).threads t) ≡ live l

-- Each of the saved states is where thread t stood as one of its levels opened, by an act before number k: the innermost
-- level has the first of them, the next one the second, and so on.
abbrev pub SavesStand : {S : Type 0} → Code S → (ℕ → Core S) → ℕ → ℕ → List S → List ℕ → Type 0
SavesStand code c t k [] levels = Unit {0}
SavesStand code c t k (l ∷ saved) [] = ⊥
SavesStand code c t k (l ∷ saved) (p ∷ levels) = (p < k) × StoodAt code c t p l × SavesStand code c t k saved levels

-- so it is with the saves of each thread
abbrev pub SavesAreKnown : {S : Type 0} → Code S → Type 0
SavesAreKnown {S} code = (b : Bounds) (first : S) (classes : ℕ) (c : ℕ → Core S) (acts : List Act) → IsLevelledRun code b first classes c acts
    → (k t : ℕ) (th : ThreadState S) → k ≤ length acts → (c k).threads t ≡ Some th → SavesStand code c t k th.saved ((c k).levels t)
