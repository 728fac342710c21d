-- Which acts are left out, where a test says which levels are to be undone.
use Rattle.std.specs.Prelude.{ℕ, Bool, List, nat_lt, slice_get}
use Rattle.core_runs.specs.Cores.{Core}
use Rattle.core_runs.specs.Acts.{Act, mover}
use Rattle.core_runs.specs.Revoked.{IsCutOf}
use Rattle.section_laws.specs.Settled.{to_undo}
use Rattle.first_law.specs.SettledRuns.{IsDoomedTest}

-- act number k was made by a thread with a level open that is to be undone
abbrev pub is_cut_by : {S : Type 0} → (ℕ → Bool) → (ℕ → Core S) → List Act → ℕ → Bool
is_cut_by doomed c acts k = nat_lt 0 (to_undo doomed ((c k).levels (mover (slice_get acts k))))

-- these acts are the cut
abbrev pub TestedActsAreCut : Type 0 → Type 0
TestedActsAreCut S = (c : ℕ → Core S) (acts : List Act) (doomed : ℕ → Bool) → IsDoomedTest c acts doomed → IsCutOf c acts (is_cut_by doomed c acts)
