-- What is proved of turns on shared words.
use Rattle.std.specs.Prelude.{◌≡◌, ℕ, Bool, List, [], length}
use Rattle.op_core.specs.ThreadCode.{Code}
use Rattle.schedules.specs.Schedule.{Rest}
use Rattle.schedules.specs.Run.{Run, Follows}
use Rattle.schedules.specs.Laws.{IsDeterminate}
use Rattle.thread_automaton.specs.declared.Bounds.{Bounds}
use Rattle.core_runs.specs.Cores.{Core}
use Rattle.core_runs.specs.Acts.{ActFrom}
use Rattle.word_runs.specs.WordTurns.{Progress, word_turns}

-- a turn comes to one thing, and only live threads are enabled: so a schedule has at most one run from each core
-- (`runs_have_one_end` of `schedules`)
abbrev pub WordTurnsAreDeterminate : {S : Type 0} → Code S → Type 0
WordTurnsAreDeterminate code = (b : Bounds) → IsDeterminate (word_turns code b)

-- a run that begins with this core
abbrev pub begun_with : {S : Type 0} → Core S → Rest → Bool → Run (Progress S)
begun_with core rest keeps = record { state = record { acts = []; core = core; shown = 0; keeps = keeps }; rest = rest }

-- the acts of a run lead from its first core to where it has come
pub record AreActs {S : Type 0} (code : Code S) (b : Bounds) (core : Core S) (r : Progress S) : Type 0 where
  pub cores : ℕ → Core S
  pub begins : cores 0 ≡ core
  pub leads : ActFrom code b cores 0 r.acts
  pub ends : cores (length r.acts) ≡ r.core

-- so it is wherever turns lead that follow a schedule
abbrev pub TurnsAreActs : {S : Type 0} → Code S → Type 0
TurnsAreActs {S} code = (b : Bounds) (core : Core S) (rest : Rest) (keeps : Bool) (threads : List ℕ) (last : Run (Progress S)) → Follows (word_turns code b) (begun_with core rest keeps) threads last
    → AreActs code b core last.state
