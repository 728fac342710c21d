-- What comes of threads that host threads give turns at once.
use Rattle.op_core.specs.declared.How.{How}
use Rattle.op_core.specs.declared.How.TheVariants as how
use Rattle.op_core.specs.ThreadCode.{Code}
use Rattle.schedules.specs.declared.order.TurnEnd.TheVariants.{Spent}
use Rattle.schedules.specs.Run.{EndsOfItself}
use Rattle.thread_automaton.specs.declared.Bounds.{Bounds}
use Rattle.core_runs.specs.Cores.{Core}
use Rattle.word_runs.specs.WordTurns.{Progress, word_turns}
use Rattle.word_runs.specs.Laws.{AreActs}
use Rattle.sched_core.specs.declared.word_outcome.WordOutcome.{WordOutcome}
use Rattle.sched_core.specs.Outcome.{TellsPlace}
use Rattle.sched_core.specs.Going.{unscheduled}

-- A run may end so at this place: all its threads have ended, normally or one by an exception; or some thread hasn't ended and none is
-- enabled; or the next turn of a thread meets the limit.
abbrev pub EndsThere : {S : Type 0} → Code S → Bounds → Progress S → How → Type 0
EndsThere code b place (how.Limit t limit) = (word_turns code b).gives place t (Spent limit) place
EndsThere code b place end = EndsOfItself (word_turns code b) (unscheduled place) end

-- Acts of the threads, in some order, lead from the core to a place, of which the outcome tells, and there the run ends as it says.
pub record IsHostedOutcome {S : Type 0} (code : Code S) (b : Bounds) (core : Core S) (outcome : WordOutcome) : Type 0 where
  pub last : Progress S
  pub acts : AreActs code b core last
  pub ends : EndsThere code b last outcome.how
  pub told : TellsPlace code last outcome
