use Rattle.std.proofs.Common.{◌≡◌, ℕ, List}
use Rattle.schedules.specs.Run.{Follows}
use Rattle.ordinary_machine.specs.Machine.{machine_of}
use Rattle.ordinary_runs.specs.Turns.{machine_turns}
use Rattle.ordinary_runs.specs.ScheduledRun.{keeping_for, begun_with, run_of}
use Rattle.ordinary_runs.proofs.TurnLemmas.{turns_left}
use Rattle.ordinary_runs.proofs.run.run_picks.Given as goal

abbrev pub invariant-loop-run : goal.invariant-loop-run
invariant-loop-run g l = record {
  limits : l.run.turns.limits ≡ l.limits;
  follows : (ts : List ℕ) × Follows (machine_turns g.C.ThreadCode.code l.limits) (begun_with (machine_of g.C.ThreadCode.state l.fn.machine) l.schedule (keeping_for l.events)) ts (run_of g.C.ThreadCode.state l.run);
}

abbrev pub decreases-loop-run : goal.decreases-loop-run
decreases-loop-run g l = turns_left l.limits (run_of g.C.ThreadCode.state l.run)
