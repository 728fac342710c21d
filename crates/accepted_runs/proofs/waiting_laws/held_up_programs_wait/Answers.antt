use Rattle.accepted_runs.proofs.HeldUpLemmas.{idle_runs_end_waiting, held_up_turns_end_waiting}
use Rattle.accepted_runs.proofs.waiting_laws.held_up_programs_wait.Goals as goal

pub returns-clause-runs : goal.returns-clause-runs
returns-clause-runs c files name is =
    idle_runs_end_waiting c.args.program.now.units c.args.program.now.main (c.accepted_programs_go_in_order.ensures.runs files name is)

pub returns-clause-turns : goal.returns-clause-turns
returns-clause-turns c files name is =
    held_up_turns_end_waiting c.args.program.now.units c.args.program.now.main (c.accepted_programs_go_in_order.ensures.runs files name is) (c.accepted_runs_are_erased.ensures.turns files name is)
