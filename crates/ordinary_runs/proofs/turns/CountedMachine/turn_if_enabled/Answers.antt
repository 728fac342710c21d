use Rattle.ordinary_runs.specs.Turns.{progress_of}
use Rattle.ordinary_runs.proofs.EnabledLemmas.{blocked_gives}
use Rattle.ordinary_runs.proofs.turns.CountedMachine.turn_if_enabled.Goals as goal

pub returns-in-Blocked-clause-gives : goal.returns-in-Blocked-clause-gives
returns-in-Blocked-clause-gives g c =
    let now = c.args.self.now in
    let progress = progress_of g.C.ThreadCode.state in
    blocked_gives g.C.ThreadCode.code now.limits (progress now) (progress c.next_turn.new.self) c.args.thread c.in_ok-end.end c.in_ok-end.ensures.makes c.in-Blocked.is
