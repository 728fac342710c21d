use Rattle.std.proofs.Common.{subst}
use Rattle.op_core.specs.declared.Limits.{Limits}
use Rattle.ordinary_runs.specs.Turns.{progress_of, machine_turns}
use Rattle.ordinary_runs.proofs.RunLemmas.{ordered_silent, ordered_live, ordered_spent, ordered_turn}
use Rattle.ordinary_runs.proofs.run.ScheduledRun.give_ordered.Goals as goal

pub returns-then-made-gt0-clause-goes : goal.returns-then-made-gt0-clause-goes
returns-then-made-gt0-clause-goes g c =
    let state = g.C.ThreadCode.state in
    let now = c.args.self.now in
    ordered_silent g.C.ThreadCode.code now.turns.limits (progress_of state now.turns) (progress_of state c.run_silent-made.new.self) now.rest c.end_turns.new.rest
    c.args.thread c.run_silent-made.result c.most_turns.result c.first.result c.requires.untraced c.requires.due c.requires.thread c.ranges.thread.fits c.first.ensures c.most_turns.ensures
    c.run_silent-made.ensures.most c.if-made-gt0.true c.run_silent-made.ensures.silent c.end_turns.ensures

pub turn-requires : goal.turn-requires
turn-requires g c =
    let state = g.C.ThreadCode.state in
    let now = c.args.self.now in
    ordered_live g.C.ThreadCode.code now.turns.limits (progress_of state now.turns) (progress_of state c.run_silent-made.new.self) now.rest
    c.args.thread c.run_silent-made.result c.requires.due c.requires.thread c.if-made-gt0.false c.run_silent-made.ensures.silent

pub returns-in-Spent-clause-goes : goal.returns-in-Spent-clause-goes
returns-in-Spent-clause-goes g c =
    let state = g.C.ThreadCode.state in
    let now = c.args.self.now in
    let middle = progress_of state c.run_silent-made.new.self in
    let new = progress_of state c.turn.new.self in
    let given = subst (λ (limits : Limits). (machine_turns g.C.ThreadCode.code limits).gives middle c.args.thread c.in_ok-end.end new) c.run_silent-made.ensures.limits c.in_ok-end.ensures.gives in
    ordered_spent g.C.ThreadCode.code now.turns.limits (progress_of state now.turns) middle new now.rest now.rest
    c.args.thread c.run_silent-made.result c.in-Spent.limit c.in_ok-end.end c.requires.untraced c.requires.due c.requires.thread c.if-made-gt0.false c.run_silent-made.ensures.silent given c.in-Spent.is

pub returns-in_default-clause-goes : goal.returns-in_default-clause-goes
returns-in_default-clause-goes g c =
    let state = g.C.ThreadCode.state in
    let now = c.args.self.now in
    let middle = progress_of state c.run_silent-made.new.self in
    let new = progress_of state c.turn.new.self in
    let given = subst (λ (limits : Limits). (machine_turns g.C.ThreadCode.code limits).gives middle c.args.thread c.in_ok-end.end new) c.run_silent-made.ensures.limits c.in_ok-end.ensures.gives in
    ordered_turn g.C.ThreadCode.code now.turns.limits (progress_of state now.turns) middle new now.rest c.end_turn.new.self
    c.args.thread c.run_silent-made.result c.in_ok-end.end c.requires.untraced c.requires.due c.requires.thread c.ranges.thread.fits c.if-made-gt0.false c.run_silent-made.ensures.silent given c.in_default.not-Spent c.end_turn.ensures
