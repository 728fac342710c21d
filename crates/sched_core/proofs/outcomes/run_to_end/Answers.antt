use Rattle.std.proofs.Common.{sym, ◌∙◌, subst}
use Rattle.std.proofs.lemmas.Bool.{false≢true}
use Rattle.thread_moves.specs.Thread.{thread_of}
use Rattle.sched_core.specs.ScheduledRun.{GoesOnFrom}
use Rattle.sched_core.proofs.RunLemmas.{ok_gives}
use Rattle.sched_core.proofs.ComeLemmas.{come_first, come_ready, come_further, come_to_end}
use Rattle.sched_core.proofs.outcomes.run_to_end.Goals as goal

pub go_on-requires-clause-ready : goal.go_on-requires-clause-ready
go_on-requires-clause-ready g c = let (from, way) = c.requires.way in
    come_ready g.C.ThreadCode.code (thread_of g.C.ThreadCode.state g.C.ThreadCode.saved) c.args.run from way c.loop-turn.run (c.loop-turn.invariant.0 from way)

pub returns-in-Some : goal.returns-in-Some
returns-in-Some g c = ok_gives c.outcome_of.result (λ outcome says from way. come_to_end g.C.ThreadCode.code (thread_of g.C.ThreadCode.state g.C.ThreadCode.saved) c.args.run from way
    c.loop-turn.run c.go_on.new.self c.in-Some.how outcome (c.loop-turn.invariant.0 from way)
    (subst (λ how. GoesOnFrom g.C.ThreadCode.code (thread_of g.C.ThreadCode.state g.C.ThreadCode.saved) c.loop-turn.run.machine.bounds c.loop-turn.run how c.go_on.new.self) c.in-Some.is c.in_ok-how.ensures.goes) says)
    c.outcome_of.ensures

pub loop-turn-init : goal.loop-turn-init
loop-turn-init g c = (λ from way. come_first g.C.ThreadCode.code (thread_of g.C.ThreadCode.state g.C.ThreadCode.saved) c.args.run from way, λ is. absurd (false≢true (sym c.requires.unlisted ∙ is)))

pub loop-turn-preserved : goal.loop-turn-preserved
loop-turn-preserved g c = (
  λ from way. come_further g.C.ThreadCode.code (thread_of g.C.ThreadCode.state g.C.ThreadCode.saved) c.args.run from way c.loop-turn.run c.go_on.new.self
      (c.loop-turn.invariant.0 from way) c.go_on.ensures.bounds c.go_on.ensures.areas
      (subst (λ how. GoesOnFrom g.C.ThreadCode.code (thread_of g.C.ThreadCode.state g.C.ThreadCode.saved) c.loop-turn.run.machine.bounds c.loop-turn.run how c.go_on.new.self) c.in_default.is c.in_ok-how.ensures.goes),
  c.go_on.ensures.listed,
)
