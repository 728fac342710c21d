use Rattle.std.proofs.Common.{refl, ◌∙◌, ap, arith}
use Rattle.thread_moves.specs.Thread.{thread_of}
use Rattle.turn_runs.proofs.StretchLemmas.{goes_on, stops_here, ready_after, ready_on}
use Rattle.turn_runs.proofs.stretch.turns.Goals as goal

pub returns-in-Some-clause-stretched : goal.returns-in-Some-clause-stretched
returns-in-Some-clause-stretched g c = record {
  bound = omega arith;
  turned = stops_here g.C.ThreadCode.code c.args.ready.now.own.bounds g.P.StepPort.stepped c.args.looks (thread_of g.C.ThreadCode.state g.C.ThreadCode.saved) g.P.StepPort.handed
      (thread_of g.C.ThreadCode.state g.C.ThreadCode.saved c.args.ready.now) (thread_of g.C.ThreadCode.state g.C.ThreadCode.saved c.loop-passed.ready)
      (thread_of g.C.ThreadCode.state g.C.ThreadCode.saved c.turn.new.ready) c.args.port.now c.loop-passed.port c.turn.new.port c.loop-passed.passed
      c.loop-passed.invariant.passed c.in-Ok.said c.loop-passed.ready.own.bounds c.loop-passed.invariant.bounds c.in-Ok.ensures.turned
      c.turn.new.ready.own.last_kind c.last_kind.result c.in-Ok.ensures.last_kind (c.last_kind.ensures ∙ ap (λ x. x.own.last_kind) c.thread.ensures)
      c.in-Some.last c.in-Some.ensures.0 c.in-Some.ensures.1;
}

pub returns-in-Some-clause-ready : goal.returns-in-Some-clause-ready
returns-in-Some-clause-ready g c =
    ready_on g.C.ThreadCode.code c.args.ready.now.own.bounds g.P.StepPort.stepped c.args.looks (thread_of g.C.ThreadCode.state g.C.ThreadCode.saved) g.P.StepPort.handed
    (thread_of g.C.ThreadCode.state g.C.ThreadCode.saved c.args.ready.now) (thread_of g.C.ThreadCode.state g.C.ThreadCode.saved c.loop-passed.ready)
    (thread_of g.C.ThreadCode.state g.C.ThreadCode.saved c.turn.new.ready) c.args.port.now c.loop-passed.port c.turn.new.port c.loop-passed.passed
    c.loop-passed.invariant.passed c.in-Ok.said c.loop-passed.ready.own.bounds c.loop-passed.invariant.bounds c.in-Ok.ensures.turned
    c.turn.new.ready.own.last_kind c.last_kind.result c.in-Ok.ensures.last_kind (c.last_kind.ensures ∙ ap (λ x. x.own.last_kind) c.thread.ensures)
    g.P.StepPort.allows c.turn.new.ready.own.bounds (c.turn.ensures.bounds ∙ c.loop-passed.invariant.bounds) c.requires

pub loop-passed-preserved : goal.loop-passed-preserved
loop-passed-preserved g c = record {
  passed = goes_on g.C.ThreadCode.code c.args.ready.now.own.bounds g.P.StepPort.stepped c.args.looks (thread_of g.C.ThreadCode.state g.C.ThreadCode.saved) g.P.StepPort.handed
      (thread_of g.C.ThreadCode.state g.C.ThreadCode.saved c.args.ready.now) (thread_of g.C.ThreadCode.state g.C.ThreadCode.saved c.loop-passed.ready)
      (thread_of g.C.ThreadCode.state g.C.ThreadCode.saved c.turn.new.ready) c.args.port.now c.loop-passed.port c.turn.new.port c.loop-passed.passed
      c.loop-passed.invariant.passed c.in-Ok.said c.loop-passed.ready.own.bounds c.loop-passed.invariant.bounds c.in-Ok.ensures.turned
      c.turn.new.ready.own.last_kind c.last_kind.result c.in-Ok.ensures.last_kind (c.last_kind.ensures ∙ ap (λ x. x.own.last_kind) c.thread.ensures)
      c.in-None.ensures;
  bounds = c.turn.ensures.bounds ∙ c.loop-passed.invariant.bounds;
}

pub returns-in-Err-2-clause-ready : goal.returns-in-Err-2-clause-ready
returns-in-Err-2-clause-ready g c =
    ready_after g.C.ThreadCode.code c.args.ready.now.own.bounds g.P.StepPort.stepped c.args.looks g.P.StepPort.allows
    (thread_of g.C.ThreadCode.state g.C.ThreadCode.saved c.args.ready.now) (thread_of g.C.ThreadCode.state g.C.ThreadCode.saved c.loop-passed.ready)
    (thread_of g.C.ThreadCode.state g.C.ThreadCode.saved c.turn.new.ready) c.args.port.now c.loop-passed.port c.turn.new.port c.loop-passed.passed c.turn.new.ready.own.bounds
    c.requires c.loop-passed.invariant.passed (c.turn.ensures.bounds ∙ c.loop-passed.invariant.bounds) c.in-Err-2.ensures.err c.in-Err-2.ensures.err_port

pub returns-clause-ready : goal.returns-clause-ready
returns-clause-ready g c =
    ready_after g.C.ThreadCode.code c.args.ready.now.own.bounds g.P.StepPort.stepped c.args.looks g.P.StepPort.allows
    (thread_of g.C.ThreadCode.state g.C.ThreadCode.saved c.args.ready.now) (thread_of g.C.ThreadCode.state g.C.ThreadCode.saved c.loop-passed.ready)
    (thread_of g.C.ThreadCode.state g.C.ThreadCode.saved c.loop-passed.ready) c.args.port.now c.loop-passed.port c.loop-passed.port c.loop-passed.passed c.loop-passed.ready.own.bounds
    c.requires c.loop-passed.invariant.passed c.loop-passed.invariant.bounds refl refl
