use Rattle.std.proofs.Common.{◌≡◌, ℕ, Bool, refl, sym, subst}
use Rattle.std.proofs.lemmas.Result.{IfOk-weaker}
use Rattle.schedules.specs.Schedule.{rest_due}
use Rattle.ordinary_machine.specs.Machine.{machine_of}
use Rattle.ordinary_runs.specs.Turns.{progress_of, is_live}
use Rattle.ordinary_runs.specs.ScheduledRun.{run_of}
use Rattle.ordinary_runs.proofs.OrderLemmas.{due_twice}
use Rattle.ordinary_runs.proofs.RunLemmas.{ends_traced, dropped, order_through}
use Rattle.ordinary_runs.proofs.run.ScheduledRun.go_on.Goals as goal

pub give_ordered-requires-clause-due : goal.give_ordered-requires-clause-due
give_ordered-requires-clause-due g c =
    let now = c.args.self.now in
    let lives : ℕ → Bool = λ t. is_live ((machine_of g.C.ThreadCode.state now.turns.machine).now.threads t) in
    subst (λ rest. rest_due lives rest ≡ rest) (sym c.due.ensures.rest) (due_twice lives now.rest)

pub give_picked-requires-clause-order : goal.give_picked-requires-clause-order
give_picked-requires-clause-order g c = order_through c.due.new.self.order c.in-None.ensures.thread

pub returns-in-Some-clause-goes : goal.returns-in-Some-clause-goes
returns-in-Some-clause-goes g c =
    let now = c.args.self.now in
    let state = g.C.ThreadCode.state in
    (ends_traced g.C.ThreadCode.code now.turns.limits (run_of state now) c.traced.result c.in-Some.how c.traced.ensures c.in-Some.is, refl)

pub returns-in-Some-due-clause-goes : goal.returns-in-Some-due-clause-goes
returns-in-Some-due-clause-goes g c =
    let now = c.args.self.now in
    let state = g.C.ThreadCode.state in
    IfOk-weaker c.give_ordered.result _ _
    (λ how. dropped g.C.ThreadCode.code now.turns.limits (progress_of state now.turns) now.rest c.due.new.self how (run_of state c.give_ordered.new.self) c.due.ensures.rest)
    c.give_ordered.ensures.goes

pub returns-in-None-clause-goes : goal.returns-in-None-clause-goes
returns-in-None-clause-goes g c =
    let now = c.args.self.now in
    let state = g.C.ThreadCode.state in
    IfOk-weaker c.give_picked.result _ _
    (λ how. dropped g.C.ThreadCode.code now.turns.limits (progress_of state now.turns) now.rest c.due.new.self how (run_of state c.give_picked.new.self) c.due.ensures.rest)
    c.give_picked.ensures.goes
