use Rattle.std.proofs.Common.{refl, subst}
use Rattle.thread_moves.specs.Thread.{thread_of}
use Rattle.sched_core.proofs.RunLemmas.{ok_gives}
use Rattle.traced_runs.specs.declared.traced_run.TracedRun.{TracedRun}
use Rattle.traced_runs.specs.TracedRun.{IsNextOf}
use Rattle.traced_runs.proofs.PlaceLemmas.{same_place}
use Rattle.traced_runs.proofs.RunLemmas.{is_full, has_room, gives_next, ends_itself}
use Rattle.traced_runs.proofs.traced_run.TracedRun.go_on.Goals as goal

pub returns-then-count-ge-MOST_ITEMS-clause-goes : goal.returns-then-count-ge-MOST_ITEMS-clause-goes
returns-then-count-ge-MOST_ITEMS-clause-goes g c = λ core begins run are place left.
    let old = c.args.self.now in (
      is_full g.C.ThreadCode.code (thread_of g.C.ThreadCode.state g.C.ThreadCode.saved) old.machine.bounds core old run.state are place c.count.result c.count.ensures c.if-count-ge-MOST_ITEMS.true run refl,
      place,
    )

pub how_it_ends-requires : goal.how_it_ends-requires
how_it_ends-requires g c =
    let next = subst (λ next. IsNextOf g.C.ThreadCode.code (thread_of g.C.ThreadCode.state g.C.ThreadCode.saved) c.args.self.now.machine.bounds c.args.self.now.machine.words c.args.self.now.machine.seats.places.items
    c.args.self.now.rest next c.next_thread.new.rest) c.in-None.is c.in_ok-thread.ensures in
    next.0

pub returns-in-None-clause-goes : goal.returns-in-None-clause-goes
returns-in-None-clause-goes g c = λ core begins run are place left.
    let code = g.C.ThreadCode.code in
    let meant = thread_of g.C.ThreadCode.state g.C.ThreadCode.saved in
    let old = c.args.self.now in
    let mid : TracedRun _ _ = record old { rest = c.next_thread.new.rest; enabled = c.next_thread.new.enabled } in
    let next = subst (λ next. IsNextOf code meant old.machine.bounds old.machine.words old.machine.seats.places.items old.rest next c.next_thread.new.rest) c.in-None.is c.in_ok-thread.ensures in
    ends_itself code meant old.machine.bounds old mid mid core begins run are place left
    (has_room code meant old.machine.bounds core old run.state are place c.count.result c.count.ensures c.if-count-ge-MOST_ITEMS.false)
    c.how_it_ends.result (same_place code meant old.machine.bounds core old run.state _ _ place) (c.how_it_ends.ensures.itself run place.now (next.1 run place.now left))

pub returns-in-Some-clause-goes : goal.returns-in-Some-clause-goes
returns-in-Some-clause-goes g c = ok_gives c.give_next.result
    (λ how gives core begins run are place left.
    let code = g.C.ThreadCode.code in
    let meant = thread_of g.C.ThreadCode.state g.C.ThreadCode.saved in
    let old = c.args.self.now in
    let mid : TracedRun _ _ = record old { rest = c.next_thread.new.rest; enabled = c.next_thread.new.enabled } in
    gives_next code meant old.machine.bounds old mid c.give_next.new.self core begins run are place left
    (has_room code meant old.machine.bounds core old run.state are place c.count.result c.count.ensures c.if-count-ge-MOST_ITEMS.false)
    c.in-Some.thread how (same_place code meant old.machine.bounds core old run.state _ _ place)
    (subst (λ next. IsNextOf code meant old.machine.bounds old.machine.words old.machine.seats.places.items old.rest next c.next_thread.new.rest) c.in-Some.is c.in_ok-thread.ensures) gives)
    c.give_next.ensures.gives
