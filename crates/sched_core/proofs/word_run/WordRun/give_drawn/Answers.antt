use Rattle.std.proofs.Common.{◌≡◌, Some, length, slice_get, is_some, sym, ap, subst}
use Rattle.schedules.specs.Schedule.{Rest, place_of}
use Rattle.schedules.specs.Run.{IsPicked}
use Rattle.thread_moves.specs.Thread.{thread_of}
use Rattle.word_runs.specs.WordTurns.{word_turns}
use Rattle.word_machine.specs.Machine.{threads_in}
use Rattle.sched_core.specs.ScheduledRun.{IsSame, GivesNext}
use Rattle.sched_core.proofs.RunLemmas.{ok_gives, can_seat, picked_can, picked_goes, drawn_picked, place_as, still_ready, turn_now}
use Rattle.sched_core.proofs.word_run.WordRun.give_drawn.Goals as goal

pub give_listed-requires-clause-there : goal.give_listed-requires-clause-there
give_listed-requires-clause-there g c =
    let at = subst (λ xs. slice_get xs (place_of (Some c.args.number) (length xs)) ≡ Some c.in-Some.thread) c.as_slice.ensures.value c.in-Some.ensures in
    let listed = c.list.new.self in
    let can = picked_can g.C.ThreadCode.code g.C.ThreadCode.state g.C.ThreadCode.saved listed.machine.words listed.machine.seats.places.items _ _ c.in-Some.thread c.in_ok-list.ensures.those at in
    ap is_some (can_seat g.C.ThreadCode.code g.C.ThreadCode.state g.C.ThreadCode.saved listed.machine.words listed.machine.seats.places.items c.in-Some.thread can).1

pub give_listed-requires-clause-ready : goal.give_listed-requires-clause-ready
give_listed-requires-clause-ready g c = λ x here.
    let listed = c.list.new.self in
    let same : IsSame (thread_of g.C.ThreadCode.state g.C.ThreadCode.saved) c.args.self.now listed = record {
      bounds = ap (λ m. m.bounds) c.list.ensures.machine;
      words = ap (λ m. m.words) c.list.ensures.machine;
      threads = ap (λ m. threads_in (thread_of g.C.ThreadCode.state g.C.ThreadCode.saved) m.seats.places.items) c.list.ensures.machine;
      opened = c.list.ensures.opened;
      undone = c.list.ensures.undone;
    } in
    turn_now g.C.ThreadCode.code listed.machine.bounds listed.machine.words (thread_of g.C.ThreadCode.state g.C.ThreadCode.saved x)
    ((still_ready g.C.ThreadCode.code g.C.ThreadCode.state g.C.ThreadCode.saved c.args.self.now listed same c.requires.ready).ready c.in-Some.thread x here)

pub give_listed-requires-clause-can : goal.give_listed-requires-clause-can
give_listed-requires-clause-can g c =
    let at = subst (λ xs. slice_get xs (place_of (Some c.args.number) (length xs)) ≡ Some c.in-Some.thread) c.as_slice.ensures.value c.in-Some.ensures in
    picked_can g.C.ThreadCode.code g.C.ThreadCode.state g.C.ThreadCode.saved c.list.new.self.machine.words c.list.new.self.machine.seats.places.items _ _ c.in-Some.thread c.in_ok-list.ensures.those at

pub returns-in-Some-clause-goes : goal.returns-in-Some-clause-goes
returns-in-Some-clause-goes g c =
    let at = subst (λ xs. slice_get xs (place_of (Some c.args.number) (length xs)) ≡ Some c.in-Some.thread) c.as_slice.ensures.value c.in-Some.ensures in
    let number = ap (λ (rest : Rest). rest.number) c.requires.rest in
    let listed = c.list.new.self in
    let same : IsSame (thread_of g.C.ThreadCode.state g.C.ThreadCode.saved) c.args.self.now listed = record {
      bounds = ap (λ m. m.bounds) c.list.ensures.machine;
      words = ap (λ m. m.words) c.list.ensures.machine;
      threads = ap (λ m. threads_in (thread_of g.C.ThreadCode.state g.C.ThreadCode.saved) m.seats.places.items) c.list.ensures.machine;
      opened = c.list.ensures.opened;
      undone = c.list.ensures.undone;
    } in
    ok_gives c.give_listed.result
    (λ how gives. picked_goes g.C.ThreadCode.code g.C.ThreadCode.state g.C.ThreadCode.saved c.args.self.now.machine.bounds c.args.self.now listed c.give_listed.new.self c.in-Some.thread how
    same c.list.ensures.rest (ap (λ (rest : Rest). rest.order) c.requires.rest)
    (λ r place. subst (λ k. IsPicked ((word_turns g.C.ThreadCode.code c.args.self.now.machine.bounds).enabled r) k c.in-Some.thread) (sym number)
    (drawn_picked g.C.ThreadCode.code g.C.ThreadCode.state g.C.ThreadCode.saved c.args.self.now.machine.bounds listed c.in-Some.thread listed.enabled.items (Some c.args.number) c.in_ok-list.ensures.those at r
    (place_as g.C.ThreadCode.code g.C.ThreadCode.state g.C.ThreadCode.saved c.args.self.now.machine.bounds c.args.self.now listed listed (record { state = r; rest = c.args.self.now.rest }) place same)))
    (subst (λ b. GivesNext g.C.ThreadCode.code (thread_of g.C.ThreadCode.state g.C.ThreadCode.saved) b listed c.in-Some.thread how c.give_listed.new.self) same.bounds gives))
    c.give_listed.ensures.gives
