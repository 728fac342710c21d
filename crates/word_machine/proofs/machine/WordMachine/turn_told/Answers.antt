use Rattle.std.proofs.Common.{Some, refl, sym, subst}
use Rattle.thread_moves.specs.Thread.{thread_of}
use Rattle.word_machine.specs.Seats.{seat_in}
use Rattle.word_machine.specs.Turns.{end_of, TurnsAt, HandsOutWithin, GivesTurn}
use Rattle.word_machine.proofs.TurnLemmas.{hands_within, gives_by}
use Rattle.word_machine.proofs.ToldLemmas.{turn_shown}
use Rattle.word_machine.proofs.machine.WordMachine.turn_told.Goals as goal

pub seat-requires : goal.seat-requires
seat-requires g c =
    let made : TurnsAt g.C.ThreadCode.code (thread_of g.C.ThreadCode.state g.C.ThreadCode.saved) c.args.self.now.words (seat_in c.args.self.now.seats.places.items c.args.number) (Some c.in-Some.came) c.turn_seated.new.self.words (seat_in c.turn_seated.new.self.seats.places.items c.args.number) =
    subst (λ came. TurnsAt g.C.ThreadCode.code (thread_of g.C.ThreadCode.state g.C.ThreadCode.saved) c.args.self.now.words (seat_in c.args.self.now.seats.places.items c.args.number) came c.turn_seated.new.self.words (seat_in c.turn_seated.new.self.seats.places.items c.args.number)) c.in-Some.is c.in_ok-came.ensures.made in
    subst (λ b. HandsOutWithin b c.in-Some.came.turn) (sym c.turn_seated.ensures.bounds)
    (hands_within g.C.ThreadCode.code g.C.ThreadCode.state g.C.ThreadCode.saved c.args.self.now.bounds c.args.self.now.words c.turn_seated.new.self.words _ _ c.in-Some.came made (c.args.self.now.bound c.args.number))

pub returns-clause-tells : goal.returns-clause-tells
returns-clause-tells g c =
    let made : TurnsAt g.C.ThreadCode.code (thread_of g.C.ThreadCode.state g.C.ThreadCode.saved) c.args.self.now.words (seat_in c.args.self.now.seats.places.items c.args.number) (Some c.in-Some.came) c.turn_seated.new.self.words (seat_in c.turn_seated.new.self.seats.places.items c.args.number) =
    subst (λ came. TurnsAt g.C.ThreadCode.code (thread_of g.C.ThreadCode.state g.C.ThreadCode.saved) c.args.self.now.words (seat_in c.args.self.now.seats.places.items c.args.number) came c.turn_seated.new.self.words (seat_in c.turn_seated.new.self.seats.places.items c.args.number)) c.in-Some.is c.in_ok-came.ensures.made in
    let gives : GivesTurn g.C.ThreadCode.code (thread_of g.C.ThreadCode.state g.C.ThreadCode.saved) c.args.self.now.bounds c.args.self.now.words c.args.self.now.seats.places.items c.args.number c.end_of-end.result c.seat.new.self.words c.seat.new.self.seats.places.items =
    subst (λ end. GivesTurn g.C.ThreadCode.code (thread_of g.C.ThreadCode.state g.C.ThreadCode.saved) c.args.self.now.bounds c.args.self.now.words c.args.self.now.seats.places.items c.args.number end c.seat.new.self.words c.seat.new.self.seats.places.items) (sym c.end_of-end.ensures)
    (subst (λ words. GivesTurn g.C.ThreadCode.code (thread_of g.C.ThreadCode.state g.C.ThreadCode.saved) c.args.self.now.bounds c.args.self.now.words c.args.self.now.seats.places.items c.args.number (end_of c.in-Some.came.turn c.in-Some.came.kind) words c.seat.new.self.seats.places.items) (sym c.seat.ensures.words)
    (gives_by g.C.ThreadCode.code g.C.ThreadCode.state g.C.ThreadCode.saved c.args.self.now.bounds c.args.self.now.words c.turn_seated.new.self.words c.args.self.now.seats.places.items c.turn_seated.new.self.seats.places.items c.seat.new.self.seats.places.items
    c.args.number c.in-Some.came (c.args.self.now.bound c.args.number) c.turn_seated.ensures.others c.seat.ensures.seats _ refl made)) in
    λ r is_core.
    let given = gives r is_core in (
      given.0,
      given.1,
      given.2,
      turn_shown g.C.ThreadCode.code g.C.ThreadCode.state g.C.ThreadCode.saved c.args.self.now.bounds c.args.self.now.words c.turn_seated.new.self.words c.args.self.now.seats.places.items c.turn_seated.new.self.seats.places.items
          c.args.number c.in-Some.came (record { end = c.end_of-end.result; kind = c.in-Some.came.kind; event = c.event_said-event.result; levels_before = c.levels_of-levels_before.result; levels_after = c.levels_of-levels_after.result })
          (c.args.self.now.bound c.args.number) c.levels_of-levels_before.ensures c.levels_of-levels_after.ensures refl c.event_said-event.ensures
          _ refl made r.core is_core,
    )
