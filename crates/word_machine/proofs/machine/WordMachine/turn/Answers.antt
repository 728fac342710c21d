use Rattle.std.proofs.Common.{Some, refl, sym, subst}
use Rattle.thread_moves.specs.Thread.{thread_of}
use Rattle.word_machine.specs.Seats.{seat_in}
use Rattle.word_machine.specs.Turns.{end_of, TurnsAt, HandsOutWithin, GivesTurn}
use Rattle.word_machine.proofs.TurnLemmas.{hands_within, gives_by}
use Rattle.word_machine.proofs.machine.WordMachine.turn.Goals as goal

pub seat-requires : goal.seat-requires
seat-requires g c =
    let made : TurnsAt g.C.ThreadCode.code (thread_of g.C.ThreadCode.state g.C.ThreadCode.saved) c.args.self.now.words (seat_in c.args.self.now.seats.places.items c.args.number) (Some c.in-Some.came) c.turn_seated.new.self.words (seat_in c.turn_seated.new.self.seats.places.items c.args.number) =
    subst (λ came. TurnsAt g.C.ThreadCode.code (thread_of g.C.ThreadCode.state g.C.ThreadCode.saved) c.args.self.now.words (seat_in c.args.self.now.seats.places.items c.args.number) came c.turn_seated.new.self.words (seat_in c.turn_seated.new.self.seats.places.items c.args.number)) c.in-Some.is c.in_ok-came.ensures.made in
    subst (λ b. HandsOutWithin b c.in-Some.came.turn) (sym c.turn_seated.ensures.bounds)
    (hands_within g.C.ThreadCode.code g.C.ThreadCode.state g.C.ThreadCode.saved c.args.self.now.bounds c.args.self.now.words c.turn_seated.new.self.words _ _ c.in-Some.came made (c.args.self.now.bound c.args.number))

pub returns-clause-gives : goal.returns-clause-gives
returns-clause-gives g c =
    let made : TurnsAt g.C.ThreadCode.code (thread_of g.C.ThreadCode.state g.C.ThreadCode.saved) c.args.self.now.words (seat_in c.args.self.now.seats.places.items c.args.number) (Some c.in-Some.came) c.turn_seated.new.self.words (seat_in c.turn_seated.new.self.seats.places.items c.args.number) =
    subst (λ came. TurnsAt g.C.ThreadCode.code (thread_of g.C.ThreadCode.state g.C.ThreadCode.saved) c.args.self.now.words (seat_in c.args.self.now.seats.places.items c.args.number) came c.turn_seated.new.self.words (seat_in c.turn_seated.new.self.seats.places.items c.args.number)) c.in-Some.is c.in_ok-came.ensures.made in
    subst (λ end. GivesTurn g.C.ThreadCode.code (thread_of g.C.ThreadCode.state g.C.ThreadCode.saved) c.args.self.now.bounds c.args.self.now.words c.args.self.now.seats.places.items c.args.number end c.seat.new.self.words c.seat.new.self.seats.places.items) (sym c.end_of-end.ensures)
    (subst (λ words. GivesTurn g.C.ThreadCode.code (thread_of g.C.ThreadCode.state g.C.ThreadCode.saved) c.args.self.now.bounds c.args.self.now.words c.args.self.now.seats.places.items c.args.number (end_of c.in-Some.came.turn c.in-Some.came.kind) words c.seat.new.self.seats.places.items) (sym c.seat.ensures.words)
    (gives_by g.C.ThreadCode.code g.C.ThreadCode.state g.C.ThreadCode.saved c.args.self.now.bounds c.args.self.now.words c.turn_seated.new.self.words c.args.self.now.seats.places.items c.turn_seated.new.self.seats.places.items c.seat.new.self.seats.places.items
    c.args.number c.in-Some.came (c.args.self.now.bound c.args.number) c.turn_seated.ensures.others c.seat.ensures.seats _ refl made))
