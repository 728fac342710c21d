use Rattle.std.specs.Option.{option_map}
use Rattle.std.proofs.lemmas.List.{length-set}
use Rattle.thread_automaton.specs.ThreadState.{ThreadState}
use Rattle.std.proofs.Common.{◌≡◌, ◌<◌, ℕ, Option, Some, slice_set, length, sym, ◌∙◌, ap, subst}
use Rattle.op_core.specs.OrdinaryState.{set_at}
use Rattle.thread_moves.specs.Thread.{thread_of}
use Rattle.thread_moves.specs.declared.thread.JThread.{JThread}
use Rattle.word_machine.specs.Seats.{seat_in}
use Rattle.turn_runs.specs.Turns.{StaysReady}
use Rattle.plain_words.specs.Table.{MayStep, Stepped}
use Rattle.word_machine.specs.Usual.{MakesUsual}
use Rattle.word_machine.specs.Turns.{KeepsBounds}
use Rattle.word_machine.proofs.SeatLemmas.{seats_set, seat_inside, seat_hit, all_set, none_set}
use Rattle.word_machine.proofs.SilentLemmas.{mapped_at}
use Rattle.word_machine.proofs.UsualLemmas.{usual_keeps, usual_made}
use Rattle.word_machine.proofs.TurnLemmas.{none_stays, bound_stays}
use Rattle.word_machine.proofs.machine.WordMachine.run_usual.Goals as goal

pub run_usual_at-requires : goal.run_usual_at-requires
run_usual_at-requires g c = λ x is.
    let inside : c.args.number < length c.args.self.now.seats.places.items = subst (λ n. c.args.number < n) (sym c.args.self.now.seats.whole) c.ranges.number.fits in
    let here : seat_in c.args.self.now.seats.places.items c.args.number ≡ Some x = seat_inside _ _ _ c.index_mut.ensures.value inside ∙ is in
    subst (λ b. StaysReady g.C.ThreadCode.code b MayStep Stepped (thread_of g.C.ThreadCode.state g.C.ThreadCode.saved x) c.args.self.now.words) (sym (c.args.self.now.bound _ x here)) (c.requires x here)

pub invariant_of-self : goal.invariant_of-self
invariant_of-self g c =
    let inside : c.args.number < length c.args.self.now.seats.places.items = subst (λ n. c.args.number < n) (sym c.args.self.now.seats.whole) c.ranges.number.fits in
    let old : Option (JThread _) = c.index_mut.result.now in
    let here : seat_in c.args.self.now.seats.places.items c.args.number ≡ old = seat_inside _ _ _ c.index_mut.ensures.value inside in
    let keeps : KeepsBounds old c.run_usual_at.new.place = usual_keeps g.C.ThreadCode.code (thread_of g.C.ThreadCode.state g.C.ThreadCode.saved) c.args.self.now.bounds c.run_usual_at.result c.args.self.now.words c.run_usual_at.new.words old c.run_usual_at.new.place c.run_usual_at.ensures.usual in
    let set : seat_in (slice_set c.args.self.now.seats.places.items c.args.number c.run_usual_at.new.place) ≡ set_at (seat_in c.args.self.now.seats.places.items) c.args.number c.run_usual_at.new.place = seats_set _ _ _ inside in (
      (
        length-set _ _ _ ∙ c.args.self.now.seats.whole,
        (c.args.self.now.seats.most, (λ k above. ap (λ f. f k) set ∙ none_set _ _ _ _ c.args.self.now.seats.above (λ none. none_stays _ _ keeps (sym here ∙ none)) k above, tt)),
      ),
      (λ t x is. all_set (λ (z : JThread _). z.own.bounds ≡ c.args.self.now.bounds) _ _ _ c.args.self.now.bound (bound_stays c.args.self.now.bounds old c.run_usual_at.new.place keeps (λ y at. c.args.self.now.bound _ y (here ∙ at))) t x (ap (λ f. f t) (sym set) ∙ is), tt),
    )

pub returns-clause-usual : goal.returns-clause-usual
returns-clause-usual g c =
    let meant : JThread _ → ThreadState g.C.ThreadCode.State = thread_of g.C.ThreadCode.state g.C.ThreadCode.saved in
    let inside : c.args.number < length c.args.self.now.seats.places.items = subst (λ n. c.args.number < n) (sym c.args.self.now.seats.whole) c.ranges.number.fits in
    let old : Option (JThread _) = c.index_mut.result.now in
    let here : seat_in c.args.self.now.seats.places.items c.args.number ≡ old = seat_inside _ _ _ c.index_mut.ensures.value inside in
    subst (λ y. MakesUsual g.C.ThreadCode.code c.args.self.now.bounds c.run_usual_at.result c.args.self.now.words (option_map meant (seat_in c.args.self.now.seats.places.items c.args.number)) c.run_usual_at.new.words (option_map meant y))
    (sym (seat_hit c.args.self.now.seats.places.items c.args.number c.run_usual_at.new.place inside))
    (subst (λ x. MakesUsual g.C.ThreadCode.code c.args.self.now.bounds c.run_usual_at.result c.args.self.now.words (option_map meant x) c.run_usual_at.new.words (option_map meant c.run_usual_at.new.place)) (sym here)
    (usual_made g.C.ThreadCode.code meant c.args.self.now.bounds c.run_usual_at.result c.args.self.now.words c.run_usual_at.new.words old c.run_usual_at.new.place (λ x at. c.args.self.now.bound _ x (here ∙ at)) c.run_usual_at.ensures.usual))

pub returns-clause-others : goal.returns-clause-others
returns-clause-others g c =
    let meant : JThread _ → ThreadState g.C.ThreadCode.State = thread_of g.C.ThreadCode.state g.C.ThreadCode.saved in
    let old : ℕ → Option (JThread _) = seat_in c.args.self.now.seats.places.items in
    let inside : c.args.number < length c.args.self.now.seats.places.items = subst (λ n. c.args.number < n) (sym c.args.self.now.seats.whole) c.ranges.number.fits in
    ap {B = ℕ → Option (ThreadState g.C.ThreadCode.State)} (λ seats k. option_map meant (seats k)) (seats_set c.args.self.now.seats.places.items c.args.number c.run_usual_at.new.place inside)
    ∙ mapped_at meant old c.args.number c.run_usual_at.new.place
    ∙ ap {B = ℕ → Option (ThreadState g.C.ThreadCode.State)} (λ y. set_at (λ k. option_map meant (old k)) c.args.number (option_map meant y)) (sym (seat_hit c.args.self.now.seats.places.items c.args.number c.run_usual_at.new.place inside))
