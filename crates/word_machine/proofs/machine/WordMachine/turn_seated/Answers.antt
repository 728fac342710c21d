use Rattle.std.specs.Option.{option_map}
use Rattle.std.proofs.lemmas.List.{length-set}
use Rattle.thread_automaton.specs.ThreadState.{ThreadState}
use Rattle.std.proofs.Common.{◌≡◌, ◌<◌, ℕ, Option, Some, IfOk, slice_set, length, sym, ◌∙◌, ap, subst}
use Rattle.op_core.specs.OrdinaryState.{set_at}
use Rattle.thread_moves.specs.Thread.{thread_of}
use Rattle.thread_moves.specs.declared.thread.JThread.{JThread}
use Rattle.word_machine.specs.Seats.{seat_in}
use Rattle.word_machine.specs.Turns.{CanTurnOn, KeepsBounds, TurnsAt}
use Rattle.word_machine.proofs.SeatLemmas.{seats_set, seat_inside, seat_hit, mapped_kept, all_set, none_set, err_gives}
use Rattle.word_machine.proofs.TurnLemmas.{keeps_bounds, none_stays, bound_stays}
use Rattle.word_machine.proofs.machine.WordMachine.turn_seated.Goals as goal

pub turn_at-requires : goal.turn_at-requires
turn_at-requires g c = λ x is.
    let inside : c.args.number < length c.args.self.now.seats.places.items = subst (λ n. c.args.number < n) (sym c.args.self.now.seats.whole) c.ranges.number.fits in
    let here : seat_in c.args.self.now.seats.places.items c.args.number ≡ Some x = seat_inside _ _ _ c.index_mut.ensures.value inside ∙ is in
    subst (λ b. CanTurnOn g.C.ThreadCode.code b c.args.self.now.words (thread_of g.C.ThreadCode.state g.C.ThreadCode.saved x)) (sym (c.args.self.now.bound _ x here)) (c.requires x here)

pub invariant_of-self : goal.invariant_of-self
invariant_of-self g c =
    let inside : c.args.number < length c.args.self.now.seats.places.items = subst (λ n. c.args.number < n) (sym c.args.self.now.seats.whole) c.ranges.number.fits in
    let old : Option (JThread _) = c.index_mut.result.now in
    let here : seat_in c.args.self.now.seats.places.items c.args.number ≡ old = seat_inside _ _ _ c.index_mut.ensures.value inside in
    let keeps : KeepsBounds old c.turn_at.new.place = keeps_bounds g.C.ThreadCode.code g.C.ThreadCode.state g.C.ThreadCode.saved c.args.self.now.bounds c.args.self.now.words c.turn_at.new.words old c.turn_at.new.place c.turn_at.result c.turn_at.ensures.made c.turn_at.ensures.err_bounds in
    let set : seat_in (slice_set c.args.self.now.seats.places.items c.args.number c.turn_at.new.place) ≡ set_at (seat_in c.args.self.now.seats.places.items) c.args.number c.turn_at.new.place = seats_set _ _ _ inside in (
      (
        length-set _ _ _ ∙ c.args.self.now.seats.whole,
        (c.args.self.now.seats.most, (λ k above. ap (λ f. f k) set ∙ none_set _ _ _ _ c.args.self.now.seats.above (λ none. none_stays _ _ keeps (sym here ∙ none)) k above, tt)),
      ),
      (λ t x is. all_set (λ (z : JThread _). z.own.bounds ≡ c.args.self.now.bounds) _ _ _ c.args.self.now.bound (bound_stays c.args.self.now.bounds old c.turn_at.new.place keeps (λ y at. c.args.self.now.bound _ y (here ∙ at))) t x (ap (λ f. f t) (sym set) ∙ is), tt),
    )

pub returns-clause-made : goal.returns-clause-made
returns-clause-made g c =
    let inside : c.args.number < length c.args.self.now.seats.places.items = subst (λ n. c.args.number < n) (sym c.args.self.now.seats.whole) c.ranges.number.fits in
    subst (λ y. IfOk c.turn_at.result (λ came. TurnsAt g.C.ThreadCode.code (thread_of g.C.ThreadCode.state g.C.ThreadCode.saved) c.args.self.now.words (seat_in c.args.self.now.seats.places.items c.args.number) came c.turn_at.new.words y))
    (sym (seat_hit c.args.self.now.seats.places.items c.args.number c.turn_at.new.place inside))
    (subst (λ x. IfOk c.turn_at.result (λ came. TurnsAt g.C.ThreadCode.code (thread_of g.C.ThreadCode.state g.C.ThreadCode.saved) c.args.self.now.words x came c.turn_at.new.words c.turn_at.new.place))
    (sym (seat_inside _ _ _ c.index_mut.ensures.value inside)) c.turn_at.ensures.made)

pub returns-clause-others : goal.returns-clause-others
returns-clause-others g c =
    let inside : c.args.number < length c.args.self.now.seats.places.items = subst (λ n. c.args.number < n) (sym c.args.self.now.seats.whole) c.ranges.number.fits in
    seats_set _ _ _ inside ∙ ap (set_at _ c.args.number) (sym (seat_hit c.args.self.now.seats.places.items c.args.number c.turn_at.new.place inside))

pub returns-clause-err : goal.returns-clause-err
returns-clause-err g c =
    let inside : c.args.number < length c.args.self.now.seats.places.items = subst (λ n. c.args.number < n) (sym c.args.self.now.seats.whole) c.ranges.number.fits in
    let meant : JThread _ → ThreadState g.C.ThreadCode.State = thread_of g.C.ThreadCode.state g.C.ThreadCode.saved in
    err_gives c.turn_at.result _ _
    (λ same. ap {B = ℕ → Option (ThreadState g.C.ThreadCode.State)} (λ seats k. option_map meant (seats k)) (seats_set c.args.self.now.seats.places.items c.args.number c.turn_at.new.place inside)
    ∙ mapped_kept meant _ _ _ (same ∙ ap (option_map meant) (sym (seat_inside _ _ _ c.index_mut.ensures.value inside))))
    c.turn_at.ensures.err
