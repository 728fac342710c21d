use Rattle.std.specs.Option.{option_map}
use Rattle.std.proofs.lemmas.List.{length-set}
use Rattle.thread_automaton.specs.ThreadState.{ThreadState}
use Rattle.std.proofs.Common.{◌≡◌, ◌<◌, ℕ, Option, slice_set, length, sym, ◌∙◌, ap, subst}
use Rattle.op_core.specs.OrdinaryState.{set_at}
use Rattle.thread_moves.specs.Thread.{thread_of}
use Rattle.thread_moves.specs.declared.thread.JThread.{JThread}
use Rattle.word_machine.specs.Seats.{seat_in}
use Rattle.word_machine.specs.Silent.{MakesQuiet}
use Rattle.word_machine.specs.Turns.{KeepsBounds}
use Rattle.word_machine.proofs.SeatLemmas.{seats_set, seat_inside, seat_hit, all_set, none_set}
use Rattle.word_machine.proofs.SilentLemmas.{quiet_keeps, quiet_made, mapped_at}
use Rattle.word_machine.proofs.TurnLemmas.{none_stays, bound_stays}
use Rattle.word_machine.proofs.machine.WordMachine.run_silent.Goals as goal

pub invariant_of-self : goal.invariant_of-self
invariant_of-self g c =
    let inside : c.args.number < length c.args.self.now.seats.places.items = subst (λ n. c.args.number < n) (sym c.args.self.now.seats.whole) c.ranges.number.fits in
    let old : Option (JThread _) = c.index_mut.result.now in
    let here : seat_in c.args.self.now.seats.places.items c.args.number ≡ old = seat_inside _ _ _ c.index_mut.ensures.value inside in
    let keeps : KeepsBounds old c.run_silent_at.new.place = quiet_keeps g.C.ThreadCode.code (thread_of g.C.ThreadCode.state g.C.ThreadCode.saved) c.args.self.now.bounds c.run_silent_at.result old c.run_silent_at.new.place c.run_silent_at.ensures.made in
    let set : seat_in (slice_set c.args.self.now.seats.places.items c.args.number c.run_silent_at.new.place) ≡ set_at (seat_in c.args.self.now.seats.places.items) c.args.number c.run_silent_at.new.place = seats_set _ _ _ inside in (
      (
        length-set _ _ _ ∙ c.args.self.now.seats.whole,
        (c.args.self.now.seats.most, (λ k above. ap (λ f. f k) set ∙ none_set _ _ _ _ c.args.self.now.seats.above (λ none. none_stays _ _ keeps (sym here ∙ none)) k above, tt)),
      ),
      (λ t x is. all_set (λ (z : JThread _). z.own.bounds ≡ c.args.self.now.bounds) _ _ _ c.args.self.now.bound (bound_stays c.args.self.now.bounds old c.run_silent_at.new.place keeps (λ y at. c.args.self.now.bound _ y (here ∙ at))) t x (ap (λ f. f t) (sym set) ∙ is), tt),
    )

pub returns-clause-made : goal.returns-clause-made
returns-clause-made g c =
    let meant : JThread _ → ThreadState g.C.ThreadCode.State = thread_of g.C.ThreadCode.state g.C.ThreadCode.saved in
    let inside : c.args.number < length c.args.self.now.seats.places.items = subst (λ n. c.args.number < n) (sym c.args.self.now.seats.whole) c.ranges.number.fits in
    let old : Option (JThread _) = c.index_mut.result.now in
    let here : seat_in c.args.self.now.seats.places.items c.args.number ≡ old = seat_inside _ _ _ c.index_mut.ensures.value inside in
    subst (λ y. MakesQuiet g.C.ThreadCode.code c.args.self.now.bounds c.run_silent_at.result (option_map meant (seat_in c.args.self.now.seats.places.items c.args.number)) (option_map meant y))
    (sym (seat_hit c.args.self.now.seats.places.items c.args.number c.run_silent_at.new.place inside))
    (subst (λ x. MakesQuiet g.C.ThreadCode.code c.args.self.now.bounds c.run_silent_at.result (option_map meant x) (option_map meant c.run_silent_at.new.place)) (sym here)
    (quiet_made g.C.ThreadCode.code meant c.args.self.now.bounds c.run_silent_at.result old c.run_silent_at.new.place (λ x at. c.args.self.now.bound _ x (here ∙ at)) c.run_silent_at.ensures.made))

pub returns-clause-others : goal.returns-clause-others
returns-clause-others g c =
    let meant : JThread _ → ThreadState g.C.ThreadCode.State = thread_of g.C.ThreadCode.state g.C.ThreadCode.saved in
    let old : ℕ → Option (JThread _) = seat_in c.args.self.now.seats.places.items in
    let inside : c.args.number < length c.args.self.now.seats.places.items = subst (λ n. c.args.number < n) (sym c.args.self.now.seats.whole) c.ranges.number.fits in
    ap {B = ℕ → Option (ThreadState g.C.ThreadCode.State)} (λ seats k. option_map meant (seats k)) (seats_set c.args.self.now.seats.places.items c.args.number c.run_silent_at.new.place inside)
    ∙ mapped_at meant old c.args.number c.run_silent_at.new.place
    ∙ ap {B = ℕ → Option (ThreadState g.C.ThreadCode.State)} (λ y. set_at (λ k. option_map meant (old k)) c.args.number (option_map meant y)) (sym (seat_hit c.args.self.now.seats.places.items c.args.number c.run_silent_at.new.place inside))
