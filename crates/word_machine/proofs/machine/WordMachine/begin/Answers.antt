use Rattle.std.proofs.Common.{◌≡◌, ℕ, Option, None, Some, sym, ◌∙◌, ap}
use Rattle.std.specs.Option.{option_map}
use Rattle.op_core.specs.OrdinaryState.{set_at}
use Rattle.thread_automaton.specs.ThreadState.{ThreadState}
use Rattle.thread_moves.specs.Thread.{thread_of}
use Rattle.thread_moves.specs.declared.thread.JThread.{JThread}
use Rattle.word_machine.specs.Seats.{seat_in}
use Rattle.word_machine.proofs.SeatLemmas.{all_set, some_same, mapped_set}
use Rattle.word_machine.proofs.machine.WordMachine.begin.Goals as goal

pub invariant_of-result : goal.invariant_of-result
invariant_of-result g c =
    let alone : seat_in c.put.new.self.places.items ≡ set_at (λ k. None) c.number-number.result (Some c.args.main) = c.put.ensures ∙ ap (λ seats. set_at seats c.number-number.result (Some c.args.main)) c.in_ok-seats.ensures in
    record {
      bound = λ t x is. all_set (λ (z : JThread _). z.own.bounds ≡ c.bounds-bounds.result) (λ k. None) c.number-number.result (Some c.args.main) (λ k y none. absurd (cc))
          (λ y same. ap (λ (z : JThread _). z.own.bounds) (sym (some_same _ y same) ∙ sym c.thread.ensures) ∙ sym c.bounds-bounds.ensures) t x (ap (λ f. f t) (sym alone) ∙ is);
    }

pub returns-clause-threads : goal.returns-clause-threads
returns-clause-threads g c =
    let meant : JThread _ → ThreadState g.C.ThreadCode.State = thread_of g.C.ThreadCode.state g.C.ThreadCode.saved in
    let alone : seat_in c.put.new.self.places.items ≡ set_at (λ k. None) c.number-number.result (Some c.args.main) = c.put.ensures ∙ ap (λ seats. set_at seats c.number-number.result (Some c.args.main)) c.in_ok-seats.ensures in
    ap {B = ℕ → Option (ThreadState g.C.ThreadCode.State)} (λ seats k. option_map meant (seats k)) alone ∙ mapped_set meant (λ k. None) c.number-number.result c.args.main
    ∙ ap {B = ℕ → Option (ThreadState g.C.ThreadCode.State)} (λ n. set_at (λ k. None) n (Some (meant c.args.main))) (c.number-number.ensures ∙ ap (λ (z : JThread _). z.own.number) c.thread-2.ensures)
