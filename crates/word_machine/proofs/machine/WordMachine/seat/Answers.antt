use Rattle.std.proofs.Common.{sym, ◌∙◌, ap, subst, ◌≡◌}
use Rattle.thread_moves.specs.declared.thread.JThread.{JThread}
use Rattle.word_machine.specs.Turns.{HandsOutWithin}
use Rattle.word_machine.proofs.SeatLemmas.{all_set, some_same}
use Rattle.word_machine.proofs.machine.WordMachine.seat.Goals as goal

pub invariant_of-self : goal.invariant_of-self
invariant_of-self g c = record {
  bound = λ t x is. all_set (λ (z : JThread _). z.own.bounds ≡ c.args.self.now.bounds) _ _ _ c.args.self.now.bound
      (λ y same. ap (λ (z : JThread _). z.own.bounds) (sym (some_same _ y same) ∙ c.into_inner-child.ensures) ∙ subst (HandsOutWithin c.args.self.now.bounds) c.in-Born.is c.requires)
      t x (ap (λ f. f t) (sym c.put.ensures) ∙ is);
}
