-- Silent turns at a place are those of the thread that is there.
use Rattle.std.proofs.Common.{◌≡◌, ℕ, Option, None, Some, refl, sym, ◌∙◌, ap, subst}
use Rattle.std.proofs.Math.Path.{fun_ext}
use Rattle.std.specs.Option.{option_map}
use Rattle.op_core.specs.ThreadCode.{Code}
use Rattle.op_core.specs.OrdinaryState.{set_at}
use Rattle.op_core.proofs.PointwiseLemmas.{set_at-both}
use Rattle.thread_automaton.specs.declared.Bounds.{Bounds}
use Rattle.thread_automaton.specs.ThreadState.{ThreadState}
use Rattle.thread_moves.specs.declared.thread.JThread.{JThread}
use Rattle.rollback_core.specs.Quiet.{QuietTurns}
use Rattle.word_machine.specs.Turns.{KeepsBounds}
use Rattle.word_machine.specs.Silent.{MakesQuiet, QuietAt}
use Rattle.word_machine.proofs.SeatLemmas.{some_same}

module _ {C S : Type 0} (code : Code S) (meant : JThread C → ThreadState S) (b : Bounds) (n : ℕ) where
  pub quiet_keeps : (old next : Option (JThread C)) → QuietAt code meant n old next → KeepsBounds old next
  quiet_keeps None next (none, is) = λ y here. absurd (cc)
  quiet_keeps (Some x) next (z, turns, same, is) = λ y here. (x, refl, ap (λ (k : JThread C). k.own.bounds) (some_same y z (sym here ∙ is)) ∙ same)

  pub quiet_made : (old next : Option (JThread C)) → ((x : JThread C) → old ≡ Some x → x.own.bounds ≡ b) → QuietAt code meant n old next → MakesQuiet code b n (option_map meant old) (option_map meant next)
  quiet_made None next bound (none, is) = (none, ap (option_map meant) is)
  quiet_made (Some x) next bound (y, turns, same, is) = (meant y, subst (λ k. QuietTurns code k n (meant x) (meant y)) (bound x refl) turns, ap (option_map meant) is)

-- what each of them is, where one is another or none
pub mapped_at : {A B : Type 0} (f : A → B) (seats : ℕ → Option A) (t : ℕ) (x : Option A) → ◌≡◌ {A = ℕ → Option B} (λ k. option_map f (set_at seats t x k)) (set_at (λ k. option_map f (seats k)) t (option_map f x))
mapped_at {A} {B} f seats t x = fun_ext (λ k. set_at-both (λ y z. option_map f y ≡ z) seats (λ k. option_map f (seats k)) t x (option_map f x) k (λ _. refl) (λ _. refl))
