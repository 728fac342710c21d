-- What a turn says of a thread and its seat's part, whatever the port of its seat is.
use Rattle.std.proofs.Common.{◌≡◌, ℕ, suc, ◌+◌, List, subst, arith}
use Rattle.op_core.specs.ThreadCode.{Code}
use Rattle.step_port.specs.declared.answer.StepAnswer.{StepAnswer}
use Rattle.step_port.specs.declared.step.Step.{Step}
use Rattle.thread_automaton.specs.declared.Bounds.{Bounds}
use Rattle.thread_automaton.specs.declared.Move.{Move}
use Rattle.thread_automaton.specs.declared.Move.TheVariants.{Over, Quiet, Stop, Make}
use Rattle.thread_automaton.specs.ThreadState.{ThreadState}
use Rattle.thread_automaton.specs.NextMove.{next_move}
use Rattle.thread_automaton.specs.Told.{Told, probed, advanced, born, lost, blocked, told}
use Rattle.thread_moves.specs.Thread.{thread_of}
use Rattle.rollback_core.specs.Turn.{Says, Turned}
use Rattle.rollback_core.specs.declared.turned.Turn.{Turn}
use Rattle.section_laws.specs.NextSteps.{step_made}
use Rattle.table_words.specs.declared.setup.Setup.{Setup}
use Rattle.table_words.specs.declared.setup.ThreadPart.{ThreadPart}
use Rattle.table_words.specs.declared.seat.TableSeat.{TableSeat}
use Rattle.table_words.specs.Setups.{setup_bounds}
use Rattle.table_words.specs.Views.{first_after}
use Rattle.table_hosts.specs.Turns.{TakesTurn, TookTurn, TookTurns}

module _ {C S : Type 0} (state : C → S) (saved : C → List S) (code : Code S) (k : Setup C) (th : ThreadState S) (v : List (ThreadPart C)) (next : ThreadState S) (w : List (ThreadPart C))
    (stepped : Step → StepAnswer → Type 0) (handed : Step → TableSeat C → Type 0) (still : Type 0)
    (grows : (step : Step) (a : StepAnswer) → stepped step a → w ≡ first_after v (step_made step a)) (stays : still → w ≡ v) where
  abbrev b : Bounds
  b = setup_bounds k

  abbrev Anyhow : Step → TableSeat C → Type 0
  Anyhow step pass = Unit {0}

  says_so : (step : Step) (turn : Turn C (TableSeat C)) (tells : Told) → Says (thread_of state saved) code b th step (handed step) turn tells → Says (thread_of state saved) code b th step (Anyhow step) turn tells
  says_so step turn born says = record { child = says.child; pass = says.pass; says = says.says; first = says.first; bounds = says.bounds; passed = tt }
  says_so step turn probed says = says
  says_so step turn (advanced reply) says = says
  says_so step turn (lost u) says = says
  says_so step turn (blocked why) says = says

  by_move : (turn : Turn C (TableSeat C)) (move : Move) → Turned (thread_of state saved) code b th next stepped handed still turn move
      → Turned (thread_of state saved) code b th next (λ step a. w ≡ first_after v (step_made step a)) Anyhow (w ≡ v) turn move
  by_move turn Over (quiet, at) = (stays quiet, at)
  by_move turn (Stop limit) (quiet, at) = (stays quiet, at)
  by_move turn Quiet (quiet, at) = (stays quiet, at)
  by_move turn (Make step) at = record {
    answer = at.answer;
    made = grows step at.answer at.made;
    kind = at.kind;
    goes = at.goes;
    says = says_so step turn (told code b th step at.answer) at.says;
  }

  pub takes : (d : Bounds) → d ≡ b → (turn : Turn C (TableSeat C)) → Turned (thread_of state saved) code d th next stepped handed still turn (next_move code d th)
      → TakesTurn state saved code k th v next w turn
  takes d is turn turned = by_move turn (next_move code b th)
      (subst (λ (e : Bounds). Turned (thread_of state saved) code e th next stepped handed still turn (next_move code e th)) is turned)

-- a turn of equal things, of which less is said
pub took_in : {C S : Type 0} (state : C → S) (saved : C → List S) (code : Code S) (j k : Setup C) → j ≡ k → (Is Also : Turn C (TableSeat C) → Type 0) → ((turn : Turn C (TableSeat C)) → Is turn → Also turn)
    → (th : ThreadState S) (v : List (ThreadPart C)) (next after : ThreadState S) → next ≡ after → (w u : List (ThreadPart C)) → w ≡ u
    → TookTurn state saved code j Is th v next w → TookTurn state saved code k Also th v after u
took_in {C = C} state saved code j k is Is Also less th v next after nexts w u parts t =
    let said : TookTurn state saved code j Also th v next w = record { turn = t.turn; takes = t.takes; is = less t.turn t.is } in
    subst (λ (i : Setup C). TookTurn state saved code i Also th v after u) is (subst (λ (x : ThreadState _). TookTurn state saved code j Also th v x u) nexts
    (subst (λ x. TookTurn state saved code j Also th v next x) parts said))

-- one turn more
pub one_more : {C S : Type 0} (state : C → S) (saved : C → List S) (code : Code S) (k : Setup C) (Is : Turn C (TableSeat C) → Type 0) (n : ℕ) (th : ThreadState S) (v : List (ThreadPart C)) (last : ThreadState S) (u : List (ThreadPart C))
    (next : ThreadState S) (w : List (ThreadPart C)) → TookTurns state saved code k Is n th v last u → TookTurn state saved code k Is last u next w → TookTurns state saved code k Is (n + 1) th v next w
one_more state saved code k Is n th v last u next w before one =
    let counted : suc n ≡ n + 1 = omega arith in
    subst (λ m. TookTurns state saved code k Is m th v next w) counted (last, u, before, one)
