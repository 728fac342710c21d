-- What a turn comes to for a schedule is what the definitions say of its step.
use Rattle.std.proofs.Common.{◌≡◌, ℕ, Option, None, Some, refl, sym, subst, ap}
use Rattle.op_core.specs.declared.Next.{Next}
use Rattle.op_core.specs.declared.Next.TheVariants.{Want}
use Rattle.schedules.specs.declared.order.TurnEnd.{TurnEnd}
use Rattle.schedules.specs.declared.order.TurnEnd.TheVariants as ends
use Rattle.step_port.specs.declared.step.Step.{Step}
use Rattle.step_port.specs.Steps.{kind_of}
use Rattle.thread_automaton.specs.Told.{Told, probed, advanced, born, lost, blocked}
use Rattle.thread_moves.specs.declared.thread.JThread.{JThread}
use Rattle.rollback_core.specs.declared.turned.Turn.{Turn}
use Rattle.rollback_core.specs.Turn.{SaysPlainly}
use Rattle.word_runs.specs.WordTurns as runs
use Rattle.word_machine.specs.Turns.{end_of, seats_after}

-- the turn comes to this, and hands nothing out
pub record ComesTo {C Pass : Type 0} (turn : Turn C Pass) (kind : ℕ) (wanted : TurnEnd) : Type 0 where
  pub end : end_of turn kind ≡ wanted
  pub seats : (seats : ℕ → Option (JThread C)) → seats_after turn seats ≡ seats

as_it_is : {C Pass : Type 0} (turn said : Turn C Pass) (kind : ℕ) (end : TurnEnd) → turn ≡ said → ComesTo said kind end → ComesTo turn kind end
as_it_is turn said kind end is comes = subst (λ turn. ComesTo turn kind end) (sym is) comes

pub plain_end : {C Pass : Type 0} (number silents : ℕ) (next : Next) (turn : Turn C Pass) (step : Step) (kind : ℕ) (tells : Told)
    → SaysPlainly number silents next turn tells → kind ≡ kind_of step → ComesTo turn kind (runs.end_of step tells)
plain_end number silents next turn step kind probed says is = as_it_is turn Turn.Probed kind _ says (record { end = ap ends.Made is; seats = λ seats. refl })
plain_end number silents (Want op) turn step kind (advanced (Some reply)) says is = as_it_is turn _ kind _ says (record { end = ap ends.Made is; seats = λ seats. refl })
plain_end number silents next turn step kind (advanced reply) says is = as_it_is turn (Turn.Advanced None) kind _ says (record { end = ap ends.Made is; seats = λ seats. refl })
plain_end number silents next turn step kind (lost v) says is = as_it_is turn (Turn.Lost v) kind _ says (record { end = refl; seats = λ seats. refl })
plain_end number silents next turn step kind (blocked why) says is = as_it_is turn (Turn.Blocked why) kind _ says (record { end = refl; seats = λ seats. refl })
plain_end number silents next turn step kind born says is = absurd says
