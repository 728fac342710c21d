-- What a turn of a thread in memory asks for, and what it makes.
use Rattle.std.specs.Prelude.{◌≡◌, ℕ, Option, None, Some, List}
use Rattle.op_core.specs.ThreadCode.{Code}
use Rattle.op_core.specs.OrdinaryState.{set_at}
use Rattle.schedules.specs.declared.order.TurnEnd.{TurnEnd}
use Rattle.schedules.specs.declared.order.TurnEnd.TheVariants as ends
use Rattle.step_port.specs.declared.answer.StepAnswer.{StepAnswer}
use Rattle.step_port.specs.declared.step.Step.{Step}
use Rattle.thread_automaton.specs.declared.Bounds.{Bounds}
use Rattle.thread_automaton.specs.declared.Move.TheVariants.{Make}
use Rattle.thread_automaton.specs.ThreadState.{ThreadState}
use Rattle.thread_automaton.specs.NextMove.{next_move}
use Rattle.plain_words.specs.declared.plain.PlainWords.{PlainWords}
use Rattle.plain_words.specs.Table.{MayStep, Stepped, Handed}
use Rattle.thread_moves.specs.declared.thread.JThread.{JThread}
use Rattle.rollback_core.specs.declared.turned.Turn.{Turn}
use Rattle.rollback_core.specs.declared.turned.Turn.TheVariants.{Silent, Born, Lost, Blocked, Ended, Spent}
use Rattle.thread_moves.specs.Thread.{CanBeAsked}
use Rattle.thread_moves.specs.Change.{NamesThread}
use Rattle.rollback_core.specs.Turn.{Turned, kind_made}
use Rattle.word_runs.specs.WordTurns.{Progress, word_turns}
use Rattle.word_machine.specs.Machine.{IsCoreOf}
use Rattle.word_machine.specs.declared.turning.Came.{Came}

-- what a turn comes to for a schedule, where the step that it made has this kind
abbrev pub end_of : {C Pass : Type 0} → Turn C Pass → ℕ → TurnEnd
end_of Silent kind = ends.Other
end_of (Lost v) kind = ends.Other
end_of (Blocked why) kind = ends.Blocked
end_of (Ended x) kind = ends.Blocked
end_of (Spent limit) kind = ends.Spent limit
end_of turn kind = ends.Made kind

-- the thread can have a turn on these words: what it wants can be asked for, its step can be made, and a start word that it
-- loads names a thread
pub record CanTurnOn {S : Type 0} (code : Code S) (b : Bounds) (words : PlainWords) (th : ThreadState S) : Type 0 where
  pub asked : CanBeAsked code th.local (code.next th.local)
  pub may : (step : Step) → next_move code b th ≡ Make step → MayStep words step
  pub names : (step : Step) (a : StepAnswer) (y : PlainWords) → next_move code b th ≡ Make step → Stepped words step a y → NamesThread step a

-- the thread x made a turn on these words, and is then y
pub record TurnMade {C S Pass : Type 0} (code : Code S) (meant : JThread C → ThreadState S) (words : PlainWords) (x : JThread C) (turn : Turn C Pass) (kind : ℕ) (new : PlainWords) (y : JThread C) : Type 0 where
  pub turned : Turned meant code x.own.bounds (meant x) (meant y) (λ step a. Stepped words step a new) (λ step pass. Handed words step new) (new ≡ words) turn (next_move code x.own.bounds (meant x))
  pub bounds : y.own.bounds ≡ x.own.bounds
  pub is_kind : kind ≡ kind_made (next_move code x.own.bounds (meant x))

-- so the thread at a place did, if one is there; else nothing changes
abbrev pub TurnsAt : {C S : Type 0} → Code S → (JThread C → ThreadState S) → PlainWords → Option (JThread C) → Option (Came C) → PlainWords → Option (JThread C) → Type 0
TurnsAt {C} code meant words None came new y = (came ≡ None) × (new ≡ words) × (y ≡ None)
TurnsAt {C} code meant words (Some x) came new y = (made : Came C) × (z : JThread C) × (came ≡ Some made) × (y ≡ Some z) × TurnMade code meant words x made.turn made.kind new z

-- a thread that is then there was there, with the same bounds
abbrev pub KeepsBounds : {C : Type 0} → Option (JThread C) → Option (JThread C) → Type 0
KeepsBounds {C} old next = (y : JThread C) → next ≡ Some y → (x : JThread C) × (old ≡ Some x) × (y.own.bounds ≡ x.own.bounds)

-- a thread that the turn handed out has these bounds
abbrev pub HandsOutWithin : {C Pass : Type 0} → Bounds → Turn C Pass → Type 0
HandsOutWithin b (Born child pass) = child.value.own.bounds ≡ b
HandsOutWithin b turn = Unit {0}

-- the threads once the one that a turn handed out is there, if it handed one out
abbrev pub seats_after : {C Pass : Type 0} → Turn C Pass → (ℕ → Option (JThread C)) → ℕ → Option (JThread C)
seats_after (Born child pass) seats = set_at seats child.value.own.number (Some child.value)
seats_after turn seats = seats

-- From each place of a run whose core is in memory, a turn of thread t comes to this, and leads to one whose core is in memory
-- then.
abbrev pub GivesTurn : {C S : Type 0} → Code S → (JThread C → ThreadState S) → Bounds → PlainWords → List (Option (JThread C)) → ℕ → TurnEnd → PlainWords → List (Option (JThread C)) → Type 0
GivesTurn {C} {S} code meant b words places t end new placed = (r : Progress S) → IsCoreOf meant words places r.core
    → (next : Progress S) × (word_turns code b).gives r t end next × IsCoreOf meant new placed next.core
