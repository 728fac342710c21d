-- Threads on shared words that are given turns one after another. A turn makes one move.
use Rattle.std.specs.Prelude.{◌≡◌, ℕ, ◌+◌, ◌&&◌, Bool, false, true, not, Option, None, Some, List, [], ◌∷◌, ◌++◌, length, nat_le, if◌then◌else◌}
use Rattle.op_core.specs.declared.Limit.TheVariants.{Frames, Trace}
use Rattle.op_core.specs.declared.Next.TheVariants.{Want}
use Rattle.op_core.specs.declared.Op.TheVariants.{End}
use Rattle.op_core.specs.ThreadCode.{Code, quiet_step}
use Rattle.op_core.specs.OrdinaryState.{set_at}
use Rattle.schedules.specs.declared.order.TurnEnd.{TurnEnd}
use Rattle.schedules.specs.declared.order.TurnEnd.TheVariants as ends
use Rattle.schedules.specs.Run.{TurnSystem}
use Rattle.step_port.specs.declared.answer.StepAnswer.{StepAnswer}
use Rattle.step_port.specs.declared.step.Step.{Step}
use Rattle.step_port.specs.declared.step.Step.TheVariants.{MarkUndone}
use Rattle.step_port.specs.Steps.{kind_of}
use Rattle.step_port.specs.Words.{answer_of}
use Rattle.thread_automaton.specs.declared.Bounds.{Bounds}
use Rattle.thread_automaton.specs.declared.Move.{Move}
use Rattle.thread_automaton.specs.declared.Move.TheVariants.{Over, Quiet, Stop, Make}
use Rattle.thread_automaton.specs.ThreadState.{ThreadState}
use Rattle.thread_automaton.specs.NextMove.{next_move}
use Rattle.thread_automaton.specs.Told.{Told, advanced, blocked, lost, after_quiet, told}
use Rattle.core_runs.specs.Cores.{Core, core_after}
use Rattle.core_runs.specs.Acts.{Act, quiet, did, mover}
use Rattle.word_runs.specs.Enabled.{is_enabled}

-- How far a run has come: the acts so far, where they lead, how many events and undoings were made, and whether a journal is kept.
pub record Progress (S : Type 0) : Type 0 where
  pub acts : List Act
  pub core : Core S
  pub shown : ℕ
  pub keeps : Bool

-- the events and undoings that a journal can have
abbrev pub most_shown : ℕ
most_shown = 4194304

-- what a turn comes to for a schedule that made this step and reports this
abbrev pub end_of : Step → Told → TurnEnd
end_of step (lost v) = ends.Other
end_of step (blocked why) = ends.Blocked
end_of step other = ends.Made (kind_of step)

-- an event, and an undoing, count against the limit of a journal
abbrev pub counts_for : Step → Told → ℕ
counts_for (MarkUndone s w) told = 1
counts_for step (advanced (Some reply)) = 1
counts_for step told = 0

-- after a step of thread t, which was th
abbrev pub after_step : {S : Type 0} → Code S → Bounds → Progress S → ℕ → ThreadState S → Step → StepAnswer → Progress S
after_step code b r t th step answer = record {
  acts = r.acts ++ did t step answer ∷ [];
  core = core_after code b (length r.acts) r.core t th step answer;
  shown = r.shown + counts_for step (told code b th step answer);
  keeps = r.keeps;
}

-- after its silent step
abbrev pub after_silent : {S : Type 0} → Progress S → ℕ → ThreadState S → S → Progress S
after_silent r t th l = record {
  acts = r.acts ++ quiet t ∷ [];
  core = record r.core { threads = set_at r.core.threads t (Some (after_quiet th l)) };
  shown = r.shown;
  keeps = r.keeps;
}

-- the silent step is made, unless it would make a 1,025th frame
abbrev pub GivesQuiet : {S : Type 0} → Progress S → ℕ → ThreadState S → Option S → TurnEnd → Progress S → Type 0
GivesQuiet r t th (Some l) end new = (end ≡ ends.Other) × (new ≡ after_silent r t th l)
GivesQuiet r t th None end new = (end ≡ ends.Spent Frames) × (new ≡ r)

-- A turn of thread t, which is th, makes this move, comes to this for the schedule, and leads there. A turn that meets a limit
-- leaves all as it is, and so does one of a thread that is over, which no schedule gives.
abbrev pub GivesBy : {S : Type 0} → Code S → Bounds → Progress S → ℕ → ThreadState S → Move → TurnEnd → Progress S → Type 0
GivesBy code b r t th Over end new = (end ≡ ends.Blocked) × (new ≡ r)
GivesBy code b r t th (Stop limit) end new = (end ≡ ends.Spent limit) × (new ≡ r)
GivesBy code b r t th Quiet end new = GivesQuiet r t th (quiet_step code th.local) end new
GivesBy code b r t th (Make step) end new =
    (end ≡ end_of step (told code b th step (answer_of r.core.words step))) × (new ≡ after_step code b r t th step (answer_of r.core.words step))

abbrev pub is_live : {S : Type 0} → Option (ThreadState S) → Bool
is_live None = false
is_live (Some th) = not th.over

-- a thread that has ended wanted this end
abbrev pub EndedBy : {S : Type 0} → Code S → Option ℕ → Option (ThreadState S) → Type 0
EndedBy code x None = ⊥
EndedBy code x (Some th) = (th.over ≡ true) × (code.next th.local ≡ Want (End x))

abbrev pub IsEnabledIn : {S : Type 0} → Code S → Progress S → Option (ThreadState S) → Type 0
IsEnabledIn code r None = ⊥
IsEnabledIn code r (Some th) = is_enabled code r.core.words th ≡ true

-- the thread of the last act, or 0
abbrev pub last_mover : List Act → ℕ
last_mover [] = 0
last_mover (act ∷ []) = mover (Some act)
last_mover (act ∷ other ∷ acts) = last_mover (other ∷ acts)

-- threads on shared words give turns; a journal that is kept is full with its last event
abbrev pub word_turns : {S : Type 0} → Code S → Bounds → TurnSystem (Progress S)
word_turns {S} code b = record {
  live = λ r t. is_live (r.core.threads t);
  enabled = λ r t. IsEnabledIn code r (r.core.threads t);
  ended = λ r t x. EndedBy code x (r.core.threads t);
  gives = λ r t end new. (th : ThreadState S) × (r.core.threads t ≡ Some th) × GivesBy code b r t th (next_move code b th) end new;
  stopped = λ r. if r.keeps && nat_le most_shown r.shown then Some (last_mover r.acts, Trace) else None;
}
