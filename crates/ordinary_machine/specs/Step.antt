-- What the machine makes of an event of a journal.
use Rattle.std.specs.Prelude.{◌≡◌, ℕ, Some, IfSome, List, [], ◌∷◌, ◌++◌, map, take, slice_get}
use Rattle.op_core.specs.declared.Line.TheVariants.{Empty}
use Rattle.op_core.specs.declared.Op.{Op}
use Rattle.op_core.specs.declared.Op.TheVariants.{Print}
use Rattle.op_core.specs.declared.Next.TheVariants.{Want}
use Rattle.op_core.specs.declared.Event.{Event}
use Rattle.op_core.specs.ThreadCode.{Code, quiet_steps}
use Rattle.op_core.specs.OrdinaryState.{OrdinaryState, live}
use Rattle.op_core.specs.OrdinaryStep.{CanStep, MayAnswer}
use Rattle.op_core.specs.Execution.{Leads, printed}
use Rattle.ordinary_machine.specs.declared.step.StepRefusal.{StepRefusal}
use Rattle.ordinary_machine.specs.declared.step.StepRefusal.TheVariants.{NoThread, NotNext, NotEnabled, WrongReply, NoMemory}
pub use Rattle.machine_state.specs.Machine.{IsLive}
use Rattle.ordinary_machine.specs.Machine.{Machine, moved}

-- the operation with no text in its line, if it prints one: an event needn't name the text
abbrev pub without_line : Op → Op
without_line (Print line) = Print Empty
without_line op = op

-- after exactly the event's number of silent steps, none of which makes a 1,025th frame, its thread
-- is at l and wants the operation, which is that of the event except for a printed line
pub record IsNext {S : Type 0} (code : Code S) (s : OrdinaryState S) (e : Event) (l : S) (op : Op) : Type 0 where
  pub from : S
  pub begun : s.threads e.thread ≡ live from
  pub quiet : quiet_steps code e.silent from ≡ Some l
  pub wanted : code.next l ≡ Want op
  pub same : without_line op ≡ without_line e.op

-- the event is a step, and leads from one machine to the other
pub record IsStepTo {S : Type 0} (code : Code S) (m : Machine S) (e : Event) (new : Machine S) : Type 0 where
  pub place : S
  pub op : Op
  pub next : IsNext code m.now e place op
  pub can : CanStep m.now e.thread op
  pub answered : MayAnswer m.now e.thread op e.reply
  pub leads : new ≡ moved code m e.thread place op e.reply

-- the thread is live, and doesn't want the event's operation there
pub record IsNotNext {S : Type 0} (code : Code S) (s : OrdinaryState S) (e : Event) : Type 0 where
  pub is_live : IsLive s e.thread
  pub none : (l : S) (op : Op) → IsNext code s e l op → ⊥

-- the thread wants the event's operation, and it has no step
pub record IsNotEnabled {S : Type 0} (code : Code S) (s : OrdinaryState S) (e : Event) : Type 0 where
  pub place : S
  pub op : Op
  pub next : IsNext code s e place op
  pub cannot : CanStep s e.thread op → ⊥

-- it has a step, and none with this reply
pub record IsWrongReply {S : Type 0} (code : Code S) (s : OrdinaryState S) (e : Event) : Type 0 where
  pub place : S
  pub op : Op
  pub next : IsNext code s e place op
  pub can : CanStep s e.thread op
  pub wrong : MayAnswer s e.thread op e.reply → ⊥

-- where each refusal comes; each rules out the ones before it
abbrev pub Refuses : {S : Type 0} → Code S → OrdinaryState S → Event → StepRefusal → Type 0
Refuses code s e NoThread = IsLive s e.thread → ⊥
Refuses code s e NotNext = IsNotNext code s e
Refuses code s e NotEnabled = IsNotEnabled code s e
Refuses code s e WrongReply = IsWrongReply code s e
Refuses code s e NoMemory = Unit {0}

-- the events come one after another, each a step
abbrev pub Replays : {S : Type 0} → Code S → Machine S → List Event → Machine S → Type 0
Replays code m [] last = last ≡ m
Replays {S} code m (e ∷ es) last = (next : Machine S) × IsStepTo code m e next × Replays code next es last

-- the first `place` events are steps one after another, and the next event is refused
pub record IsRefusedAt {S : Type 0} (code : Code S) (m : Machine S) (es : List Event) (place : ℕ) (why : StepRefusal) : Type 0 where
  pub middle : Machine S
  pub before : Replays code m (take place es) middle
  pub refused : IfSome (slice_get es place) (λ e. Refuses code middle.now e why)

abbrev pub event_without_line : Event → Event
event_without_line e = record e { op = without_line e.op }

-- The events but for their printed lines, with the threads' own lines, are an execution, which leads
-- from one state to the other and prints what the lines grew by.
pub record IsReplayed {S : Type 0} (code : Code S) (s : OrdinaryState S) (events : List Event) (last : OrdinaryState S) : Type 0 where
  pub own : List Event
  pub same : map event_without_line own ≡ map event_without_line events
  pub leads : Leads code s own last
  pub lines : last.lines ≡ s.lines ++ printed own
