-- What `advance` answers for one thread, and what it leaves.
use Rattle.std.specs.Prelude.{◌≡◌, ℕ, ◌+◌, ◌<◌, ◌≤◌, ◌⊎◌}
use Rattle.op_core.specs.declared.Op.{Op}
use Rattle.op_core.specs.declared.Op.TheVariants.{New, Enter, Start}
use Rattle.op_core.specs.declared.Reply.{Reply}
use Rattle.op_core.specs.declared.Reply.TheVariants.{Made, Number}
use Rattle.op_core.specs.declared.Next.TheVariants.{Want}
use Rattle.op_core.specs.declared.Next.TheVariants as next
use Rattle.op_core.specs.declared.Event.{Event}
use Rattle.op_core.specs.declared.Limits.{Limits}
use Rattle.op_core.specs.declared.Limit.{Limit}
use Rattle.op_core.specs.declared.Limit.TheVariants.{Heap, Threads, Frames, Depth}
use Rattle.op_core.specs.ThreadCode.{Code}
use Rattle.op_core.specs.OrdinaryState.{IsThere, IsOwner, count_of, live, HasEnded, OrdinaryState}
use Rattle.op_core.specs.OrdinaryStep.{CanStep, MayAnswer, IsFreeNumber, IsFreeReference, IsStep}
pub use Rattle.machine_state.specs.Machine.{IsSilentTo, IsOutOfFrames}
use Rattle.ordinary_machine.specs.declared.advance.Advance.{Advance}
use Rattle.ordinary_machine.specs.declared.advance.Advance.TheVariants.{Silent, Step, Waits, Halts, Ended, Spent}
use Rattle.ordinary_machine.specs.declared.advance.OpOutcome.{OpOutcome}
use Rattle.ordinary_machine.specs.declared.advance.OpOutcome.TheVariants.{Replied}
use Rattle.ordinary_machine.specs.declared.advance.OpOutcome.TheVariants as outcome
use Rattle.ordinary_machine.specs.declared.advance.Headway.{Headway}
use Rattle.ordinary_machine.specs.declared.advance.Headway.TheVariants.{Blocked}
use Rattle.ordinary_machine.specs.declared.advance.Headway.TheVariants as headway
use Rattle.ordinary_machine.specs.Machine.{Machine, moved, HasBegun}

-- the object is there and has started no thread, and all thread numbers have been drawn
abbrev pub IsOutOfNumbers : {S : Type 0} → Machine S → ℕ → Type 0
IsOutOfNumbers m r = IsThere m.now.objects r × (m.now.starts r ≡ 0) × ((n : ℕ) → IsFreeNumber m.now.threads n → ⊥)

-- the operation, wanted at the local state l, meets the limit of the heap, of thread numbers, or of a monitor's depth
abbrev pub OpMeets : {S : Type 0} → Code S → Machine S → ℕ → S → Limits → Op → Limit → Type 0
OpMeets code m t l limits (New c n) Heap = limits.heap < m.taken + (2 + code.words l c n)
OpMeets code m t l limits (Start r p) Threads = IsOutOfNumbers m r
OpMeets code m t l limits (Enter r) Depth = IsOwner t (m.now.monitors r) × (65535 ≤ count_of (m.now.monitors r))
OpMeets _ _ _ _ _ _ _ = ⊥

-- of the answers that the definition leaves open, the one that is given: a new object's reference is the
-- first one and all words taken since, a new thread's number is the lowest free one
abbrev pub IsChosen : {S : Type 0} → Machine S → Op → Reply → Type 0
IsChosen m (New c n) (Made r) = r ≡ m.first + m.taken
IsChosen m (Start r p) (Number n) = (k : ℕ) → IsFreeNumber m.now.threads k → n ≤ k
IsChosen _ _ _ = Unit {0}

-- no new object can have that reference
abbrev pub LacksReference : {S : Type 0} → Machine S → Op → Type 0
LacksReference m (New c n) = IsFreeReference m.now.objects (m.first + m.taken) → ⊥
LacksReference _ _ = ⊥

-- the wanted operation has a step, which is made
pub record IsAnswered {S : Type 0} (code : Code S) (m : Machine S) (t : ℕ) (limits : Limits) (e : Event) (new : Machine S) : Type 0 where
  pub place : S
  pub begun : m.now.threads t ≡ live place
  pub mine : e.thread ≡ t
  pub silent : e.silent ≡ m.silents t
  pub step : IsStep code m.now t place e.op e.reply
  pub chosen : IsChosen m e.op e.reply
  pub within : (limit : Limit) → OpMeets code m t place limits e.op limit → ⊥
  pub leads : new ≡ moved code m t place e.op e.reply

-- the wanted operation has no step, for another cause than the number of threads
pub record IsWaiting {S : Type 0} (code : Code S) (m : Machine S) (t : ℕ) (limits : Limits) : Type 0 where
  pub place : S
  pub op : Op
  pub begun : m.now.threads t ≡ live place
  pub wanted : code.next place ≡ Want op
  pub cannot : CanStep m.now t op → ⊥
  pub within : (limit : Limit) → OpMeets code m t place limits op limit → ⊥

-- the thread hasn't ended, and its code is at its end
pub record HasHalted {S : Type 0} (code : Code S) (m : Machine S) (t : ℕ) : Type 0 where
  pub place : S
  pub begun : m.now.threads t ≡ live place
  pub over : code.next place ≡ next.Ended

abbrev pub IsOver : {S : Type 0} → Code S → Machine S → ℕ → Type 0
IsOver code m t = HasEnded (m.now.threads t) ⊎ HasHalted code m t

-- the wanted operation meets the limit
pub record IsAtLimit {S : Type 0} (code : Code S) (m : Machine S) (t : ℕ) (limits : Limits) (limit : Limit) : Type 0 where
  pub place : S
  pub op : Op
  pub begun : m.now.threads t ≡ live place
  pub wanted : code.next place ≡ Want op
  pub meets : OpMeets code m t place limits op limit

abbrev pub Meets : {S : Type 0} → Code S → Machine S → ℕ → Limits → Limit → Type 0
Meets code m t limits Frames = IsOutOfFrames code m t
Meets code m t limits limit = IsAtLimit code m t limits limit

-- Where each answer comes, and what the machine is after it.
abbrev pub Advances : {S : Type 0} → Code S → Machine S → ℕ → Limits → Advance → Machine S → Type 0
Advances code m t limits Silent new = IsSilentTo code m t new
Advances code m t limits (Step e) new = IsAnswered code m t limits e new
Advances code m t limits Waits new = IsWaiting code m t limits × (new ≡ m)
Advances code m t limits Halts new = HasHalted code m t × (new ≡ m)
Advances code m t limits Ended new = HasEnded (m.now.threads t) × (new ≡ m)
Advances code m t limits (Spent limit) new = Meets code m t limits limit × (new ≡ m)

-- the thread has begun, and whatever the limits are, neither Waits nor Halts nor Ended comes for it
pub record MayAdvance {S : Type 0} (code : Code S) (m : Machine S) (t : ℕ) : Type 0 where
  pub begun : HasBegun (m.now.threads t)
  pub goes_on : (limits : Limits) → IsWaiting code m t limits → ⊥
  pub more : IsOver code m t → ⊥

-- the operation asks for a thread number where all have been drawn
abbrev pub LacksNumber : {S : Type 0} → Machine S → Op → Type 0
LacksNumber m (Start r p) = IsOutOfNumbers m r
LacksNumber _ _ = ⊥

-- it has a step, with this reply
abbrev pub IsGiven : {S : Type 0} → OrdinaryState S → ℕ → Op → Reply → Type 0
IsGiven s t op reply = CanStep s t op × MayAnswer s t op reply

-- what `advance` answers where this came of the operation that thread t wants, n silent steps after its last event
abbrev pub answer_of : ℕ → ℕ → Op → OpOutcome → Advance
answer_of t n op (Replied reply) = Step (record { thread = t; silent = n; op = op; reply = reply })
answer_of t n op outcome.Waits = Waits
answer_of t n op (outcome.Spent limit) = Spent limit

-- whatever the limits are, this comes of the operation that thread t wants
abbrev pub MakesWanted : {S : Type 0} → Code S → Machine S → ℕ → Op → OpOutcome → Machine S → Type 0
MakesWanted code m t op outcome new = (limits : Limits) → Advances code m t limits (answer_of t (m.silents t) op outcome) new

-- an answer of `advance`, with no word of the event
abbrev pub headway_of : Advance → Headway
headway_of Silent = headway.Made
headway_of (Step e) = headway.Made
headway_of Waits = Blocked
headway_of Halts = Blocked
headway_of Ended = Blocked
headway_of (Spent limit) = headway.Spent limit

-- the step of an answer that `advance` may give, with no word of the event
pub record MakesHeadway {S : Type 0} (code : Code S) (m : Machine S) (t : ℕ) (limits : Limits) (headway : Headway) (new : Machine S) : Type 0 where
  pub answer : Advance
  pub advances : Advances code m t limits answer new
  pub told : headway ≡ headway_of answer
