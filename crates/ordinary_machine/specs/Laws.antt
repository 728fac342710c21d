-- What is proved of the definitions, for all thread codes.
use Rattle.std.specs.Prelude.{◌≡◌, ◌≢◌, ◌≤◌, ◌+◌, ◌^◌, ℕ, zero, suc, Some, List, [], ◌∷◌, ◌++◌}
use Rattle.op_core.specs.declared.Op.TheVariants.{New}
use Rattle.op_core.specs.declared.Event.{Event}
use Rattle.op_core.specs.declared.Limits.{Limits}
use Rattle.op_core.specs.ThreadCode.{Code, quiet_steps}
use Rattle.op_core.specs.OrdinaryState.{Thread, unused, live, ended, OrdinaryState}
use Rattle.op_core.specs.Execution.{Leads, printed, EndsStuck}
use Rattle.fixed_objects.specs.declared.Opening.{Opening}
use Rattle.fixed_objects.specs.Opening.{LiesBelowFirst}
use Rattle.ordinary_machine.specs.declared.advance.Advance.{Advance}
use Rattle.ordinary_machine.specs.declared.advance.Advance.TheVariants.{Silent, Step, Waits, Halts, Ended, Spent}
use Rattle.ordinary_machine.specs.declared.step.StepRefusal.{StepRefusal}
use Rattle.ordinary_machine.specs.declared.step.StepRefusal.TheVariants.{NoMemory}
use Rattle.ordinary_machine.specs.Machine.{Machine, RunsSilently}
use Rattle.ordinary_machine.specs.Start.{start_of}
use Rattle.ordinary_machine.specs.Step.{IsLive, IsStepTo, Refuses, Replays, IsReplayed}
use Rattle.ordinary_machine.specs.Advance.{Advances, LacksReference, HasHalted, MayAdvance}

-- at most one thing comes of an event, apart from memory running out: a step that leads to one machine, or
-- one cause of refusal
pub record HasOneOutcome {S : Type 0} (code : Code S) (m : Machine S) (e : Event) : Type 0 where
  pub one_machine : (new last : Machine S) → IsStepTo code m e new → IsStepTo code m e last → last ≡ new
  pub no_refusal : (new : Machine S) (why : StepRefusal) → IsStepTo code m e new → Refuses code m.now e why → why ≡ NoMemory
  pub one_refusal : (why other : StepRefusal) → why ≢ NoMemory → other ≢ NoMemory → Refuses code m.now e why → Refuses code m.now e other → other ≡ why

abbrev pub EventsHaveOneOutcome : {S : Type 0} → Code S → Type 0
EventsHaveOneOutcome {S} code = (m : Machine S) (e : Event) → HasOneOutcome code m e

-- events that are steps one after another are an execution, with their threads' own lines
abbrev pub ReplaysAreExecutions : {S : Type 0} → Code S → Type 0
ReplaysAreExecutions {S} code = (m last : Machine S) (es : List Event) → Replays code m es last → IsReplayed code m.now es last.now

-- where one answer of `advance` comes, no other does, and it leaves one machine
abbrev pub AdvancesHaveOneAnswer : {S : Type 0} → Code S → Type 0
AdvancesHaveOneAnswer {S} code = (m new last : Machine S) (t : ℕ) (limits : Limits) (a b : Advance)
    → Advances code m t limits a new → Advances code m t limits b last → (b ≡ a) × (last ≡ new)

-- one call of `advance`: for which thread, under which limits, and what it answered
pub record Call : Type 0 where
  pub thread : ℕ
  pub limits : Limits
  pub answer : Advance

-- the calls come one after another
abbrev pub Runs : {S : Type 0} → Code S → Machine S → List Call → Machine S → Type 0
Runs code m [] last = last ≡ m
Runs {S} code m (call ∷ calls) last = (next : Machine S) × Advances code m call.thread call.limits call.answer next × Runs code next calls last

abbrev pub event_of : Advance → List Event
event_of (Step e) = e ∷ []
event_of Silent = []
event_of Waits = []
event_of Halts = []
event_of Ended = []
event_of (Spent limit) = []

-- the events that the calls answered, in order
abbrev pub events_of : List Call → List Event
events_of [] = []
events_of (call ∷ calls) = event_of call.answer ++ events_of calls

-- a thread is n silent steps further
abbrev pub StandsFurther : {S : Type 0} → Code S → Thread S → ℕ → Thread S → Type 0
StandsFurther code (live from) n (live l) = quiet_steps code n from ≡ Some l
StandsFurther code unused n unused = Unit {0}
StandsFurther code (ended x) n (ended y) = y ≡ x
StandsFurther _ _ _ _ = ⊥

-- the machine has the state, but for the silent steps that it counts since each thread's last event
pub record IsFurther {S : Type 0} (code : Code S) (s : OrdinaryState S) (m : Machine S) : Type 0 where
  pub shared : record m.now { threads = s.threads } ≡ s
  pub threads : (t : ℕ) → StandsFurther code (s.threads t) (m.silents t) (m.now.threads t)

-- From a machine that counts no silent steps, the events that `advance` answers are an execution. It
-- leads to the machine's state, but for silent steps since then, and prints what its lines grew by.
pub record IsExecuted {S : Type 0} (code : Code S) (m : Machine S) (calls : List Call) (last : Machine S) : Type 0 where
  pub state : OrdinaryState S
  pub leads : Leads code m.now (events_of calls) state
  pub further : IsFurther code state last
  pub lines : last.now.lines ≡ m.now.lines ++ printed (events_of calls)

abbrev pub AdvancesAreExecutions : {S : Type 0} → Code S → Type 0
AdvancesAreExecutions {S} code = (m last : Machine S) (calls : List Call)
    → m.silents ≡ (λ _. 0) → Runs code m calls last → IsExecuted code m calls last

-- n calls of `advance` that answer Silent
abbrev pub silent_calls : ℕ → Limits → ℕ → List Call
silent_calls t limits zero = []
silent_calls t limits (suc n) = silent_calls t limits n ++ record { thread = t; limits = limits; answer = Silent } ∷ []

-- a run of n silent steps is n answers Silent of `advance`
abbrev pub RunsAreAdvances : {S : Type 0} → Code S → Type 0
RunsAreAdvances {S} code = (m new : Machine S) (t n : ℕ) (limits : Limits) → RunsSilently code m t n new → Runs code m (silent_calls t limits n) new

-- calls go on after other calls, and their events come after those of the earlier calls; silent calls have none
pub record CallsGoOn {S : Type 0} (code : Code S) : Type 0 where
  pub calls : (m middle last : Machine S) (before behind : List Call) → Runs code m before middle → Runs code middle behind last → Runs code m (before ++ behind) last
  pub events : (before behind : List Call) → events_of (before ++ behind) ≡ events_of before ++ events_of behind
  pub silent : (t n : ℕ) (limits : Limits) → events_of (silent_calls t limits n) ≡ []

-- each execution from the machine's state is replayed, to its last state
abbrev pub ExecutionsAreReplayed : {S : Type 0} → Code S → Type 0
ExecutionsAreReplayed {S} code = (m : Machine S) (es : List Event) (last : OrdinaryState S) → Leads code m.now es last
    → (new : Machine S) × Replays code m es new × (new.now ≡ last)

-- some thread hasn't ended, none may advance, and none is at its code's end
pub record IsStandstill {S : Type 0} (code : Code S) (m : Machine S) : Type 0 where
  pub some_live : (t : ℕ) × IsLive m.now t
  pub none_advances : (t : ℕ) → MayAdvance code m t → ⊥
  pub none_halts : (t : ℕ) → HasHalted code m t → ⊥

-- where calls from a machine that counts no silent steps come to a standstill, their events end stuck
abbrev pub StandstillsAreStuck : {S : Type 0} → Code S → Type 0
StandstillsAreStuck {S} code = (m last : Machine S) (calls : List Call)
    → m.silents ≡ (λ _. 0) → Runs code m calls last → IsStandstill code last → EndsStuck code m.now (events_of calls)

-- calls of `advance` from the start of a program on take no reference that the next new object is to have:
-- it lacks one only past the last number
abbrev pub ReferencesAreLeft : {S : Type 0} → Code S → Type 0
ReferencesAreLeft {S} code = (opening : Opening) (l : S) (calls : List Call) (last : Machine S) → LiesBelowFirst opening
    → Runs code (start_of opening l) calls last → (c n : ℕ) → LacksReference last (New c n) → 2 ^ 32 ≤ last.first + last.taken
