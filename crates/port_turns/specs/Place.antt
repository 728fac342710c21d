-- A thread on shared words as a host of its own code: what it answers, and by which turns.
use Rattle.std.specs.Prelude.{◌≡◌, ℕ, ◌+◌, List}
use Rattle.op_core.specs.declared.Op.{Op}
use Rattle.op_core.specs.declared.Reply.{Reply}
use Rattle.op_core.specs.declared.Next.TheVariants.{Want}
use Rattle.op_core.specs.ThreadCode.{Code}
use Rattle.step_port.specs.declared.answer.StepAnswer.{StepAnswer}
use Rattle.step_port.specs.declared.step.Step.{Step}
use Rattle.thread_automaton.specs.declared.Attempt.{Attempt}
use Rattle.thread_automaton.specs.declared.Attempt.TheVariants.{Begin}
use Rattle.thread_moves.specs.declared.thread.Own.{Own}
use Rattle.turn_runs.specs.Own.{thread_at}
use Rattle.turn_runs.specs.HostPlaces.{HostPlace, IsBetween}
use Rattle.port_turns.specs.Plain.{PlainTurns, CanGoOn}

-- this stays, whatever is asked
pub record HostKeeps (old new : Own) : Type 0 where
  pub bounds : new.bounds ≡ old.bounds
  pub opening : new.opening ≡ old.opening
  pub lives : new.over ≡ old.over

-- Plain turns lead the thread from the local state l at one place to the local state m at another, amid these attempts.
pub record HostLeads {S P : Type 0} (code : Code S) (stepped : P → Step → StepAnswer → P → Type 0) (saves : List S)
    (a : Attempt) (l : S) (h : HostPlace P) (c : Attempt) (m : S) (k : HostPlace P) : Type 0 where
  pub number : ℕ
  pub left : h.left ≡ k.left + number
  pub keeps : HostKeeps h.own k.own
  pub turns : PlainTurns code h.own.bounds stepped (thread_at h.own a l saves) h.port h.own.last_kind number
      (thread_at k.own c m saves) k.port k.own.last_kind

-- so they do, wherever the code wants this operation, up to where it has the reply
pub record HostAnswers {S P : Type 0} (code : Code S) (stepped : P → Step → StepAnswer → P → Type 0)
    (h : HostPlace P) (op : Op) (reply : Reply) (k : HostPlace P) : Type 0 where
  pub between : IsBetween k.own
  pub goes : (l : S) (saves : List S) → code.next l ≡ Want op → HostLeads code stepped saves Begin l h Begin (code.reply l reply) k

-- so they do, wherever the code wants this operation, up to where its attempt isn't plain any more, or the turns are used up
abbrev pub HostStops : {S P : Type 0} → Code S → (P → Step → StepAnswer → P → Type 0) → HostPlace P → Op → HostPlace P → Type 0
HostStops {S} code stepped h op k = (l : S) (saves : List S) → code.next l ≡ Want op → HostLeads code stepped saves Begin l h k.own.attempt l k

-- the operation may be asked for: some code wants it, and what its turns ask for is so
pub record HostMayAsk {S P : Type 0} (code : Code S) (allows : P → Step → Type 0) (stepped : P → Step → StepAnswer → P → Type 0)
    (h : HostPlace P) (op : Op) : Type 0 where
  pub local : S
  pub saves : List S
  pub wants : code.next local ≡ Want op
  pub between : IsBetween h.own
  pub ready : CanGoOn code h.own.bounds allows stepped (thread_at h.own Begin local saves) h.port
