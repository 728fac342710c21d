-- A thread on shared words as a host of its own code: what it answers at once, and by which turns.
use Rattle.std.specs.Prelude.{◌≡◌, ℕ, ◌+◌, List}
use Rattle.op_core.specs.declared.Op.{Op}
use Rattle.op_core.specs.declared.Reply.{Reply}
use Rattle.op_core.specs.declared.Next.TheVariants.{Want}
use Rattle.op_core.specs.ThreadCode.{Code}
use Rattle.step_port.specs.declared.answer.StepAnswer.{StepAnswer}
use Rattle.step_port.specs.declared.step.Step.{Step}
use Rattle.step_port.specs.Words.{Words}
use Rattle.thread_automaton.specs.declared.Attempt.{Attempt}
use Rattle.thread_automaton.specs.declared.Attempt.TheVariants.{Begin}
use Rattle.thread_moves.specs.declared.thread.Own.{Own}
use Rattle.turn_runs.specs.Turns.{StaysReady}
use Rattle.turn_runs.specs.Own.{thread_at}
use Rattle.turn_runs.specs.HostPlaces.{HostPlace, IsBetween}
use Rattle.quick_turns.specs.Usual.{UsualTurns}

-- this stays, whatever is answered
pub record HostKeeps (old new : Own) : Type 0 where
  pub bounds : new.bounds ≡ old.bounds
  pub opening : new.opening ≡ old.opening
  pub attempt : new.attempt ≡ old.attempt
  pub lives : new.over ≡ old.over

-- Usual turns lead the thread from the local state l at one place to the local state m at another.
pub record HostLeads {S P : Type 0} (code : Code S) (stepped : P → Step → StepAnswer → P → Type 0) (words : P → Words) (saves : List S)
    (a : Attempt) (l : S) (h : HostPlace P) (c : Attempt) (m : S) (k : HostPlace P) : Type 0 where
  pub number : ℕ
  pub left : h.left ≡ k.left + number
  pub keeps : HostKeeps h.own k.own
  pub turns : UsualTurns code h.own.bounds stepped words (thread_at h.own a l saves) h.port h.own.last_kind number
      (thread_at k.own c m saves) k.port k.own.last_kind

-- so they do, wherever the code wants this operation, amid its attempt
abbrev pub HostLeadsAmid : {S P : Type 0} → Code S → (P → Step → StepAnswer → P → Type 0) → (P → Words) → Op → Attempt → HostPlace P → Attempt → HostPlace P → Type 0
HostLeadsAmid {S} code stepped words op a h c k = (l : S) (saves : List S) → code.next l ≡ Want op → HostLeads code stepped words saves a l h c l k

-- so they do, wherever the code wants this operation, up to where it has the reply
pub record HostAnswers {S P : Type 0} (code : Code S) (stepped : P → Step → StepAnswer → P → Type 0) (words : P → Words)
    (h : HostPlace P) (op : Op) (reply : Reply) (k : HostPlace P) : Type 0 where
  pub between : IsBetween k.own
  pub goes : (l : S) (saves : List S) → code.next l ≡ Want op → HostLeads code stepped words saves Begin l h Begin (code.reply l reply) k

-- nothing that is seen of the thread is changed, and no turn is made
pub record HostDeclines {P : Type 0} (h k : HostPlace P) : Type 0 where
  pub own : k.own ≡ record h.own { log = k.own.log }
  pub log : k.own.log.noted ≡ h.own.log.noted
  pub port : k.port ≡ h.port
  pub left : k.left ≡ h.left

-- the operation may be asked for: some code wants it, and what its turns ask for is so
pub record HostMayAsk {S P : Type 0} (code : Code S) (allows : P → Step → Type 0) (stepped : P → Step → StepAnswer → P → Type 0)
    (h : HostPlace P) (op : Op) : Type 0 where
  pub local : S
  pub saves : List S
  pub wants : code.next local ≡ Want op
  pub between : IsBetween h.own
  pub ready : StaysReady code h.own.bounds allows stepped (thread_at h.own Begin local saves) h.port
