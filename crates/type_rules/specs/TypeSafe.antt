-- Methods that are type safe, and the first rule that fails in one that isn't (JVMS 4.10.1.5).
use Rattle.std.specs.Prelude.{◌≡◌, ℕ, zero, suc, ◌<◌, Option, None, Some, length, slice_get, option_and_then, if◌then◌else◌}
use Rattle.instructions.specs.declared.what.Instr.{Instr}
use Rattle.instructions.specs.declared.what.Target.{Target}
use Rattle.instructions.specs.What.{falls_through}
use Rattle.type_rules.specs.declared.refusal.VerifyKind.{VerifyKind}
use Rattle.type_rules.specs.Environment.{Environment, TypeFrame, entry_frame}
use Rattle.type_rules.specs.FrameAfter.{frame_after}
use Rattle.type_rules.specs.TypeFaults.{fault_at, frame_here}

-- what falls out of an instruction into the next one
abbrev pub fallen : Environment → TypeFrame → Instr Target → Option TypeFrame
fallen env f i = if falls_through i.what then Some (frame_after env i f) else None

-- what falls into instruction number k, where these are the frames: into the first one the entry frame
abbrev pub falling : Environment → (ℕ → TypeFrame) → ℕ → Option TypeFrame
falling env frames zero = Some (entry_frame env)
falling env frames (suc k) = option_and_then (fallen env (frames k)) (slice_get env.steps k)

-- each rule holds at instruction number k
pub record IsTypedAt (env : Environment) (frames : ℕ → TypeFrame) (k : ℕ) (i : Instr Target) : Type 0 where
  pub here : frame_here env (env.map_at k) (falling env frames k) ≡ Some (frames k)
  pub none : fault_at env k i (falling env frames k) ≡ None

-- .. and at each instruction before number n
abbrev pub AreTypedBefore : Environment → (ℕ → TypeFrame) → ℕ → Type 0
AreTypedBefore env frames n =
    (k : ℕ) (i : Instr Target) → k < n → slice_get env.steps k ≡ Some i → IsTypedAt env frames k i

-- the frames are an assignment of one frame to each instruction such that each rule holds
abbrev pub IsAssignment : Environment → (ℕ → TypeFrame) → Type 0
IsAssignment env frames = AreTypedBefore env frames (length env.steps)

abbrev pub IsTypeSafe : Environment → Type 0
IsTypeSafe env = (frames : ℕ → TypeFrame) × IsAssignment env frames

-- the first rule that fails is this one, at instruction number k: there are frames such that each rule holds before it
pub record IsFirstTypeFault (env : Environment) (k : ℕ) (kind : VerifyKind) (i : Instr Target) : Type 0 where
  pub frames : ℕ → TypeFrame
  pub there : slice_get env.steps k ≡ Some i
  pub before : AreTypedBefore env frames k
  pub fault : fault_at env k i (falling env frames k) ≡ Some kind

-- ---- laws

-- where a rule fails first, no assignment is there, and no other rule fails first
pub record FaultsRefute (env : Environment) : Type 0 where
  pub safe : (k : ℕ) (kind : VerifyKind) (i : Instr Target) → IsFirstTypeFault env k kind i → ¬ IsTypeSafe env
  pub place : (k l : ℕ) (kind other : VerifyKind) (i j : Instr Target) → IsFirstTypeFault env k kind i → IsFirstTypeFault env l other j → k ≡ l
  pub kind : (k l : ℕ) (kind other : VerifyKind) (i j : Instr Target) → IsFirstTypeFault env k kind i → IsFirstTypeFault env l other j → kind ≡ other
