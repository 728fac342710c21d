-- How a type checker goes over the instructions of a method once (JVMS 4.10.1.5).
use Rattle.std.specs.Prelude.{◌≡◌, ℕ, suc, Option, None, Some, length, slice_get}
use Rattle.instructions.specs.declared.what.Instr.{Instr}
use Rattle.instructions.specs.declared.what.Target.{Target}
use Rattle.type_rules.specs.declared.refusal.VerifyKind.{VerifyKind}
use Rattle.type_rules.specs.Environment.{Environment, TypeFrame, entry_frame}
use Rattle.type_rules.specs.TypeFaults.{frame_fault, fault_at, frame_here}
use Rattle.type_rules.specs.TypeSafe.{falling, fallen, AreTypedBefore, IsTypeSafe, IsFirstTypeFault}

-- each rule holds at each instruction before this number, and this falls into the one of this number
pub record IsWalkedTo (env : Environment) (k : ℕ) (before : Option TypeFrame) : Type 0 where
  pub frames : ℕ → TypeFrame
  pub typed : AreTypedBefore env frames k
  pub falls : falling env frames k ≡ before

-- From the entry frame on, a walk goes on by what an instruction leaves, where no rule fails at it. At the end the method
-- is type safe, and the first rule that fails is the fault.
pub record WalksDecide (env : Environment) : Type 0 where
  pub start : IsWalkedTo env 0 (Some (entry_frame env))
  pub frame : (k : ℕ) (before : Option TypeFrame) → frame_fault env k before ≡ None → (f : TypeFrame) × (frame_here env (env.map_at k) before ≡ Some f)
  pub next : (k : ℕ) (i : Instr Target) (before : Option TypeFrame) (f : TypeFrame) → IsWalkedTo env k before → slice_get env.steps k ≡ Some i
      → fault_at env k i before ≡ None → frame_here env (env.map_at k) before ≡ Some f → IsWalkedTo env (suc k) (fallen env f i)
  pub end : (before : Option TypeFrame) → IsWalkedTo env (length env.steps) before → IsTypeSafe env
  pub fault : (k : ℕ) (i : Instr Target) (before : Option TypeFrame) (kind : VerifyKind) → IsWalkedTo env k before → slice_get env.steps k ≡ Some i
      → fault_at env k i before ≡ Some kind → IsFirstTypeFault env k kind i
