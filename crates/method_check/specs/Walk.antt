-- A walk over the instructions of a method.
use Rattle.std.specs.Prelude.{◌≡◌, ℕ, Option, Some, IfSome, slice_get}
use Rattle.instructions.specs.declared.what.Instr.{Instr}
use Rattle.instructions.specs.declared.what.Target.{Target}
use Rattle.link_types.specs.declared.operands.Operand.{Operand}
use Rattle.type_rules.specs.Environment.{Environment, TypeFrame}
use Rattle.type_rules.specs.TypeFaults.{frame_here}
use Rattle.type_rules.specs.TypeSafe.{fallen}
use Rattle.typing_frames.specs.declared.stores.FrameStores.{FrameStores}
use Rattle.typing_frames.specs.Frames.{IsFrame, StoresRemember}
use Rattle.map_frames.specs.Here.{IsEntryOf}
use Rattle.step_frames.specs.Arrays.{MakesArray}
use Rattle.handler_frames.specs.Methods.{AreHandlersOf}
use Rattle.handler_frames.specs.Known.{FitsStores, KnowsHandlers}
use Rattle.method_check.specs.declared.walk.WalkedMethod.{WalkedMethod}
use Rattle.method_check.specs.declared.walk.Walk.{Walk}

-- the stores have room for what the method may have, and what they remember of comparisons is so
pub record AreStoresOf (env : Environment) (stores : FrameStores) : Type 0 where
  pub locals : env.max_locals ≡ stores.locals.most
  pub stacks : env.max_stack ≡ stores.stacks.most
  pub remembered : StoresRemember env.hierarchy stores

-- what a walk reads is of the environment, in these stores
pub record IsWalked (env : Environment) (operands : ℕ → Operand) (method : WalkedMethod) (stores : FrameStores) : Type 0 where
  pub begins : IsEntryOf env method.begins.now
  pub steps : env.steps ≡ method.steps.now
  pub handlers : AreHandlersOf env stores operands method.handlers
  pub arrays : (k : ℕ) (i : Instr Target) → slice_get env.steps k ≡ Some i → MakesArray env i.what
  pub room : AreStoresOf env stores

-- a walk has come to instruction number k
pub record HasComeTo (env : Environment) (walk : Walk) (k : ℕ) : Type 0 where
  pub fits : FitsStores env.hierarchy walk.stores walk.handlers
  pub knows : KnowsHandlers walk.stores walk.handlers env k
  pub before : IfSome walk.before (λ f. IsFrame walk.stores f)

-- what falls out of an instruction into which this fell
pub record FallsOn (env : Environment) (k : ℕ) (i : Instr Target) (before next : Option TypeFrame) : Type 0 where
  pub frame : TypeFrame
  pub here : frame_here env (env.map_at k) before ≡ Some frame
  pub falls : next ≡ fallen env frame i
