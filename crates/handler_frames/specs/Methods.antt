-- The handlers of a method, with the map frames at which they begin.
use Rattle.std.specs.Prelude.{◌≡◌, ℕ, Bool, false, Option, None, Some, List, map}
use Rattle.code_frames.specs.declared.types.VType.{VType}
use Rattle.link_types.specs.declared.types.ObjectType.{ObjectType}
use Rattle.link_types.specs.declared.operands.Operand.{Operand}
use Rattle.type_rules.specs.declared.types.VerificationType.{VerificationType}
use Rattle.type_rules.specs.declared.types.VerificationType.TheVariants.{Object}
use Rattle.type_rules.specs.Assignable.{Hierarchy, is_assignable}
use Rattle.type_rules.specs.Environment.{Environment}
use Rattle.type_rules.specs.Environments.{typed_handler}
use Rattle.type_rules.specs.MapFrames.{map_frame_at}
use Rattle.typing_frames.specs.declared.stores.FrameStores.{FrameStores}
use Rattle.map_frames.specs.Mapped.{AreMapFrames}
use Rattle.handler_frames.specs.declared.method.MethodHandlers.{MethodHandlers}

-- the map frames are made of the method's table, in these stores
pub record AreMade (stores : FrameStores) (method : MethodHandlers) : Type 0 where
  pub item : VType → VerificationType
  pub constructs : Bool
  pub values : List VerificationType
  pub are : AreMapFrames stores method.maps.now item constructs values method.frames.now

-- the handlers and the map frames are those of the environment
pub record AreHandlersOf (env : Environment) (stores : FrameStores) (operands : ℕ → Operand) (method : MethodHandlers) : Type 0 where
  pub handlers : env.handlers ≡ map (typed_handler operands) method.handlers.now
  pub made : AreMade stores method
  pub maps : env.map_at ≡ map_frame_at made.item made.constructs made.values method.frames.now

-- a stack of one word takes what is caught
abbrev pub takes_only : Hierarchy → Option VerificationType → ObjectType → Bool
takes_only h None caught = false
takes_only h (Some word) caught = is_assignable h (Object caught) word
