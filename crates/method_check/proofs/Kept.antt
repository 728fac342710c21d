-- What stays as the stores change.
use Rattle.std.proofs.Common.{ℕ, Option, None, Some, IfSome, sym, ◌∙◌}
use Rattle.link_types.specs.declared.operands.Operand.{Operand}
use Rattle.type_rules.specs.Environment.{Environment, TypeFrame}
use Rattle.typing_frames.specs.declared.stores.FrameStores.{FrameStores}
use Rattle.typing_frames.specs.declared.stores.CurrentFrame.{CurrentFrame}
use Rattle.typing_frames.specs.Frames.{IsFrame, LeavesFrames, StoresFollow, StoresRemember}
use Rattle.map_frames.specs.declared.mapped.MappedFrame.{MappedFrame}
use Rattle.map_frames.specs.Mapped.{MapsAt}
use Rattle.map_frames.specs.Making.{IsFrameInRoom}
use Rattle.map_frames.proofs.TakesLaws.{maps_in_room}
use Rattle.handler_frames.proofs.KnownLaws.{fits_follow, knows_follow}
use Rattle.handler_frames.proofs.MethodLaws.{handlers_follow}
use Rattle.method_check.specs.declared.walk.Walk.{Walk}
use Rattle.method_check.specs.declared.walk.WalkedMethod.{WalkedMethod}
use Rattle.method_check.specs.Walk.{AreStoresOf, HasComeTo, IsWalked}

pub stores_kept : (env : Environment) (old new : FrameStores) → StoresFollow old new → StoresRemember env.hierarchy new → AreStoresOf env old → AreStoresOf env new
stores_kept env old new follows remembered are = record {
  locals = are.locals ∙ sym follows.locals.most;
  stacks = are.stacks ∙ sym follows.stacks.most;
  remembered = remembered;
}

pub walked_kept : (env : Environment) (operands : ℕ → Operand) (method : WalkedMethod) (old new : FrameStores) → StoresFollow old new → StoresRemember env.hierarchy new
    → IsWalked env operands method old → IsWalked env operands method new
walked_kept env operands method old new follows remembered walked = record {
  begins = walked.begins;
  steps = walked.steps;
  handlers = handlers_follow old new env operands method.handlers follows walked.handlers;
  arrays = walked.arrays;
  room = stores_kept env old new follows remembered walked.room;
}

-- there is room for the map frame at an instruction
pub room_at : (stores : FrameStores) (o : Option MappedFrame) (g : Option TypeFrame) → MapsAt stores o g → IfSome o (λ m. IsFrameInRoom stores m.frame)
room_at stores None g maps = tt
room_at stores (Some m) None maps = absurd maps
room_at stores (Some m) (Some g) maps = maps_in_room stores m g maps

there_still : (old new : FrameStores) (before : Option CurrentFrame) → LeavesFrames old new → IfSome before (λ f. IsFrame old f) → IfSome before (λ f. IsFrame new f)
there_still old new None leaves there = tt
there_still old new (Some f) leaves there = leaves.there f there

-- a walk stays where it is as long as all frames stay
pub comes_kept : (env : Environment) (walk : Walk) (new : FrameStores) (k : ℕ) → LeavesFrames walk.stores new → HasComeTo env walk k → HasComeTo env (record walk { stores = new }) k
comes_kept env walk new k leaves comes = record {
  fits = fits_follow env.hierarchy walk.stores new walk.handlers leaves.follows comes.fits;
  knows = knows_follow walk.stores new walk.handlers env k leaves.follows comes.knows;
  before = there_still walk.stores new walk.before leaves comes.before;
}
