-- Where instructions lead.
use Rattle.std.proofs.Common.{◌≡◌, ℕ, Bool, Option, None, Some, List, ◌∷◌, Result, Err, refl, sym, ◌∙◌, ap, subst}
use Rattle.instructions.specs.declared.what.Target.{Target}
use Rattle.code_frames.specs.declared.types.VType.{VType}
use Rattle.link_types.specs.declared.operands.Operand.{Operand}
use Rattle.type_rules.specs.declared.refusal.VerifyKind.TheVariants.{FrameMissing, FrameMismatch}
use Rattle.type_rules.specs.declared.types.VerificationType.{VerificationType}
use Rattle.type_rules.specs.Assignable.{Hierarchy}
use Rattle.type_rules.specs.Environment.{Environment, TypeFrame}
use Rattle.type_rules.specs.MapFrames.{map_frame_at}
use Rattle.type_rules.specs.TypeFaults.{◌or_else◌, unless, is_frame_assignable, flow_to, flow_fault, flows_fault}
use Rattle.typing_frames.specs.declared.stores.FrameStores.{FrameStores}
use Rattle.typing_frames.specs.declared.stores.CurrentFrame.{CurrentFrame}
use Rattle.typing_frames.specs.declared.stop.CheckStop.{CheckStop}
use Rattle.typing_frames.specs.Told.{Tells}
use Rattle.typing_frames.specs.Frames.{shown, IsFrame, LeavesFrames, StoresRemember}
use Rattle.typing_frames.proofs.FrameLaws.{stores_follow_itself, stores_follow_on}
use Rattle.map_frames.specs.declared.mapped.MappedFrame.{MappedFrame}
use Rattle.map_frames.specs.Mapped.{AreMapFrames, Maps, MapsAt}
use Rattle.handler_frames.specs.declared.method.MethodHandlers.{MethodHandlers}
use Rattle.handler_frames.specs.Methods.{AreHandlersOf}
use Rattle.handler_frames.proofs.MethodLaws.{handlers_follow}
use Rattle.method_check.proofs.Told.{first_broken}

module _ (env : Environment) (f : TypeFrame) (stores : FrameStores) where
  pub none_there : (g : Option TypeFrame) → MapsAt stores None g → flow_to env f g ≡ Some FrameMissing
  none_there None maps = refl
  none_there (Some g) maps = absurd maps

  pub taken : (mapped : MappedFrame) (g : Option TypeFrame) (b : Bool) → MapsAt stores (Some mapped) g → ((h : TypeFrame) → Maps stores mapped h → b ≡ is_frame_assignable env f h)
      → flow_to env f g ≡ unless b FrameMismatch
  taken mapped None b maps tells = absurd maps
  taken mapped (Some g) b maps tells = ap (λ x. unless x FrameMismatch) (sym (tells g maps))

-- the first of more targets takes the frame
pub flows_on : (env : Environment) (f : TypeFrame) (target : Target) (targets : List Target) → flow_fault env f target.step ≡ None → flows_fault env f (target ∷ targets) ≡ flows_fault env f targets
flows_on env f target targets none = ap (λ x. x or_else flows_fault env f targets) none

-- the map frame that is found at an instruction
pub map_there : (stores : FrameStores) (env : Environment) (operands : ℕ → Operand) (method : MethodHandlers) (r : Option MappedFrame) (step : ℕ)
    → ((s : FrameStores) (item : VType → VerificationType) (constructs : Bool) (values : List VerificationType)
    → AreMapFrames s method.maps.now item constructs values method.frames.now → MapsAt s r (map_frame_at item constructs values method.frames.now step))
    → AreHandlersOf env stores operands method → MapsAt stores r (env.map_at step)
map_there stores env operands method r step tells are =
    subst (λ (m : ℕ → Option TypeFrame). MapsAt stores r (m step)) (sym are.maps) (tells stores are.made.item are.made.constructs are.made.values are.made.are)

-- ---- one target after the other

pub record Flows (h : Hierarchy) (method : MethodHandlers) (frame : CurrentFrame) (old now : FrameStores) (all left : List Target) : Type 0 where
  pub leaves : LeavesFrames old now
  pub remembered : StoresRemember h now
  pub rest : (env : Environment) (operands : ℕ → Operand) → env.hierarchy ≡ h → AreHandlersOf env old operands method
      → flows_fault env (shown old frame) all ≡ flows_fault env (shown old frame) left

pub flows_begin : (h : Hierarchy) (method : MethodHandlers) (frame : CurrentFrame) (stores : FrameStores) (all left : List Target) → all ≡ left → StoresRemember h stores
    → Flows h method frame stores stores all left
flows_begin h method frame stores all left same remembered = record {
  leaves = record { follows = stores_follow_itself stores; there = λ f is. is; same = λ f is. refl };
  remembered = remembered;
  rest = λ env operands e are. ap (flows_fault env (shown stores frame)) same;
}

-- a check of the next target has the same fault in the frame as it was
pub told_before : (env : Environment) (frame : CurrentFrame) (old now : FrameStores) (step : ℕ) → LeavesFrames old now → IsFrame old frame
    → flow_fault env (shown now frame) step ≡ flow_fault env (shown old frame) step
told_before env frame old now step leaves there = ap (λ f. flow_fault env f step) (leaves.same frame there)

pub flows_go_on : (h : Hierarchy) (method : MethodHandlers) (frame : CurrentFrame) (old now new : FrameStores) (all : List Target) (target : Target) (left : List Target) → IsFrame old frame
    → Flows h method frame old now all (target ∷ left) → LeavesFrames now new → StoresRemember h new
    → ((env : Environment) (operands : ℕ → Operand) → env.hierarchy ≡ h → AreHandlersOf env now operands method → flow_fault env (shown now frame) target.step ≡ None)
    → Flows h method frame old new all left
flows_go_on h method frame old now new all target left there before leaves remembered told = record {
  leaves = record {
    follows = stores_follow_on old now new before.leaves.follows leaves.follows;
    there = λ f is. leaves.there f (before.leaves.there f is);
    same = λ f is. leaves.same f (before.leaves.there f is) ∙ before.leaves.same f is;
  };
  remembered = remembered;
  rest = λ env operands e are.
      before.rest env operands e are
      ∙ flows_on env (shown old frame) target left
      (sym (told_before env frame old now target.step before.leaves there) ∙ told env operands e (handlers_follow old now env operands method before.leaves.follows are));
}

-- the next target breaks a rule first
pub flows_break : (X Y : Type 0) (h : Hierarchy) (method : MethodHandlers) (frame : CurrentFrame) (old now : FrameStores) (all : List Target) (target : Target) (left : List Target)
    (r : Result Y CheckStop) (e : CheckStop) → r ≡ Err e → IsFrame old frame → Flows h method frame old now all (target ∷ left)
    → ((env : Environment) (operands : ℕ → Operand) → env.hierarchy ≡ h → AreHandlersOf env now operands method → Tells {X = X} (Err e) (flow_fault env (shown now frame) target.step))
    → (env : Environment) (operands : ℕ → Operand) → env.hierarchy ≡ h → AreHandlersOf env old operands method → Tells r (flows_fault env (shown old frame) all)
flows_break X Y h method frame old now all target left r e is there before told env operands same are =
    let f = shown old frame in
    subst (λ x. Tells r x) (sym (before.rest env operands same are))
    (first_broken X Y (flow_fault env f target.step) (flows_fault env f left) r e is
    (subst (λ x. Tells {X = X} (Err e) x) (told_before env frame old now target.step before.leaves there)
    (told env operands same (handlers_follow old now env operands method before.leaves.follows are))))
