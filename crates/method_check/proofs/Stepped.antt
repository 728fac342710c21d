-- One instruction.
use Rattle.std.proofs.Common.{◌≡◌, ℕ, Bool, true, false, Option, Some, None, Result, Err, refl, sym, ◌∙◌, ap, subst, if◌then◌else◌}
use Rattle.std.specs.Option.{option_map_or}
use Rattle.instructions.specs.declared.what.Instr.{Instr}
use Rattle.instructions.specs.declared.what.Target.{Target}
use Rattle.instructions.specs.What.{falls_through, targets_of}
use Rattle.type_rules.specs.Environment.{Environment, TypeFrame}
use Rattle.type_rules.specs.FrameAfter.{frame_after}
use Rattle.type_rules.specs.TypeFaults.{◌or_else◌, end_fault, fault_at, flows_fault, frame_fault, frame_here, handlers_fault, instruction_fault, own_fault}
use Rattle.type_rules.specs.TypeSafe.{fallen}
use Rattle.typing_frames.specs.declared.stores.FrameStores.{FrameStores}
use Rattle.typing_frames.specs.declared.stores.CurrentFrame.{CurrentFrame}
use Rattle.typing_frames.specs.declared.stop.CheckStop.{CheckStop}
use Rattle.typing_frames.specs.Frames.{shown, IsFrame, LeavesFrames}
use Rattle.typing_frames.specs.Told.{Tells}
use Rattle.map_frames.specs.Here.{shown_if}
use Rattle.method_check.proofs.Told.{behind_none, first_broken}

module _ (env : Environment) (k : ℕ) (i : Instr Target) where
  pub told_here : (X : Type 0) (before : Option TypeFrame) (f : TypeFrame) (r : Result X CheckStop) → frame_fault env k before ≡ None → frame_here env (env.map_at k) before ≡ Some f
      → Tells r (instruction_fault env k i f) → Tells r (fault_at env k i before)
  told_here X before f r none here told =
      behind_none r (frame_fault env k before) (option_map_or (instruction_fault env k i) (frame_here env (env.map_at k) before) None) none
      (subst (λ o. Tells r (option_map_or (instruction_fault env k i) o None)) (sym here) told)

  falls_as : (b : Bool) (stores : FrameStores) (made : CurrentFrame) (f : TypeFrame) → shown stores made ≡ f
      → shown_if stores (if b then Some made else None) ≡ (if b then Some f else None)
  falls_as true stores made f is = ap (λ x. Some x) is
  falls_as false stores made f is = refl

  pub falls : (stores : FrameStores) (next : Option CurrentFrame) (made : CurrentFrame) (f : TypeFrame) → next ≡ (if falls_through i.what then Some made else None)
      → shown stores made ≡ frame_after env i f → shown_if stores next ≡ fallen env f i
  falls stores next made f is shows =
      ap (λ o. shown_if stores o) is ∙ falls_as (falls_through i.what) stores made (frame_after env i f) shows

  -- no handler breaks a rule, and the instruction none by itself, and this is the frame after it
  pub record IsBehind (f behind : TypeFrame) : Type 0 where
    pub handlers : handlers_fault env k f env.handlers ≡ None
    pub own : own_fault env i f ≡ None
    pub is : behind ≡ frame_after env i f

  pub is_behind : (old now : FrameStores) (frame : CurrentFrame) (behind : TypeFrame) → LeavesFrames old now → IsFrame old frame → handlers_fault env k (shown old frame) env.handlers ≡ None
      → own_fault env i (shown now frame) ≡ None → behind ≡ frame_after env i (shown now frame) → IsBehind (shown old frame) behind
  is_behind old now frame behind leaves there handlers own is =
      let same = leaves.same frame there in
      record {
        handlers = handlers;
        own = subst (λ f. own_fault env i f ≡ None) same own;
        is = is ∙ ap (frame_after env i) same;
      }

  module _ (f behind : TypeFrame) (passed : IsBehind f behind) where
    after_own : (X : Type 0) (r : Result X CheckStop) → Tells r (flows_fault env behind (targets_of i.what) or_else end_fault env k i.what) → Tells r (instruction_fault env k i f)
    after_own X r told =
        behind_none r (handlers_fault env k f env.handlers) _ passed.handlers
        (behind_none r (own_fault env i f) _ passed.own
        (subst (λ g. Tells r (flows_fault env g (targets_of i.what) or_else end_fault env k i.what)) passed.is told))

    pub flows_told : (X Y : Type 0) (r : Result Y CheckStop) (e : CheckStop) → r ≡ Err e → Tells {X = X} (Err e) (flows_fault env behind (targets_of i.what)) → Tells r (instruction_fault env k i f)
    flows_told X Y r e is told = after_own Y r (first_broken X Y (flows_fault env behind (targets_of i.what)) (end_fault env k i.what) r e is told)

    pub end_told : (X : Type 0) (r : Result X CheckStop) → flows_fault env behind (targets_of i.what) ≡ None → Tells r (end_fault env k i.what) → Tells r (instruction_fault env k i f)
    end_told X r flows told = after_own X r (behind_none r (flows_fault env behind (targets_of i.what)) (end_fault env k i.what) flows told)
