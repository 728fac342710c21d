-- Handlers and map frames as the stores change.
use Rattle.std.proofs.Common.{◌≡◌, ℕ, ◌+◌, ◌<◌, None, Result, Err, List, [], ◌∷◌, map, take, drop, length, get_or, refl, sym, ◌∙◌, ap, subst}
use Rattle.std.proofs.lemmas.List.{take_more, take-append-drop, map-append}
use Rattle.code_decode.specs.declared.code.Handler.{Handler}
use Rattle.type_rules.specs.Assignable.{Hierarchy}
use Rattle.type_rules.specs.Environment.{Environment}
use Rattle.type_rules.specs.Environments.{typed_handler}
use Rattle.type_rules.specs.TypeFaults.{◌or_else◌, handlers_fault}
use Rattle.typing_frames.specs.declared.stores.CurrentFrame.{CurrentFrame}
use Rattle.typing_frames.specs.declared.stop.CheckStop.{CheckStop}
use Rattle.typing_frames.specs.Told.{Tells}
use Rattle.typing_frames.proofs.CompareLaws.{leaves_itself, leaves_on}
use Rattle.handler_frames.proofs.RuleLaws.{handlers_append, told_first}
use Rattle.type_rules.specs.MapFrames.{frame_numbered}
use Rattle.link_types.specs.declared.operands.Operand.{Operand}
use Rattle.std.specs.List.{slice_get}
use Rattle.typing_frames.specs.declared.stores.FrameStores.{FrameStores}
use Rattle.typing_frames.specs.Frames.{shown, IsFrame, LeavesFrames, StoresFollow, StoresRemember}
use Rattle.map_frames.proofs.MadeLaws.{maps_at_follow}
use Rattle.handler_frames.specs.declared.method.MethodHandlers.{MethodHandlers}
use Rattle.handler_frames.specs.Methods.{AreHandlersOf, AreMade}

pub made_follow : (old new : FrameStores) (method : MethodHandlers) → StoresFollow old new → AreMade old method → AreMade new method
made_follow old new method follows made = record {
  item = made.item;
  constructs = made.constructs;
  values = made.values;
  are = λ j f h at.
      maps_at_follow old new (slice_get method.maps.now.frames.items j) (frame_numbered made.item made.constructs made.values method.frames.now j f) follows (made.are j f h at);
}

pub handlers_follow : (old new : FrameStores) (env : Environment) (operands : ℕ → Operand) (method : MethodHandlers) → StoresFollow old new
    → AreHandlersOf env old operands method → AreHandlersOf env new operands method
unfolding made_follow
handlers_follow old new env operands method follows are = record {
  handlers = are.handlers;
  made = made_follow old new method follows are.made;
  maps = are.maps;
}

-- the handlers before a number break no rule
pub record Checking (classes : Hierarchy) (operands : ℕ → Operand) (old now : FrameStores) (method : MethodHandlers) (step : ℕ) (frame : CurrentFrame) (i : ℕ) : Type 0 where
  pub leaves : LeavesFrames old now
  pub remembered : StoresRemember classes now
  pub none : (env : Environment) → env.hierarchy ≡ classes → AreHandlersOf env old operands method
      → handlers_fault env step (shown old frame) (map (typed_handler operands) (take i method.handlers.now)) ≡ None

module _ (classes : Hierarchy) (operands : ℕ → Operand) (old : FrameStores) (method : MethodHandlers) (step : ℕ) (frame : CurrentFrame) (there : IsFrame old frame) where
  pub checking_none : StoresRemember classes old → Checking classes operands old old method step frame 0
  checking_none remembered = record {
    leaves = leaves_itself old;
    remembered = remembered;
    none = λ env same are. ap (λ hs. handlers_fault env step (shown old frame) (map (typed_handler operands) hs)) (none_taken method.handlers.now);
  }
    where
      none_taken : (hs : List Handler) → take 0 hs ≡ []
      none_taken [] = refl
      none_taken (h ∷ hs) = refl

  -- the handlers up to the next one have the same fault in the frame as it is now
  pub next_told : (now : FrameStores) (i : ℕ) (d : Handler) → Checking classes operands old now method step frame i → i < length method.handlers.now
      → (env : Environment) → env.hierarchy ≡ classes → AreHandlersOf env old operands method
      → handlers_fault env step (shown old frame) (map (typed_handler operands) (take (i + 1) method.handlers.now)) ≡ handlers_fault env step (shown now frame) (typed_handler operands (get_or method.handlers.now i d) ∷ [])
  next_told now i d before inside env same are =
      let f = shown old frame in
      let handlers = method.handlers.now in
      let th = typed_handler operands in
      ap (λ hs. handlers_fault env step f (map th hs)) (take_more handlers i d inside)
      ∙ ap (handlers_fault env step f) (map-append th (take i handlers) (get_or handlers i d ∷ []))
      ∙ handlers_append env step f (map th (take i handlers)) (th (get_or handlers i d) ∷ [])
      ∙ ap (λ o. o or_else handlers_fault env step f (th (get_or handlers i d) ∷ [])) (before.none env same are)
      ∙ ap (λ x. handlers_fault env step x (th (get_or handlers i d) ∷ [])) (sym (before.leaves.same frame there))

  pub all_told : (i : ℕ) (env : Environment) → AreHandlersOf env old operands method
      → handlers_fault env step (shown old frame) env.handlers
      ≡ (handlers_fault env step (shown old frame) (map (typed_handler operands) (take i method.handlers.now)) or_else handlers_fault env step (shown old frame) (map (typed_handler operands) (drop i method.handlers.now)))
  all_told i env are =
      let f = shown old frame in
      let handlers = method.handlers.now in
      let th = typed_handler operands in
      ap (handlers_fault env step f) (are.handlers ∙ ap (map th) (sym (take-append-drop i handlers)) ∙ map-append th (take i handlers) (drop i handlers))
      ∙ handlers_append env step f (map th (take i handlers)) (map th (drop i handlers))

  pub checking_more : (now new : FrameStores) (i : ℕ) (d : Handler) → Checking classes operands old now method step frame i → i < length method.handlers.now
      → LeavesFrames now new → StoresRemember classes new
      → ((env : Environment) → env.hierarchy ≡ classes → AreHandlersOf env now operands method → handlers_fault env step (shown now frame) (typed_handler operands (get_or method.handlers.now i d) ∷ []) ≡ None)
      → Checking classes operands old new method step frame (i + 1)
  checking_more now new i d before inside leaves remembered none = record {
    leaves = leaves_on old now new before.leaves leaves;
    remembered = remembered;
    none = λ env same are. next_told now i d before inside env same are ∙ none env same (handlers_follow old now env operands method before.leaves.follows are);
  }

  -- the next one breaks a rule first
  pub next_refuses : (X Y : Type 0) (now : FrameStores) (i : ℕ) (d : Handler) (r : Result Y CheckStop) (e : CheckStop) → r ≡ Err e → Checking classes operands old now method step frame i → i < length method.handlers.now
      → ((env : Environment) → env.hierarchy ≡ classes → AreHandlersOf env now operands method → Tells {X = X} (Err e) (handlers_fault env step (shown now frame) (typed_handler operands (get_or method.handlers.now i d) ∷ [])))
      → (env : Environment) → env.hierarchy ≡ classes → AreHandlersOf env old operands method → Tells r (handlers_fault env step (shown old frame) env.handlers)
  next_refuses X Y now i d r e failed before inside told env same are =
      subst (λ x. Tells {X = Y} x (handlers_fault env step (shown old frame) env.handlers)) (sym failed)
      (subst (λ o. Tells {X = Y} (Err e) o) (sym (all_told (i + 1) env are))
      (told_first X Y e (handlers_fault env step (shown old frame) (map (typed_handler operands) (take (i + 1) method.handlers.now)))
      (handlers_fault env step (shown old frame) (map (typed_handler operands) (drop (i + 1) method.handlers.now)))
      (subst (λ o. Tells {X = X} (Err e) o) (sym (next_told now i d before inside env same are))
      (told env same (handlers_follow old now env operands method before.leaves.follows are)))))
