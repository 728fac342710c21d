-- A code from its parts.
use Rattle.std.proofs.Common.{◌≡◌, ℕ, List, length, refl, sym, subst, inl, inr}
use Rattle.std.specs.Prelude.{◌⊎◌}
use Rattle.class_walk.specs.declared.class.Constant.{Constant}
use Rattle.class_read.specs.declared.class_file.CodeAttribute.{CodeAttribute}
use Rattle.instructions.specs.declared.what.Instr.{Instr}
use Rattle.instructions.specs.declared.what.Target.{Target}
use Rattle.code_steps.specs.CodeArray.{IsCodeArray}
use Rattle.code_frames.specs.declared.types.MapFrame.{MapFrame}
use Rattle.code_frames.specs.StackMap.{IsStackMap}
use Rattle.code_decode.specs.declared.code.Code.{Code}
use Rattle.code_decode.specs.declared.code.Handler.{Handler}
use Rattle.code_decode.specs.declared.refusal.CodeRefusal.{CodeRefusal}
use Rattle.code_decode.specs.declared.refusal.CodeRefusal.TheVariants.{NoMemory}
use Rattle.code_decode.specs.Answer.{IsOnly, IsRefusal}
use Rattle.code_decode.specs.Handlers.{AreHandlers, HandlersRefuse}
use Rattle.code_decode.specs.Code.{IsCode, StepsRefuse, FramesRefuse, TablesRefuse, CodeRefuses}

-- a refusal because memory ran out stays one, and any other is carried over
pub refused_by : {X Y : Type 0} (Is : X → Type 0) (Of : Y → Type 0) (P Q : CodeRefusal → Type 0) (e : CodeRefusal) → (IsRefusal Is P e → IsRefusal Of Q e) → (e ≡ NoMemory) ⊎ IsRefusal Is P e → (e ≡ NoMemory) ⊎ IsRefusal Of Q e
refused_by Is Of P Q e over refused =
    elim refused [ inl no_memory ↦ inl no_memory | inr right ↦ inr (over right) ]

pub steps_refused : (pool : List Constant) (entry : ℕ) (a : CodeAttribute) (e : CodeRefusal) → IsRefusal (IsCodeArray pool a.bytes) (StepsRefuse pool a.bytes) e → IsRefusal (IsCode pool entry a) (CodeRefuses pool entry a) e
steps_refused pool entry a e refused = record {
  right = inl refused.right;
  only = λ other wrong. elim wrong [ inl steps ↦ refused.only other steps | inr behind ↦ absurd (refused.none behind.0 behind.1) ];
  none = λ c is. refused.none c.steps is.steps;
}

pub handlers_refused : (pool : List Constant) (entry : ℕ) (a : CodeAttribute) (steps : List (Instr Target)) (e : CodeRefusal) → IsOnly (IsCodeArray pool a.bytes) (StepsRefuse pool a.bytes) steps → IsRefusal (AreHandlers pool steps (length a.bytes) a.handlers) (HandlersRefuse pool steps (length a.bytes) a.handlers) e → IsRefusal (IsCode pool entry a) (CodeRefuses pool entry a) e
handlers_refused pool entry a steps e before refused = record {
  right = inr (steps, before.right, inl refused.right);
  only = λ other wrong. elim wrong [
    | inl first ↦ absurd (before.accepted other first)
    | inr behind ↦
        let P : List (Instr Target) → Type 0 = λ s. TablesRefuse pool entry a s other in
        elim (subst P (sym (before.only behind.0 behind.1)) behind.2) [
          | inl here ↦ refused.only other here
          | inr later ↦ absurd (refused.none later.0.0 later.0.1)
        ]
  ];
  none = λ c is.
      let P : List (Instr Target) → Type 0 = λ s. AreHandlers pool s (length a.bytes) a.handlers c.handlers in
      refused.none c.handlers (subst P (sym (before.only c.steps is.steps)) is.handlers);
}

pub frames_refused : (pool : List Constant) (entry : ℕ) (a : CodeAttribute) (steps : List (Instr Target)) (handlers : List Handler) (e : CodeRefusal) → IsOnly (IsCodeArray pool a.bytes) (StepsRefuse pool a.bytes) steps → IsOnly (AreHandlers pool steps (length a.bytes) a.handlers) (HandlersRefuse pool steps (length a.bytes) a.handlers) handlers → IsRefusal (IsStackMap pool steps entry a.maps) (FramesRefuse pool steps entry a.maps) e → IsRefusal (IsCode pool entry a) (CodeRefuses pool entry a) e
frames_refused pool entry a steps handlers e before table refused = record {
  right = inr (steps, before.right, inr ((handlers, table.right), refused.right));
  only = λ other wrong. elim wrong [
    | inl first ↦ absurd (before.accepted other first)
    | inr behind ↦
        let P : List (Instr Target) → Type 0 = λ s. TablesRefuse pool entry a s other in
        elim (subst P (sym (before.only behind.0 behind.1)) behind.2) [
          | inl earlier ↦ absurd (table.accepted other earlier)
          | inr here ↦ refused.only other here.1
        ]
  ];
  none = λ c is.
      let P : List (Instr Target) → Type 0 = λ s. IsStackMap pool s entry a.maps c.frames in
      refused.none c.frames (subst P (sym (before.only c.steps is.steps)) is.frames);
}

abbrev made : ℕ → ℕ → List (Instr Target) → List Handler → List MapFrame → Code
made max_stack max_locals steps handlers frames =
    record { max_stack = max_stack; max_locals = max_locals; steps = steps; handlers = handlers; frames = frames }

same_code : (pool : List Constant) (entry : ℕ) (a : CodeAttribute) (steps : List (Instr Target)) (handlers : List Handler) (frames : List MapFrame) (d : Code) → IsOnly (IsCodeArray pool a.bytes) (StepsRefuse pool a.bytes) steps → IsOnly (AreHandlers pool steps (length a.bytes) a.handlers) (HandlersRefuse pool steps (length a.bytes) a.handlers) handlers → IsOnly (IsStackMap pool steps entry a.maps) (FramesRefuse pool steps entry a.maps) frames → IsCode pool entry a d → made a.max_stack a.max_locals steps handlers frames ≡ d
same_code pool entry a steps handlers frames d before table map is =
    let steps_are : steps ≡ d.steps = before.only d.steps is.steps in
    let P : List (Instr Target) → Type 0 = λ s. AreHandlers pool s (length a.bytes) a.handlers d.handlers in
    let handlers_are : handlers ≡ d.handlers = table.only d.handlers (subst P (sym steps_are) is.handlers) in
    let Q : List (Instr Target) → Type 0 = λ s. IsStackMap pool s entry a.maps d.frames in
    let frames_are : frames ≡ d.frames = map.only d.frames (subst Q (sym steps_are) is.frames) in
    let same : made a.max_stack a.max_locals steps handlers frames ≡ made d.max_stack d.max_locals d.steps d.handlers d.frames = cc (is.max_stack, is.max_locals) in
    same

pub code_read : (pool : List Constant) (entry : ℕ) (a : CodeAttribute) (steps : List (Instr Target)) (handlers : List Handler) (frames : List MapFrame) → IsOnly (IsCodeArray pool a.bytes) (StepsRefuse pool a.bytes) steps → IsOnly (AreHandlers pool steps (length a.bytes) a.handlers) (HandlersRefuse pool steps (length a.bytes) a.handlers) handlers → IsOnly (IsStackMap pool steps entry a.maps) (FramesRefuse pool steps entry a.maps) frames → IsOnly (IsCode pool entry a) (CodeRefuses pool entry a) (made a.max_stack a.max_locals steps handlers frames)
code_read pool entry a steps handlers frames before table map = record {
  right = record { max_stack = refl; max_locals = refl; steps = before.right; handlers = table.right; frames = map.right };
  only = λ d is. same_code pool entry a steps handlers frames d before table map is;
  accepted = λ e wrong. elim wrong [
    | inl first ↦ before.accepted e first
    | inr behind ↦
        let P : List (Instr Target) → Type 0 = λ s. TablesRefuse pool entry a s e in
        elim (subst P (sym (before.only behind.0 behind.1)) behind.2) [
          | inl earlier ↦ table.accepted e earlier
          | inr later ↦ map.accepted e later.1
        ]
  ];
}
