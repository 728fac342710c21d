-- What the readers of a code's parts answer, as one answer.
use Rattle.std.proofs.Common.{◌≡◌, ◌+◌, ◌<◌, ◌≤◌, ◌^◌, ℕ, ℤ, List, [], ◌∷◌, length, map, refl, sym, ap, ◌∙◌, inl, inr, arith, Ok, Err, Result}
use Rattle.std.specs.Prelude.{◌⊎◌}
use Rattle.std.proofs.lemmas.List.{length-map}
use Rattle.class_walk.specs.declared.class.Constant.{Constant}
use Rattle.instructions.specs.declared.what.Instr.{Instr}
use Rattle.instructions.specs.declared.what.Target.{Target}
use Rattle.code_steps.specs.declared.fault.StepFault.{StepFault}
use Rattle.code_steps.specs.declared.fault.StepRefusal.{StepRefusal}
use Rattle.code_steps.specs.declared.fault.StepRefusal.TheVariants as steps_refusals
use Rattle.code_steps.specs.CodeArray.{AreLaidOut, IsCodeArray, by_offsets}
use Rattle.code_steps.specs.FirstFault.{IsFirstFault}
use Rattle.code_frames.specs.declared.types.MapFrame.{MapFrame}
use Rattle.code_frames.specs.declared.refusal.FrameRefusal.{FrameRefusal}
use Rattle.code_frames.specs.declared.refusal.FrameRefusal.TheVariants as frames_refusals
use Rattle.code_frames.specs.StackMap.{IsStackMap, IsFirstBadFrame}
use Rattle.code_decode.specs.declared.refusal.CodeRefusal.TheVariants as refusals
use Rattle.code_decode.specs.Answer.{IsOnly, IsRefusal}
use Rattle.code_decode.specs.Code.{fault_refusal, StepsRefuse, FramesRefuse}

-- a value that a call gave, where it gives that or no memory
given : {X E : Type 0} (x y : X) (no_memory : E) → let r : Result X E = Ok x in (r ≡ Ok y) ⊎ (r ≡ Err no_memory) → x ≡ y
given x y no_memory answer = elim answer [ inl same ↦ cc | inr other ↦ absurd cc ]

never_refused : {X E : Type 0} (x : X) (e no_memory : E) → let r : Result X E = Ok x in (r ≡ Err e) ⊎ (r ≡ Err no_memory) → ⊥
never_refused x e no_memory answer = elim answer [ inl same ↦ cc | inr other ↦ cc ]

pub steps_read : (pool : List Constant) (code : List ℕ) (steps : List (Instr Target)) → IsCodeArray pool code steps
    → ((others : List (Instr Target)) → IsCodeArray pool code others → let r : Result (List (Instr Target)) StepRefusal = Ok steps in (r ≡ Ok others) ⊎ (r ≡ Err steps_refusals.NoMemory))
    → ((f : StepFault) → IsFirstFault pool code f → let r : Result (List (Instr Target)) StepRefusal = Ok steps in (r ≡ Err (steps_refusals.Fault f)) ⊎ (r ≡ Err steps_refusals.NoMemory))
    → IsOnly (IsCodeArray pool code) (StepsRefuse pool code) steps
steps_read pool code steps found only first = record {
  right = found;
  only = λ others is. given steps others steps_refusals.NoMemory (only others is);
  accepted = λ e wrong. never_refused steps (steps_refusals.Fault wrong.0) steps_refusals.NoMemory (first wrong.0 wrong.1);
}

pub steps_faulty : (pool : List Constant) (code : List ℕ) (fault : StepFault) → IsFirstFault pool code fault
    → ((others : List (Instr Target)) → IsCodeArray pool code others → let r : Result (List (Instr Target)) StepRefusal = Err (steps_refusals.Fault fault) in (r ≡ Ok others) ⊎ (r ≡ Err steps_refusals.NoMemory))
    → ((f : StepFault) → IsFirstFault pool code f → let r : Result (List (Instr Target)) StepRefusal = Err (steps_refusals.Fault fault) in (r ≡ Err (steps_refusals.Fault f)) ⊎ (r ≡ Err steps_refusals.NoMemory))
    → IsRefusal (IsCodeArray pool code) (StepsRefuse pool code) (fault_refusal fault)
steps_faulty pool code fault exact only first = record {
  right = (fault, exact, refl);
  only = λ other wrong.
      let same : fault ≡ wrong.0 = elim (first wrong.0 wrong.1) [ inl e ↦ cc | inr e ↦ absurd cc ] in
      ap fault_refusal same ∙ sym wrong.2;
  none = λ others is. elim (only others is) [ inl e ↦ cc | inr e ↦ cc ];
}

pub frames_read : (pool : List Constant) (steps : List (Instr Target)) (entry : ℕ) (maps : List ℕ) (frames : List MapFrame) → IsStackMap pool steps entry maps frames
    → ((others : List MapFrame) → IsStackMap pool steps entry maps others → let r : Result (List MapFrame) FrameRefusal = Ok frames in (r ≡ Ok others) ⊎ (r ≡ Err frames_refusals.NoMemory))
    → ((k : ℕ) → IsFirstBadFrame pool steps entry maps k → let r : Result (List MapFrame) FrameRefusal = Ok frames in (r ≡ Err (frames_refusals.Frame k)) ⊎ (r ≡ Err frames_refusals.NoMemory))
    → IsOnly (IsStackMap pool steps entry maps) (FramesRefuse pool steps entry maps) frames
frames_read pool steps entry maps frames found only first = record {
  right = found;
  only = λ others is. given frames others frames_refusals.NoMemory (only others is);
  accepted = λ e wrong. never_refused frames (frames_refusals.Frame wrong.0) frames_refusals.NoMemory (first wrong.0 wrong.1);
}

pub frames_bad : (pool : List Constant) (steps : List (Instr Target)) (entry : ℕ) (maps : List ℕ) (number : ℕ) → IsFirstBadFrame pool steps entry maps number
    → ((others : List MapFrame) → IsStackMap pool steps entry maps others → let r : Result (List MapFrame) FrameRefusal = Err (frames_refusals.Frame number) in (r ≡ Ok others) ⊎ (r ≡ Err frames_refusals.NoMemory))
    → ((k : ℕ) → IsFirstBadFrame pool steps entry maps k → let r : Result (List MapFrame) FrameRefusal = Err (frames_refusals.Frame number) in (r ≡ Err (frames_refusals.Frame k)) ⊎ (r ≡ Err frames_refusals.NoMemory))
    → IsRefusal (IsStackMap pool steps entry maps) (FramesRefuse pool steps entry maps) (refusals.Frame number)
frames_bad pool steps entry maps number exact only first = record {
  right = (number, exact, refl);
  only = λ other wrong.
      let same : number ≡ wrong.0 = elim (first wrong.0 wrong.1) [ inl e ↦ cc | inr e ↦ absurd cc ] in
      ap refusals.Frame same ∙ sym wrong.2;
  none = λ others is. elim (only others is) [ inl e ↦ cc | inr e ↦ cc ];
}

-- each instruction has a byte of its own
laid_count : (pool : List Constant) (code : List ℕ) (from : ℕ) (steps : List (Instr ℤ)) (to : ℕ) → AreLaidOut pool code from steps to → from + length steps ≤ to
laid_count pool code from [] to laid = omega (arith, laid)
laid_count pool code from (i ∷ others) to laid =
    let rest : i.next + length others ≤ to = laid_count pool code i.next others to laid.2 in
    omega (arith, rest, laid.0, laid.1.ends)

pub few_steps : (pool : List Constant) (code : List ℕ) (steps : List (Instr Target)) → IsCodeArray pool code steps → length steps < 2 ^ 32
few_steps pool code steps is =
    let all : 0 + length (map by_offsets steps) ≤ length code = laid_count pool code 0 (map by_offsets steps) (length code) is.laid in
    let same : length (map by_offsets steps) ≡ length steps = length-map steps by_offsets in
    omega (arith, all, same, is.most)

pub small_code : (pool : List Constant) (code : List ℕ) (steps : List (Instr Target)) → IsCodeArray pool code steps → length code < 2 ^ 32
small_code pool code steps is = omega (arith, is.most)
