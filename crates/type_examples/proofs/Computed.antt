-- Frames that keep the rules, and rules that fail at the first instruction.
use Rattle.std.proofs.Common.{◌≡◌, ℕ, zero, suc, ◌+◌, Some, List, [], ◌∷◌, refl, subst, arith, slice_get}
use Rattle.std.proofs.lemmas.Option.{none-some, same_Some}
use Rattle.instructions.specs.declared.what.Instr.{Instr}
use Rattle.instructions.specs.declared.what.Target.{Target}
use Rattle.type_rules.specs.declared.refusal.VerifyKind.{VerifyKind}
use Rattle.type_rules.specs.declared.refusal.VerifyKind.TheVariants as faults
use Rattle.type_rules.specs.Environment.{Environment, TypeFrame, entry_frame}
use Rattle.type_rules.specs.TypeFaults.{fault_at}
use Rattle.type_rules.specs.TypeSafe.{IsTypedAt, IsTypeSafe}
use Rattle.type_examples.specs.TinyMethods.{IsRefusedAs, choice, choice_frames, covers_uninitialized, falls_off, has_no_room, leads_to_another_frame, leads_to_no_frame, loads_wrongly, pops_nothing, returns_nothing, returns_uninitialized}

-- each of the instructions from a number on
abbrev pub EachTyped : Environment → (ℕ → TypeFrame) → ℕ → List (Instr Target) → Type 0
EachTyped env frames n [] = Unit {0}
EachTyped env frames n (i ∷ others) = IsTypedAt env frames n i × EachTyped env frames (suc n) others

typed_from : (env : Environment) (frames : ℕ → TypeFrame) (n : ℕ) (xs : List (Instr Target)) → EachTyped env frames n xs → (k m : ℕ) (i : Instr Target) → m ≡ n + k → slice_get xs k ≡ Some i → IsTypedAt env frames m i
typed_from env frames n [] all k m i e at = absurd (none-some i at)
typed_from env frames n (x ∷ xs) all zero m i e at =
    let P : ℕ → Type 0 = λ j. IsTypedAt env frames j i in
    let same : n ≡ m = omega arith in
    subst P same (subst (λ (y : Instr Target). IsTypedAt env frames n y) (same_Some x i at) all.0)
typed_from env frames n (x ∷ xs) all (suc k) m i e at = typed_from env frames (suc n) xs all.1 k m i (omega arith) at

pub safe_by : (env : Environment) (frames : ℕ → TypeFrame) → EachTyped env frames 0 env.steps → IsTypeSafe env
safe_by env frames all = (frames, λ k i lt at. typed_from env frames 0 env.steps all k k i (omega arith) at)

pub choice_safe : IsTypeSafe choice
choice_safe =
    safe_by choice choice_frames
    (record { here = refl; none = refl }, (record { here = refl; none = refl }, (record { here = refl; none = refl }, (record { here = refl; none = refl }, (record { here = refl; none = refl }, (record { here = refl; none = refl }, record {}))))))

first_refused : (env : Environment) (kind : VerifyKind) (i : Instr Target) → slice_get env.steps 0 ≡ Some i → fault_at env 0 i (Some (entry_frame env)) ≡ Some kind → IsRefusedAs env 0 kind
first_refused env kind i there fault =
    (i, record { frames = λ k. entry_frame env; there = there; before = λ k j lt at. absurd (omega arith); fault = fault })

pub no_words : IsRefusedAs pops_nothing 0 faults.StackShape
no_words = first_refused pops_nothing faults.StackShape _ refl refl

pub wrong_type : IsRefusedAs loads_wrongly 0 faults.TypeMismatch
wrong_type = first_refused loads_wrongly faults.TypeMismatch _ refl refl

pub no_frame : IsRefusedAs leads_to_no_frame 0 faults.FrameMissing
no_frame = first_refused leads_to_no_frame faults.FrameMissing _ refl refl

pub other_frame : IsRefusedAs leads_to_another_frame 0 faults.FrameMismatch
other_frame = first_refused leads_to_another_frame faults.FrameMismatch _ refl refl

pub no_end : IsRefusedAs falls_off 0 faults.FallsOff
no_end = first_refused falls_off faults.FallsOff _ refl refl

pub no_room : IsRefusedAs has_no_room 0 faults.Limits
no_room = first_refused has_no_room faults.Limits _ refl refl

pub not_initialized : IsRefusedAs returns_uninitialized 0 faults.Uninit
not_initialized = first_refused returns_uninitialized faults.Uninit _ refl refl

pub covered : IsRefusedAs covers_uninitialized 0 faults.InitCovered
covered = first_refused covers_uninitialized faults.InitCovered _ refl refl

pub no_value : IsRefusedAs returns_nothing 0 faults.ReturnType
no_value = first_refused returns_nothing faults.ReturnType _ refl refl
