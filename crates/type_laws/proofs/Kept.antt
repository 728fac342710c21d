-- What each rule that holds at an instruction says.
use Rattle.std.proofs.Common.{◌≡◌, ℕ, true, false, not, ◌&&◌, nat_le, None, List, [], ◌∷◌, length, refl, sym, ap, ◌∙◌}
use Rattle.std.specs.List.{AllByRecursion, list_any}
use Rattle.std.specs.Option.{option_map_or}
use Rattle.std.proofs.lemmas.Bool.{and_parts, leb-true, true≢false, not-true}
use Rattle.std.proofs.lemmas.Option.{slice_get_within}
use Rattle.instructions.specs.declared.what.Instr.{Instr}
use Rattle.instructions.specs.declared.what.Target.{Target}
use Rattle.type_rules.specs.Environment.{Environment, TypeFrame}
use Rattle.type_rules.specs.Wants.{Verdict, right, wrong, uninitialized, is_wrong, is_uninitialized, wants, words_wanted, verdicts}
use Rattle.type_rules.specs.TypeFaults.{frame_fault, handlers_fault, own_fault, flows_fault, end_fault, instruction_fault, is_local_right, are_locals_there, is_initialization_right, returns_rightly}
use Rattle.type_rules.specs.FrameAfter.{frame_after}
use Rattle.type_rules.specs.TypeSafe.{falling, IsTypedAt, IsAssignment}
use Rattle.instructions.specs.What.{targets_of}
use Rattle.type_laws.specs.Frames.{OfEach, HasWanted, UsesRightTypes, IsRight}
use Rattle.type_laws.proofs.Chains.{none_of, holds}

-- no rule fails at the instruction
pub record NoneFails (env : Environment) (k : ℕ) (i : Instr Target) (f : TypeFrame) : Type 0 where
  pub handlers : handlers_fault env k f env.handlers ≡ None
  pub own : own_fault env i f ≡ None
  pub flows : flows_fault env (frame_after env i f) (targets_of i.what) ≡ None
  pub end : end_fault env k i.what ≡ None

none_fails : (env : Environment) (k : ℕ) (i : Instr Target) (f : TypeFrame) → instruction_fault env k i f ≡ None → NoneFails env k i f
none_fails env k i f e =
    let first = none_of (handlers_fault env k f env.handlers) _ e in
    let second = none_of (own_fault env i f) _ first.1 in
    let third = none_of (flows_fault env (frame_after env i f) (targets_of i.what)) _ second.1 in
    record { handlers = first.0; own = second.0; flows = third.0; end = third.1 }

pub at_each : (env : Environment) (frames : ℕ → TypeFrame) (k : ℕ) (i : Instr Target) → IsTypedAt env frames k i → NoneFails env k i (frames k)
at_each env frames k i typed =
    let second = (none_of (frame_fault env k (falling env frames k)) _ typed.none).1 in
    none_fails env k i (frames k) (ap (λ o. option_map_or (instruction_fault env k i) o None) (sym typed.here) ∙ second)

-- ---- what is wanted is there

all_right : (vs : List Verdict) → list_any is_wrong vs ≡ false → list_any is_uninitialized vs ≡ false → AllByRecursion IsRight vs
all_right [] e d = record {}
all_right (right ∷ vs) e d = (refl, all_right vs e d)
all_right (wrong ∷ vs) e d = absurd (true≢false e)
all_right (uninitialized ∷ vs) e d = absurd (true≢false d)

-- each rule of the instruction itself
pub record OwnRulesHold (env : Environment) (i : Instr Target) (f : TypeFrame) : Type 0 where
  pub shape : nat_le (words_wanted (wants env i.what)) (length f.stack) ≡ true
  pub types : (not (list_any is_wrong (verdicts env (wants env i.what) f.stack)) && is_local_right env i.what f) ≡ true
  pub objects : (not (list_any is_uninitialized (verdicts env (wants env i.what) f.stack)) && is_initialization_right i i.what f) ≡ true
  pub limits : (are_locals_there env i.what && nat_le (length (frame_after env i f).stack) env.max_stack) ≡ true
  pub result : returns_rightly env i.what f ≡ true

own_rules : (env : Environment) (i : Instr Target) (f : TypeFrame) → own_fault env i f ≡ None → OwnRulesHold env i f
own_rules env i f e =
    let shape = none_of _ _ e in
    let types = none_of _ _ shape.1 in
    let objects = none_of _ _ types.1 in
    let limits = none_of _ _ objects.1 in
    record {
      shape = holds _ _ shape.0;
      types = holds _ _ types.0;
      objects = holds _ _ objects.0;
      limits = holds _ _ limits.0;
      result = holds _ _ limits.1;
    }

pub own_at_each : (env : Environment) (frames : ℕ → TypeFrame) (k : ℕ) (i : Instr Target) → IsTypedAt env frames k i → OwnRulesHold env i (frames k)
own_at_each env frames k i typed = own_rules env i (frames k) (at_each env frames k i typed).own

has_wanted : (env : Environment) (i : Instr Target) (f : TypeFrame) → OwnRulesHold env i f → HasWanted env i f
has_wanted env i f own = record {
  enough = leb-true _ _ own.shape;
  right = all_right (verdicts env (wants env i.what) f.stack)
      (not-true _ (and_parts _ _ own.types).0)
      (not-true _ (and_parts _ _ own.objects).0);
}

uses_right : (env : Environment) (i : Instr Target) (f : TypeFrame) → OwnRulesHold env i f → UsesRightTypes env i f
uses_right env i f own = record {
  local = (and_parts (not (list_any is_wrong (verdicts env (wants env i.what) f.stack))) _ own.types).1;
  there = (and_parts (are_locals_there env i.what) _ own.limits).0;
  initialization = (and_parts (not (list_any is_uninitialized (verdicts env (wants env i.what) f.stack))) _ own.objects).1;
  result = own.result;
}

pub wanted_there : (env : Environment) (frames : ℕ → TypeFrame) → IsAssignment env frames → OfEach env frames (λ k i f. HasWanted env i f)
wanted_there env frames typed k i there =
    has_wanted env i (frames k) (own_at_each env frames k i (typed k i (slice_get_within env.steps k i there) there))

pub right_types : (env : Environment) (frames : ℕ → TypeFrame) → IsAssignment env frames → OfEach env frames (λ k i f. UsesRightTypes env i f)
right_types env frames typed k i there =
    uses_right env i (frames k) (own_at_each env frames k i (typed k i (slice_get_within env.steps k i there) there))
