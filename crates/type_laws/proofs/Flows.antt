-- Where instructions lead, and where handlers begin.
use Rattle.std.proofs.Common.{◌≡◌, ◌<◌, ◌⊎◌, ℕ, suc, Bool, true, false, not, ◌||◌, nat_lt, Option, None, Some, List, [], ◌∷◌, length, refl, sym, subst, inl, inr, ap, ◌∙◌, slice_get, option_and_then, if◌then◌else◌}
use Rattle.std.specs.List.{AllByRecursion}
use Rattle.std.proofs.lemmas.Bool.{ltb-true, true≢false, not-true}
use Rattle.std.proofs.lemmas.Option.{same_Some, none-some, slice_get_within}
use Rattle.instructions.specs.declared.what.Instr.{Instr}
use Rattle.instructions.specs.declared.what.Target.{Target}
use Rattle.instructions.specs.What.{targets_of, falls_through}
use Rattle.type_rules.specs.declared.refusal.VerifyKind.{VerifyKind}
use Rattle.type_rules.specs.Environment.{Environment, TypeFrame, TypedHandler, frame_of_map}
use Rattle.type_rules.specs.FrameAfter.{frame_after}
use Rattle.type_rules.specs.TypeFaults.{is_frame_assignable, is_covered, thrown_frame, frame_here, meeting_fault, flow_to, flows_fault, handler_fault, handlers_fault, end_fault}
use Rattle.type_rules.specs.TypeSafe.{falling, fallen, IsAssignment}
use Rattle.type_rules.proofs.Falling.{step_there}
use Rattle.type_laws.specs.Frames.{OfEach, Enters, GoesOn, IsEntered, HandlersAreEntered}
use Rattle.type_laws.proofs.Chains.{none_of, holds}
use Rattle.type_laws.proofs.Kept.{at_each}
use Rattle.type_laws.proofs.Padded.{goes_to_padded}
use Rattle.type_laws.proofs.Rooms.{no_meeting_fault}

-- ---- to a map frame

goes_to_map : (env : Environment) (f : TypeFrame) (m before : Option TypeFrame) (g : TypeFrame) → flow_to env f m ≡ None → frame_here env m before ≡ Some g → is_frame_assignable env f g ≡ true
goes_to_map env f None before g e here = absurd (none-some _ (sym e))
goes_to_map env f (Some there) before g e here =
    let P : TypeFrame → Type 0 = λ x. is_frame_assignable env f x ≡ true in
    subst P (same_Some (frame_of_map env there) g here) (goes_to_padded env f there (holds _ _ e))

enters : (env : Environment) (frames : ℕ → TypeFrame) → IsAssignment env frames → (f : TypeFrame) (step : ℕ) → flow_to env f (env.map_at step) ≡ None → Enters env frames f step
enters env frames typed f step e lt =
    let here = step_there env.steps step lt in
    goes_to_map env f (env.map_at step) (falling env frames step) (frames step) e (typed step here.0 lt here.1).here

-- ---- to the next instruction

next_met : (env : Environment) (k : ℕ) (m before : Option TypeFrame) (a f : TypeFrame) → before ≡ Some a → meeting_fault env (suc k) before m ≡ None → frame_here env m before ≡ Some f → (f ≡ a) ⊎ (is_frame_assignable env a f ≡ true)
next_met env k None before a f same e here = inl (same_Some f a (sym here ∙ same))
next_met env k (Some g) None a f same e here = absurd (none-some a same)
next_met env k (Some g) (Some b) a f same e here =
    let P : TypeFrame → Type 0 = λ x. is_frame_assignable env x f ≡ true in
    let Q : TypeFrame → Type 0 = λ x. is_frame_assignable env b x ≡ true in
    inr (subst P (same_Some b a same) (subst Q (same_Some (frame_of_map env g) f here) (goes_to_padded env b g (holds _ _ e))))

falls : (test : Bool) (g : TypeFrame) → test ≡ true → (if test then Some g else None) ≡ Some g
falls true g e = refl
falls false g e = absurd (true≢false (sym e))

falls_on : (env : Environment) (f : TypeFrame) (o : Option (Instr Target)) (i : Instr Target) → o ≡ Some i → falls_through i.what ≡ true → option_and_then (fallen env f) o ≡ Some (frame_after env i f)
falls_on env f o i there e =
    ap (λ x. option_and_then (fallen env f) x) there ∙ falls (falls_through i.what) (frame_after env i f) e

or_second : (a b : Bool) → a ≡ true → (not a || b) ≡ true → b ≡ true
or_second true b e d = d
or_second false b e d = absurd (true≢false (sym e))

next_inside : (env : Environment) (k : ℕ) (i : Instr Target) → end_fault env k i.what ≡ None → falls_through i.what ≡ true → suc k < length env.steps
next_inside env k i e through =
    ltb-true _ _ (or_second (falls_through i.what) (nat_lt (suc k) (length env.steps)) through (holds _ _ e))

next_entered : (env : Environment) (frames : ℕ → TypeFrame) → IsAssignment env frames → (k : ℕ) (i : Instr Target) → slice_get env.steps k ≡ Some i → falls_through i.what ≡ true → suc k < length env.steps
    → (frames (suc k) ≡ frame_after env i (frames k)) ⊎ Enters env frames (frame_after env i (frames k)) (suc k)
next_entered env frames typed k i there through lt =
    let here = step_there env.steps (suc k) lt in
    let at = typed (suc k) here.0 lt here.1 in
    let met = next_met env k (env.map_at (suc k)) (falling env frames (suc k)) (frame_after env i (frames k)) (frames (suc k))
    (falls_on env (frames k) (slice_get env.steps k) i there through) (no_meeting_fault env frames (suc k) here.0 at) at.here in
    elim met [ inl same ↦ inl same | inr goes ↦ inr (λ inside. goes) ]

-- ---- to each target

targets_entered : (env : Environment) (frames : ℕ → TypeFrame) → IsAssignment env frames → (f : TypeFrame) (targets : List Target) → flows_fault env f targets ≡ None → AllByRecursion (λ t. Enters env frames f t.step) targets
targets_entered env frames typed f [] e = record {}
targets_entered env frames typed f (t ∷ targets) e =
    let parts = none_of (flow_to env f (env.map_at t.step)) _ e in
    (enters env frames typed f t.step parts.0, targets_entered env frames typed f targets parts.1)

pub go_on : (env : Environment) (frames : ℕ → TypeFrame) → IsAssignment env frames → OfEach env frames (GoesOn env frames)
go_on env frames typed k i there =
    let kept = at_each env frames k i (typed k i (slice_get_within env.steps k i there) there) in
    record {
      inside = next_inside env k i kept.end;
      next = λ through. next_entered env frames typed k i there through (next_inside env k i kept.end through);
      targets = targets_entered env frames typed (frame_after env i (frames k)) (targets_of i.what) kept.flows;
    }

-- ---- to handlers

where_covered : (test : Bool) (fault : Option VerifyKind) → (if test then fault else None) ≡ None → test ≡ true → fault ≡ None
where_covered true fault e covered = e
where_covered false fault e covered = absurd (true≢false (sym covered))

handler_entered : (env : Environment) (frames : ℕ → TypeFrame) → IsAssignment env frames → (f : TypeFrame) (h : TypedHandler) → handler_fault env f h ≡ None → IsEntered env frames f h
handler_entered env frames typed f h e =
    let first = none_of _ _ e in
    let second = none_of (flow_to env (thrown_frame f h) (env.map_at h.entry)) _ first.1 in
    record {
      initialized = not-true _ (holds _ _ first.0);
      entry = enters env frames typed (thrown_frame f h) h.entry second.0;
      caught = holds _ _ second.1;
    }

handlers_each : (env : Environment) (frames : ℕ → TypeFrame) → IsAssignment env frames → (k : ℕ) (f : TypeFrame) (hs : List TypedHandler) → handlers_fault env k f hs ≡ None
    → AllByRecursion (λ h. is_covered h k ≡ true → IsEntered env frames f h) hs
handlers_each env frames typed k f [] e = record {}
handlers_each env frames typed k f (h ∷ hs) e =
    let parts = none_of (if is_covered h k then handler_fault env f h else None) _ e in
    ((λ covered. handler_entered env frames typed f h (where_covered (is_covered h k) (handler_fault env f h) parts.0 covered)), handlers_each env frames typed k f hs parts.1)

pub entered : (env : Environment) (frames : ℕ → TypeFrame) → IsAssignment env frames → OfEach env frames (λ k i f. HandlersAreEntered env frames k f)
entered env frames typed k i there =
    let kept = at_each env frames k i (typed k i (slice_get_within env.steps k i there) there) in
    handlers_each env frames typed k (frames k) env.handlers kept.handlers
