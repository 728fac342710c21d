-- Frames at the beginning, and the room that frames have.
use Rattle.std.proofs.Common.{◌≡◌, ◌<◌, ◌≤◌, ℕ, zero, suc, Bool, true, false, nat_le, Option, None, Some, List, length, refl, sym, subst, ap, ◌∙◌, arith, slice_get, option_and_then, if◌then◌else◌}
use Rattle.std.proofs.lemmas.Bool.{and_parts, leb-true, true≢false}
use Rattle.std.proofs.lemmas.Option.{same_Some, none-some, slice_get_within}
use Rattle.instructions.specs.declared.what.Instr.{Instr}
use Rattle.instructions.specs.declared.what.Target.{Target}
use Rattle.instructions.specs.What.{falls_through}
use Rattle.type_rules.specs.declared.types.VerificationType.{VerificationType}
use Rattle.type_rules.specs.Assignable.{are_same_types}
use Rattle.type_rules.specs.Environment.{Environment, TypeFrame, entry_frame, frame_of_map}
use Rattle.type_rules.specs.FrameAfter.{frame_after}
use Rattle.type_rules.specs.TypeFaults.{is_same_flag, is_same_frame, frame_here, entry_fault, room_fault, meeting_fault, are_locals_there}
use Rattle.type_rules.specs.TypeSafe.{falling, fallen, IsTypedAt, IsAssignment}
use Rattle.type_rules.proofs.Falling.{step_there}
use Rattle.type_laws.specs.Frames.{OfEach, HasRoom}
use Rattle.type_laws.proofs.Chains.{none_of, holds}
use Rattle.type_laws.proofs.Walked.{no_frame_fault}
use Rattle.type_laws.proofs.SameTypes.{same_types}
use Rattle.type_laws.proofs.Sizes.{padded_length, locals_kept}
use Rattle.type_laws.proofs.Kept.{OwnRulesHold, own_at_each}

-- ---- the first frame

same_flag : (a b : Bool) → is_same_flag a b ≡ true → a ≡ b
same_flag true b e = sym e
same_flag false true e = absurd (true≢false (sym e))
same_flag false false e = refl

same_frame : (f g : TypeFrame) → is_same_frame f g ≡ true → f ≡ g
same_frame f g e =
    let locals = and_parts (are_same_types f.locals g.locals) _ e in
    let stack = and_parts (are_same_types f.stack g.stack) _ locals.1 in
    ap (λ (x : List VerificationType). record { locals = x; stack = f.stack; flag_this_uninit = f.flag_this_uninit }) (same_types f.locals g.locals locals.0)
    ∙ (ap (λ (x : List VerificationType). record { locals = g.locals; stack = x; flag_this_uninit = f.flag_this_uninit }) (same_types f.stack g.stack stack.0)
    ∙ ap (λ (x : Bool). record { locals = g.locals; stack = g.stack; flag_this_uninit = x }) (same_flag f.flag_this_uninit g.flag_this_uninit stack.1))

first_met : (env : Environment) (m : Option TypeFrame) (f : TypeFrame) → meeting_fault env 0 (Some (entry_frame env)) m ≡ None → frame_here env m (Some (entry_frame env)) ≡ Some f → f ≡ entry_frame env
first_met env None f e here = same_Some f (entry_frame env) (sym here)
first_met env (Some g) f e here =
    same_Some f (frame_of_map env g) (sym here) ∙ sym (same_frame (entry_frame env) (frame_of_map env g) (holds _ _ e))

pub no_meeting_fault : (env : Environment) (frames : ℕ → TypeFrame) (k : ℕ) (i : Instr Target) → IsTypedAt env frames k i → meeting_fault env k (falling env frames k) (env.map_at k) ≡ None
no_meeting_fault env frames k i typed =
    let later = none_of (entry_fault env k) _ (no_frame_fault env k i (falling env frames k) typed.none) in
    (none_of (room_fault env (env.map_at k)) _ later.1).1

no_room_fault : (env : Environment) (frames : ℕ → TypeFrame) (k : ℕ) (i : Instr Target) → IsTypedAt env frames k i → room_fault env (env.map_at k) ≡ None
no_room_fault env frames k i typed =
    let later = none_of (entry_fault env k) _ (no_frame_fault env k i (falling env frames k) typed.none) in
    (none_of (room_fault env (env.map_at k)) _ later.1).0

pub first_is_entry : (env : Environment) (frames : ℕ → TypeFrame) → IsAssignment env frames → 0 < length env.steps → frames 0 ≡ entry_frame env
first_is_entry env frames typed some =
    let here = step_there env.steps 0 some in
    let at = typed 0 here.0 some here.1 in
    first_met env (env.map_at 0) (frames 0) (no_meeting_fault env frames 0 here.0 at) at.here

-- ---- room

-- what falls out of an instruction is what it leaves
fallen_if : (test : Bool) (g b : TypeFrame) → (if test then Some g else None) ≡ Some b → g ≡ b
fallen_if true g b e = same_Some g b e
fallen_if false g b e = absurd (none-some b e)

pub fell : (env : Environment) (f : TypeFrame) (o : Option (Instr Target)) (b : TypeFrame) → option_and_then (fallen env f) o ≡ Some b → (i : Instr Target) × (o ≡ Some i) × (frame_after env i f ≡ b)
fell env f None b e = absurd (none-some b e)
fell env f (Some i) b e = (i, refl, fallen_if (falls_through i.what) (frame_after env i f) b e)

here_locals : (env : Environment) (m before : Option TypeFrame) (f : TypeFrame) → frame_here env m before ≡ Some f
    → ((b : TypeFrame) → before ≡ Some b → length b.locals ≡ env.max_locals) → length f.locals ≡ env.max_locals
here_locals env None before f here known = known f here
here_locals env (Some g) before f here known =
    ap (λ (x : TypeFrame). length x.locals) (sym (same_Some (frame_of_map env g) f here)) ∙ padded_length env.max_locals g.locals

fell_locals : (env : Environment) (f : TypeFrame) (o : Option (Instr Target)) (b : TypeFrame) → length f.locals ≡ env.max_locals
    → option_and_then (fallen env f) o ≡ Some b → length b.locals ≡ env.max_locals
fell_locals env f o b known e =
    let from = fell env f o b e in
    ap (λ (x : TypeFrame). length x.locals) (sym from.2) ∙ (locals_kept env from.0.at from.0.what f ∙ known)

locals_room : (env : Environment) (frames : ℕ → TypeFrame) → IsAssignment env frames → (k : ℕ) → k < length env.steps → length (frames k).locals ≡ env.max_locals
locals_room env frames typed zero lt =
    let here = step_there env.steps 0 lt in
    here_locals env (env.map_at 0) (Some (entry_frame env)) (frames 0) (typed 0 here.0 lt here.1).here
    (λ b e. ap (λ (x : TypeFrame). length x.locals) (sym (same_Some (entry_frame env) b e)) ∙ padded_length env.max_locals env.entry)
locals_room env frames typed (suc j) lt =
    let here = step_there env.steps (suc j) lt in
    let known : length (frames j).locals ≡ env.max_locals = locals_room env frames typed j (omega arith) in
    here_locals env (env.map_at (suc j)) (falling env frames (suc j)) (frames (suc j)) (typed (suc j) here.0 lt here.1).here
    (λ b e. fell_locals env (frames j) (slice_get env.steps j) b known e)

here_stack : (env : Environment) (m before : Option TypeFrame) (f : TypeFrame) → frame_here env m before ≡ Some f → room_fault env m ≡ None
    → ((b : TypeFrame) → before ≡ Some b → length b.stack ≤ env.max_stack) → length f.stack ≤ env.max_stack
here_stack env None before f here room known = known f here
here_stack env (Some g) before f here room known =
    let parts = and_parts (nat_le (length g.locals) env.max_locals) (nat_le (length g.stack) env.max_stack) (holds _ _ room) in
    let P : TypeFrame → Type 0 = λ x. length x.stack ≤ env.max_stack in
    subst P (same_Some (frame_of_map env g) f here) (leb-true _ _ parts.1)

left_stack : (env : Environment) (i : Instr Target) (f : TypeFrame) → OwnRulesHold env i f → length (frame_after env i f).stack ≤ env.max_stack
left_stack env i f own = leb-true _ _ (and_parts (are_locals_there env i.what) _ own.limits).1

fell_stack : (env : Environment) (f : TypeFrame) (o : Option (Instr Target)) (b : TypeFrame) → ((i : Instr Target) → o ≡ Some i → length (frame_after env i f).stack ≤ env.max_stack)
    → option_and_then (fallen env f) o ≡ Some b → length b.stack ≤ env.max_stack
fell_stack env f o b known e =
    let from = fell env f o b e in
    let P : TypeFrame → Type 0 = λ x. length x.stack ≤ env.max_stack in
    subst P from.2 (known from.0 from.1)

stack_room : (env : Environment) (frames : ℕ → TypeFrame) → IsAssignment env frames → (k : ℕ) → k < length env.steps → length (frames k).stack ≤ env.max_stack
stack_room env frames typed zero lt =
    let here = step_there env.steps 0 lt in
    let P : TypeFrame → Type 0 = λ x. length x.stack ≤ env.max_stack in
    subst P (sym (first_is_entry env frames typed lt)) (omega arith)
stack_room env frames typed (suc j) lt =
    let here = step_there env.steps (suc j) lt in
    let at = typed (suc j) here.0 lt here.1 in
    here_stack env (env.map_at (suc j)) (falling env frames (suc j)) (frames (suc j)) at.here (no_room_fault env frames (suc j) here.0 at)
    (λ b e. fell_stack env (frames j) (slice_get env.steps j) b (λ i there. left_stack env i (frames j) (own_at_each env frames j i (typed j i (omega arith) there))) e)

pub have_room : (env : Environment) (frames : ℕ → TypeFrame) → IsAssignment env frames → OfEach env frames (λ k i f. HasRoom env f)
have_room env frames typed k i there =
    let lt : k < length env.steps = slice_get_within env.steps k i there in
    record { locals = locals_room env frames typed k lt; stack = stack_room env frames typed k lt }
