-- The instructions of a method one by one: frames for all of them, or the first rule that fails.
use Rattle.std.proofs.Common.{◌≡◌, ◌<◌, ◌≤◌, ◌⊎◌, ℕ, zero, suc, ◌==◌, Option, None, Some, length, refl, sym, subst, inl, inr, ap, ◌∙◌, arith, slice_get, option_and_then, if◌then◌else◌}
use Rattle.std.proofs.lemmas.Bool.{cases_lt}
use Rattle.std.proofs.lemmas.Option.{same_Some, none-some}
use Rattle.instructions.specs.declared.what.Instr.{Instr}
use Rattle.instructions.specs.declared.what.Target.{Target}
use Rattle.type_rules.specs.declared.refusal.VerifyKind.{VerifyKind}
use Rattle.type_rules.specs.Environment.{Environment, TypeFrame, entry_frame, frame_of_map}
use Rattle.type_rules.specs.TypeFaults.{frame_here, fault_at, frame_fault, entry_fault, room_fault, meeting_fault}
use Rattle.type_rules.specs.TypeSafe.{falling, fallen, IsTypedAt, AreTypedBefore, IsTypeSafe, IsFirstTypeFault}
use Rattle.type_rules.proofs.Falling.{step_there, same_falling}
use Rattle.type_laws.specs.Answers.{HasFirstTypeFault, AssignmentsAgree}
use Rattle.type_laws.specs.Walks.{IsWalkedTo, WalksDecide}
use Rattle.type_laws.proofs.Chains.{none_of}

-- frames with another one at a number
abbrev with_frame : (ℕ → TypeFrame) → ℕ → TypeFrame → ℕ → TypeFrame
with_frame frames n f k = if k == n then f else frames k

frame_there : (frames : ℕ → TypeFrame) (n : ℕ) (f : TypeFrame) → with_frame frames n f n ≡ f
frame_there frames n f = grind arith

frame_below : (frames : ℕ → TypeFrame) (n : ℕ) (f : TypeFrame) (k : ℕ) → k < n → with_frame frames n f k ≡ frames k
frame_below frames n f k lt = grind arith

fall_alike : (env : Environment) (p q : ℕ → TypeFrame) (k : ℕ) → ((j : ℕ) → j < k → p j ≡ q j) → falling env p k ≡ falling env q k
fall_alike env p q zero same = refl
fall_alike env p q (suc j) same = ap (λ x. option_and_then (fallen env x) (slice_get env.steps j)) (same j (omega arith))

typed_alike : (env : Environment) (p q : ℕ → TypeFrame) (k : ℕ) (i : Instr Target) → ((j : ℕ) → j < k → p j ≡ q j) → p k ≡ q k → IsTypedAt env p k i → IsTypedAt env q k i
typed_alike env p q k i below here typed =
    let fell : falling env p k ≡ falling env q k = fall_alike env p q k below in
    record {
      here = ap (λ x. frame_here env (env.map_at k) x) (sym fell) ∙ (typed.here ∙ ap (λ x. Some x) here);
      none = ap (λ x. fault_at env k i x) (sym fell) ∙ typed.none;
    }

-- where the two meet without a fault, there is a frame
met : (env : Environment) (k : ℕ) (before here : Option TypeFrame) → meeting_fault env k before here ≡ None → (f : TypeFrame) × (frame_here env here before ≡ Some f)
met env k None None e = absurd (none-some _ (sym e))
met env k (Some f) None e = (f, refl)
met env k before (Some g) e = (frame_of_map env g, refl)

pub no_frame_fault : (env : Environment) (k : ℕ) (i : Instr Target) (before : Option TypeFrame) → fault_at env k i before ≡ None → frame_fault env k before ≡ None
no_frame_fault env k i before e = (none_of (frame_fault env k before) _ e).0

has_frame : (env : Environment) (k : ℕ) (before : Option TypeFrame) → frame_fault env k before ≡ None → (f : TypeFrame) × (frame_here env (env.map_at k) before ≡ Some f)
has_frame env k before e =
    let later = none_of (entry_fault env k) _ e in
    met env k before (env.map_at k) (none_of (room_fault env (env.map_at k)) _ later.1).1

one_more_typed : (env : Environment) (frames : ℕ → TypeFrame) (n : ℕ) (i : Instr Target) (f : TypeFrame)
    → slice_get env.steps n ≡ Some i → AreTypedBefore env frames n → fault_at env n i (falling env frames n) ≡ None
    → frame_here env (env.map_at n) (falling env frames n) ≡ Some f → AreTypedBefore env (with_frame frames n f) (suc n)
one_more_typed env frames n i f there before none here k l lt at =
    let fell : falling env (with_frame frames n f) n ≡ falling env frames n = fall_alike env (with_frame frames n f) frames n (λ j less. frame_below frames n f j less) in
    elim (cases_lt k n) [
      | inl less ↦
          typed_alike env frames (with_frame frames n f) k l (λ j small. sym (frame_below frames n f j (omega arith))) (sym (frame_below frames n f k less)) (before k l less at)
      | inr more ↦
          let same_number : n ≡ k = omega arith in
          let P : ℕ → Type 0 = λ m. slice_get env.steps m ≡ Some l in
          let same : i ≡ l = same_Some i l (sym there ∙ subst P (sym same_number) at) in
          let typed : IsTypedAt env (with_frame frames n f) n i = record {
            here = ap (λ x. frame_here env (env.map_at n) x) fell ∙ (here ∙ ap (λ x. Some x) (sym (frame_there frames n f)));
            none = ap (λ x. fault_at env n i x) fell ∙ none;
          } in
          let Q : ℕ → Type 0 = λ m. IsTypedAt env (with_frame frames n f) m i in
          let R : Instr Target → Type 0 = λ j. IsTypedAt env (with_frame frames n f) k j in
          subst R same (subst Q same_number typed)
    ]

-- ---- a walk

walk_next : (env : Environment) (k : ℕ) (i : Instr Target) (before : Option TypeFrame) (f : TypeFrame) → IsWalkedTo env k before → slice_get env.steps k ≡ Some i
    → fault_at env k i before ≡ None → frame_here env (env.map_at k) before ≡ Some f → IsWalkedTo env (suc k) (fallen env f i)
walk_next env k i before f w there none here = record {
  frames = with_frame w.frames k f;
  typed = one_more_typed env w.frames k i f there w.typed
      (ap (λ x. fault_at env k i x) w.falls ∙ none)
      (ap (λ x. frame_here env (env.map_at k) x) w.falls ∙ here);
  falls = ap (λ o. option_and_then (fallen env (with_frame w.frames k f k)) o) there ∙ ap (λ x. fallen env x i) (frame_there w.frames k f);
}

walk_fault : (env : Environment) (k : ℕ) (i : Instr Target) (before : Option TypeFrame) (kind : VerifyKind) → IsWalkedTo env k before → slice_get env.steps k ≡ Some i
    → fault_at env k i before ≡ Some kind → IsFirstTypeFault env k kind i
walk_fault env k i before kind w there fault =
    record { frames = w.frames; there = there; before = w.typed; fault = ap (λ x. fault_at env k i x) w.falls ∙ fault }

walk_start : (env : Environment) → IsWalkedTo env 0 (Some (entry_frame env))
walk_start env = record { frames = λ k. entry_frame env; typed = λ k i lt at. absurd (omega arith); falls = refl }

pub decide : (env : Environment) → WalksDecide env
decide env = record {
  start = walk_start env;
  frame = has_frame env;
  next = walk_next env;
  end = λ before w. (w.frames, w.typed);
  fault = walk_fault env;
}

-- ---- a method is type safe or refused

abbrev Walked : Environment → ℕ → Type 0
Walked env n = ((before : Option TypeFrame) × IsWalkedTo env n before) ⊎ HasFirstTypeFault env

looked_at : (env : Environment) (n : ℕ) (i : Instr Target) (before : Option TypeFrame) (fault : Option VerifyKind) → IsWalkedTo env n before
    → slice_get env.steps n ≡ Some i → fault_at env n i before ≡ fault → Walked env (suc n)
looked_at env n i before None w there e =
    let f = has_frame env n before (no_frame_fault env n i before e) in
    inl (fallen env f.0 i, walk_next env n i before f.0 w there e f.1)
looked_at env n i before (Some kind) w there e = inr (n, kind, i, walk_fault env n i before kind w there e)

walked : (env : Environment) (n : ℕ) → n ≤ length env.steps → Walked env n
walked env zero le = inl (Some (entry_frame env), walk_start env)
walked env (suc n) le =
    let here = step_there env.steps n (omega arith) in
    elim (walked env n (omega arith)) [
      | inl w ↦ looked_at env n here.0 w.0 (fault_at env n here.0 w.0) w.1 here.1 refl
      | inr fault ↦ inr fault
    ]

pub safe_or_refused : (env : Environment) → IsTypeSafe env ⊎ HasFirstTypeFault env
safe_or_refused env =
    elim (walked env (length env.steps) (omega arith)) [ inl w ↦ inl (w.1.frames, w.1.typed) | inr fault ↦ inr fault ]

-- ---- assignments agree

pub agree : (env : Environment) → AssignmentsAgree env
agree env p q tp tq k lt =
    let here = step_there env.steps k lt in
    let fell : falling env p k ≡ falling env q k = same_falling env p q (length env.steps) k (omega arith) tp tq (omega arith) in
    same_Some (p k) (q k) (sym (tp k here.0 lt here.1).here ∙ (ap (λ x. frame_here env (env.map_at k) x) fell ∙ (tq k here.0 lt here.1).here))
