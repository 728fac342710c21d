-- Many silent steps.
use Rattle.std.proofs.Common.{◌≡◌, ◌≤◌, ◌<◌, inl, inr, ℕ, zero, suc, false, Some, List, length, map, refl, ap, sym, subst, ◌∙◌, arith}
use Rattle.std.proofs.lemmas.Bool.{cases_lt}
use Rattle.std.specs.Option.{option_and_then}
use Rattle.code_decode.specs.declared.code.ClassUnit.{ClassUnit}
use Rattle.frame_snapshot.specs.FrameStack.{Saved, FrameStack, frame_count}
use Rattle.frame_snapshot.specs.declared.stage.FrameStage.TheVariants.{Begun}
use Rattle.instructions.specs.declared.what.Instr.{Instr}
use Rattle.instructions.specs.declared.what.Target.{Target}
use Rattle.interp_local.specs.Frames.{frame_now}
use Rattle.interp_local.specs.Runs.{IsLocalRun, IsLocalStep}
use Rattle.interp_local.specs.Steps.{local_now}
use Rattle.op_core.specs.ThreadCode.{quiet_step, quiet_steps, leaves_any, LeavesNoSave}
use Rattle.java_rows.specs.Plan.{goes, ready, silently}
use Rattle.java_rows.specs.Program.{steps_of}
use Rattle.java_rows.specs.Thread.{at, begun, java_code, next_of, silent_of}
use Rattle.interp_plans.specs.Todos.{plan_at}
use Rattle.interp_plans.specs.Uses.{frame_of}
use Rattle.interp_calls.specs.Local.{local_of, local_over, saved_locals, waiting_below}
use Rattle.interp_calls.proofs.SilentLemmas.{begun_moves, quiet_is, below_count, leaves_not}

-- what many local steps leave alone
pub record StaysLocal (old new : FrameStack) : Type 0 where
  pub stage : new.here.stage ≡ Begun
  pub below : new.below ≡ old.below
  pub saves : new.saves ≡ old.saves
  pub method : new.here.method ≡ old.here.method

-- the plan of a frame at its beginning
begins : (us : List ClassUnit) (me : ℕ) (s : FrameStack) → s.here.stage ≡ Begun → plan_at us me (frame_of s.here) s.here.stage ≡ begun us me (frame_of s.here)
begins us me s is = ap (plan_at us me (frame_of s.here)) is

step_moves : (us : List ClassUnit) (me : ℕ) (steps : List (Instr Target)) (s new : FrameStack) → steps ≡ steps_of us s.here.method → s.here.stage ≡ Begun
    → IsLocalStep us steps s new → plan_at us me (frame_of s.here) s.here.stage ≡ silently (ready (goes (frame_now new)))
step_moves us me steps s new those is step = begins us me s is
    ∙ begun_moves us me s (frame_now new) (ap (λ (xs : List (Instr Target)). local_now us xs s) (sym those) ∙ step.moved)

-- one local step is one quiet step
step_quiet : (us : List ClassUnit) (me : ℕ) (steps : List (Instr Target)) (s new : FrameStack) → steps ≡ steps_of us s.here.method → s.here.stage ≡ Begun → frame_count s ≤ 1024
    → IsLocalStep us steps s new → quiet_step java_code (local_of us me s) ≡ Some (local_of us me new)
step_quiet us me steps s new those is few step =
    let plan : plan_at us me (frame_of s.here) s.here.stage ≡ silently (ready (goes (frame_now new))) = step_moves us me steps s new those is step in
    let after : new.here.stage ≡ Begun = step.local.stage ∙ is in
    let leads : silent_of us me (plan_at us me (frame_of s.here) s.here.stage) (waiting_below us me s.below) ≡ local_of us me new =
    ap (λ p. silent_of us me p (waiting_below us me s.below)) plan
    ∙ ap (λ b. at us me (begun us me (frame_now new)) (waiting_below us me b)) (sym step.local.below)
    ∙ ap (λ p. at us me p (waiting_below us me new.below)) (sym (begins us me new after)) in
    let count : frame_count new ≤ 1024 = subst (λ b. suc (length b) ≤ 1024) (sym step.local.below) few in
    quiet_is (local_of us me s) (local_of us me new) (ap next_of plan) leads (below_count us me new count)

pub run_stays : (us : List ClassUnit) (steps : List (Instr Target)) (n : ℕ) (old new : FrameStack) → old.here.stage ≡ Begun → IsLocalRun us steps n old new → StaysLocal old new
run_stays us steps zero old new is run = record { stage = ap (λ (s : FrameStack). s.here.stage) run ∙ is; below = ap (λ (s : FrameStack). s.below) run; saves = ap (λ (s : FrameStack). s.saves) run; method = ap (λ (s : FrameStack). s.here.method) run }
run_stays us steps (suc n) old new is run =
    let before = run_stays us steps n old run.0 is run.1 in
    let step = run.2.local in
    record { stage = step.stage ∙ before.stage; below = step.below ∙ before.below; saves = step.saves ∙ before.saves; method = step.method ∙ before.method }

count_stays : (old new : FrameStack) → StaysLocal old new → frame_count old ≤ 1024 → frame_count new ≤ 1024
count_stays old new stays few = subst (λ b. suc (length b) ≤ 1024) (sym stays.below) few

pub steps_stay : (us : List ClassUnit) (old new : FrameStack) → StaysLocal old new → steps_of us old.here.method ≡ steps_of us new.here.method
steps_stay us old new stays = ap (steps_of us) (sym stays.method)

pub some_same : {A : Type 0} {x y : A} → Some x ≡ Some y → x ≡ y
some_same is = search

-- n local steps are n quiet steps
pub run_quiet : (us : List ClassUnit) (me : ℕ) (n : ℕ) (old new : FrameStack) → old.here.stage ≡ Begun → frame_count old ≤ 1024
    → IsLocalRun us (steps_of us old.here.method) n old new → quiet_steps java_code n (local_of us me old) ≡ Some (local_of us me new)
run_quiet us me zero old new is few run = ap (λ (s : FrameStack). Some (local_of us me s)) (sym run)
run_quiet us me (suc n) old new is few run =
    let steps = steps_of us old.here.method in
    let stays = run_stays us steps n old run.0 is run.1 in
    ap (option_and_then (quiet_step java_code)) (run_quiet us me n old run.0 is few run.1)
    ∙ step_quiet us me steps run.0 new (steps_stay us old run.0 stays) stays.stage (count_stays old run.0 stays few) run.2

-- where the run stood at an earlier place
run_at : (us : List ClassUnit) (steps : List (Instr Target)) (n k : ℕ) (old new : FrameStack) → k < n → IsLocalRun us steps n old new
    → (mid : FrameStack) × (next : FrameStack) × IsLocalRun us steps k old mid × IsLocalStep us steps mid next
run_at us steps zero k old new below run = absurd (omega (arith, below))
run_at us steps (suc n) k old new below run =
    elim (cases_lt k n) [
      | inl less ↦ run_at us steps n k old run.0 less run.1
      | inr last ↦ (let same : n ≡ k = omega (arith, below, last) in (run.0, new, subst (λ j. IsLocalRun us steps j old run.0) same run.1, run.2))
    ]

pub run_leaves_none : (us : List ClassUnit) (me : ℕ) (n : ℕ) (old new : FrameStack) → old.here.stage ≡ Begun → frame_count old ≤ 1024
    → IsLocalRun us (steps_of us old.here.method) n old new → LeavesNoSave java_code (saved_locals us me old) n (local_of us me old)
run_leaves_none us me n old new is few run k m below there =
    let steps = steps_of us old.here.method in
    let at_k = run_at us steps n k old new below run in
    let mid = at_k.0 in
    let stays = run_stays us steps k old mid is at_k.2 in
    let m_is : local_of us me mid ≡ m = some_same (sym (run_quiet us me k old mid is few at_k.2) ∙ there) in
    let plan : plan_at us me (frame_of mid.here) mid.here.stage ≡ silently (ready (goes (frame_now at_k.1))) =
    step_moves us me steps mid at_k.1 (steps_stay us old mid stays) stays.stage at_k.3 in
    let none : leaves_any java_code (saved_locals us me mid) (local_of us me mid) ≡ false = leaves_not us me mid _ plan refl in
    subst (λ l. leaves_any java_code (saved_locals us me old) l ≡ false) m_is
    (subst (λ (ss : List Saved). leaves_any java_code (map (λ (v : Saved). local_over us me v.here v.below) ss) (local_of us me mid) ≡ false) stays.saves none)
