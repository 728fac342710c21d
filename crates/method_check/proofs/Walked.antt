-- A walk goes on, ends, and stops.
use Rattle.std.proofs.Common.{◌≡◌, ℕ, suc, ◌+◌, ◌<◌, ◌≤◌, Option, Some, None, Err, List, length, get_or, slice_get, refl, sym, ◌∙◌, ap, subst, arith}
use Rattle.std.proofs.lemmas.Option.{slice_get_read}
use Rattle.instructions.specs.declared.what.Instr.{Instr}
use Rattle.instructions.specs.declared.what.Target.{Target}
use Rattle.link_types.specs.declared.operands.Operand.{Operand}
use Rattle.type_rules.specs.Environment.{Environment, TypeFrame}
use Rattle.type_rules.specs.TypeFaults.{fault_at}
use Rattle.type_rules.specs.TypeSafe.{IsTypeSafe}
use Rattle.type_laws.specs.Walks.{IsWalkedTo}
use Rattle.type_laws.proofs.Walked.{decide}
use Rattle.typing_frames.specs.declared.stop.CheckStop.{CheckStop}
use Rattle.typing_frames.specs.declared.stop.CheckStop.TheVariants.{NoMemory, At}
use Rattle.typing_frames.specs.Told.{Tells}
use Rattle.map_frames.specs.Here.{shown_if}
use Rattle.method_check.specs.declared.refusal.MethodRefusal.{MethodRefusal}
use Rattle.method_check.specs.Method.{TellsMethodFault, refusal_of}
use Rattle.method_check.specs.declared.walk.Walk.{Walk}
use Rattle.method_check.specs.declared.walk.WalkedMethod.{WalkedMethod}
use Rattle.method_check.specs.Walk.{FallsOn, HasComeTo, IsWalked}

module _ (env : Environment) where
  goes_on : (k : ℕ) (i : Instr Target) (before next : Option TypeFrame) → slice_get env.steps k ≡ Some i → fault_at env k i before ≡ None → FallsOn env k i before next
      → IsWalkedTo env k before → IsWalkedTo env (k + 1) next
  goes_on k i before next there none falls walked =
      let one : suc k ≡ k + 1 = omega arith in
      subst (λ n. IsWalkedTo env n next) one
      (subst (λ f. IsWalkedTo env (suc k) f) (sym falls.falls) ((decide env).next k i before falls.frame walked there none falls.here))

  pub ends : (k : ℕ) (before : Option TypeFrame) → length env.steps ≤ k → IsWalkedTo env k before → IsTypeSafe env
  ends k before past walked = (walked.frames, λ j i h there. walked.typed j i (omega (arith, h, past)) there)

  stops : (k : ℕ) (i : Instr Target) (before : Option TypeFrame) (stop : CheckStop) → slice_get env.steps k ≡ Some i → IsWalkedTo env k before
      → Tells {X = Unit {0}} (Err stop) (fault_at env k i before) → TellsMethodFault env (refusal_of stop i.at)
  stops k i before NoMemory there walked told = tt
  stops k i before (At kind) there walked told =
      record { number = k; instruction = i; first = (decide env).fault k i before kind walked there told; at = refl }

-- an instruction that is read is the one of its number
pub there : (env : Environment) (items : List (Instr Target)) → env.steps ≡ items → (step number : ℕ) (i : Instr Target) → step ≡ number → number < length items → i ≡ get_or items number i
    → slice_get env.steps step ≡ Some i
there env items are step number i same inside is =
    ap (slice_get env.steps) same ∙ ap (λ s. slice_get s number) are ∙ slice_get_read items (length items) number i refl inside is

-- a walk has come to an instruction, and no rule is broken before
pub record Walking (env : Environment) (operands : ℕ → Operand) (method : WalkedMethod) (walk : Walk) (k : ℕ) : Type 0 where
  pub walked : IsWalked env operands method walk.stores
  pub comes : HasComeTo env walk k
  pub kept : IsWalkedTo env k (shown_if walk.stores walk.before)

module _ (env : Environment) (operands : ℕ → Operand) (method : WalkedMethod) (walk : Walk) (step number : ℕ) (i : Instr Target) (same : step ≡ number) (at : slice_get env.steps step ≡ Some i)
    (walking : Walking env operands method walk number) where
  kept_at : IsWalkedTo env step (shown_if walk.stores walk.before)
  kept_at = subst (λ k. IsWalkedTo env k (shown_if walk.stores walk.before)) (sym same) walking.kept

  pub walking_on : (new : Walk) → IsWalked env operands method new.stores → HasComeTo env new (step + 1) → FallsOn env step i (shown_if walk.stores walk.before) (shown_if new.stores new.before)
      → fault_at env step i (shown_if walk.stores walk.before) ≡ None → Walking env operands method new (number + 1)
  walking_on new walked comes falls none =
      subst (λ k. Walking env operands method new (k + 1)) same
      (record {
        walked = walked;
        comes = comes;
        kept = goes_on env step i (shown_if walk.stores walk.before) (shown_if new.stores new.before) at none falls kept_at;
      })

  pub walking_stops : (stop : CheckStop) (e : MethodRefusal) → e ≡ refusal_of stop i.at → Tells {X = Unit {0}} (Err stop) (fault_at env step i (shown_if walk.stores walk.before)) → TellsMethodFault env e
  walking_stops stop e is told = subst (TellsMethodFault env) (sym is) (stops env step i (shown_if walk.stores walk.before) stop at kept_at told)
