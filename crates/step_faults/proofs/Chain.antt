-- The first of the rules of an instruction that fails.
use Rattle.std.proofs.Common.{◌≡◌, ℕ, ◌+◌, Bool, true, false, not, ◌&&◌, Option, Some, None, length, nat_le, refl, sym, ap, ◌∙◌, arith}
use Rattle.std.specs.List.{list_any}
use Rattle.std.proofs.lemmas.Bool.{le-leb, true≢false}
use Rattle.instructions.specs.declared.what.Instr.{Instr}
use Rattle.instructions.specs.declared.what.Target.{Target}
use Rattle.type_rules.specs.declared.refusal.VerifyKind.{VerifyKind}
use Rattle.type_rules.specs.declared.refusal.VerifyKind.TheVariants.{StackShape, TypeMismatch, Uninit, Limits, ReturnType}
use Rattle.type_rules.specs.Environment.{Environment, TypeFrame}
use Rattle.type_rules.specs.Wants.{wants, words_wanted, verdicts, Verdict, is_wrong, is_uninitialized}
use Rattle.type_rules.specs.FrameAfter.{frame_after}
use Rattle.type_rules.specs.TypeFaults.{◌or_else◌, unless, is_local_right, is_initialization_right, are_locals_there, returns_rightly, own_fault}
use Rattle.step_faults.specs.Worst.{worst}
use Rattle.step_faults.proofs.Verdicts.{worst_wrong, worst_uninitialized}

abbrev chain : Bool → Bool → Bool → Bool → Bool → Option VerifyKind
chain shape types set limits returned =
    unless shape StackShape or_else unless types TypeMismatch or_else unless set Uninit or_else unless limits Limits or_else unless returned ReturnType

types_fail : (a b c d e : Bool) → a ≡ true → b ≡ false → Some TypeMismatch ≡ chain a b c d e
types_fail a b c d e p q = rw (p, q) refl

set_fails : (a b c d e : Bool) → a ≡ true → b ≡ true → c ≡ false → Some Uninit ≡ chain a b c d e
set_fails a b c d e p q r = rw (p, q, r) refl

limits_fail : (a b c d e : Bool) → a ≡ true → b ≡ true → c ≡ true → d ≡ false → Some Limits ≡ chain a b c d e
limits_fail a b c d e p q r s = rw (p, q, r, s) refl

none_fails : (a b c d e : Bool) → a ≡ true → b ≡ true → c ≡ true → d ≡ true → e ≡ true → None ≡ chain a b c d e
none_fails a b c d e p q r s t = rw (p, q, r, s, t) refl

not_first : (a b : Bool) → (not a && b) ≡ true → a ≡ false
not_first false b e = refl
not_first true b e = absurd (true≢false (sym e))

-- an instruction takes words whose worst verdict is v, and leaves `left` words
module _ (env : Environment) (i : Instr Target) (f : TypeFrame) (v : Verdict) (left : ℕ)
    (fits : left + words_wanted (wants env i.what) ≡ length f.stack)
    (is_worst : v ≡ worst (verdicts env (wants env i.what) f.stack)) where
  abbrev shape : Bool
  shape = nat_le (words_wanted (wants env i.what)) (length f.stack)

  abbrev types : Bool
  types = not (list_any is_wrong (verdicts env (wants env i.what) f.stack)) && is_local_right env i.what f

  abbrev set : Bool
  set = not (list_any is_uninitialized (verdicts env (wants env i.what) f.stack)) && is_initialization_right i i.what f

  abbrev limits : Bool
  limits = are_locals_there env i.what && nat_le (length (frame_after env i f).stack) env.max_stack

  shape_holds : shape ≡ true
  shape_holds = le-leb (words_wanted (wants env i.what)) (length f.stack) (omega arith)

  same_types : (b : Bool) → b ≡ (not (is_wrong v) && is_local_right env i.what f) → b ≡ types
  same_types b e =
      e ∙ ap (λ (w : Bool). not w && is_local_right env i.what f) (ap is_wrong is_worst ∙ worst_wrong (verdicts env (wants env i.what) f.stack))

  none_wrong : true ≡ (not (is_wrong v) && is_local_right env i.what f) → is_wrong (worst (verdicts env (wants env i.what) f.stack)) ≡ false
  none_wrong e = sym (ap is_wrong is_worst) ∙ not_first (is_wrong v) (is_local_right env i.what f) (sym e)

  same_set : (b : Bool) → true ≡ (not (is_wrong v) && is_local_right env i.what f) → b ≡ (not (is_uninitialized v) && is_initialization_right i i.what f) → b ≡ set
  same_set b t e =
      e ∙ ap (λ (w : Bool). not w && is_initialization_right i i.what f)
      (ap is_uninitialized is_worst ∙ worst_uninitialized (verdicts env (wants env i.what) f.stack) (none_wrong t))

  pub types_fault : false ≡ (not (is_wrong v) && is_local_right env i.what f) → Some TypeMismatch ≡ own_fault env i f
  types_fault t = types_fail shape types set limits (returns_rightly env i.what f) shape_holds (sym (same_types false t))

  pub set_fault : true ≡ (not (is_wrong v) && is_local_right env i.what f) → false ≡ (not (is_uninitialized v) && is_initialization_right i i.what f)
      → Some Uninit ≡ own_fault env i f
  set_fault t s = set_fails shape types set limits (returns_rightly env i.what f) shape_holds (sym (same_types true t)) (sym (same_set false t s))

  pub limits_fault : true ≡ (not (is_wrong v) && is_local_right env i.what f) → true ≡ (not (is_uninitialized v) && is_initialization_right i i.what f)
      → false ≡ limits → Some Limits ≡ own_fault env i f
  limits_fault t s l =
      limits_fail shape types set limits (returns_rightly env i.what f) shape_holds (sym (same_types true t)) (sym (same_set true t s)) (sym l)

  pub no_fault : true ≡ (not (is_wrong v) && is_local_right env i.what f) → true ≡ (not (is_uninitialized v) && is_initialization_right i i.what f)
      → true ≡ limits → true ≡ returns_rightly env i.what f → None ≡ own_fault env i f
  no_fault t s l r =
      none_fails shape types set limits (returns_rightly env i.what f) shape_holds (sym (same_types true t)) (sym (same_set true t s)) (sym l) (sym r)
