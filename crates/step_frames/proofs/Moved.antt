-- Words that are moved are those on top.
use Rattle.std.proofs.Common.{◌≡◌, ℕ, ◌≤◌, Some, List, [], ◌∷◌, ◌++◌, length, drop, slice_index_or, refl, sym, ap, ◌∙◌, arith}
use Rattle.std.proofs.lemmas.Option.{same_Some, none-some}
use Rattle.instructions.specs.declared.operation.Plain.TheVariants.{Stack}
use Rattle.instructions.specs.declared.operation.StackOperation.{StackOperation}
use Rattle.instructions.specs.declared.operation.StackOperation.TheVariants.{Pop, Pop2, Dup, DupX1, DupX2, Dup2, Dup2X1, Dup2X2, Swap}
use Rattle.instructions.specs.declared.what.What.{What}
use Rattle.instructions.specs.declared.what.What.TheVariants.{Plain}
use Rattle.instructions.specs.declared.what.Target.{Target}
use Rattle.type_rules.specs.declared.types.VerificationType.{VerificationType}
use Rattle.type_rules.specs.declared.types.VerificationType.TheVariants.{Top}
use Rattle.type_rules.specs.Environment.{Environment, TypeFrame}
use Rattle.type_rules.specs.Wants.{wants, stack_wants, words_wanted}
use Rattle.type_rules.specs.FrameAfter.{moved_words, stack_at, stack_with}
use Rattle.step_faults.specs.Moves.{stack_operation_of}
use Rattle.step_frames.specs.Tops.{moved_top}

moved_is : (operation : StackOperation) (stack : List VerificationType) → words_wanted (stack_wants operation) ≤ length stack
    → moved_top operation (slice_index_or stack 0 Top) (slice_index_or stack 1 Top) (slice_index_or stack 2 Top) (slice_index_or stack 3 Top) ++ drop (words_wanted (stack_wants operation)) stack
    ≡ moved_words operation stack
moved_is Pop [] h = absurd (omega (arith, h))
moved_is Pop (a ∷ rest) h = refl
moved_is Pop2 [] h = absurd (omega (arith, h))
moved_is Pop2 (a ∷ []) h = absurd (omega (arith, h))
moved_is Pop2 (a ∷ b ∷ rest) h = refl
moved_is Dup [] h = absurd (omega (arith, h))
moved_is Dup (a ∷ rest) h = refl
moved_is DupX1 [] h = absurd (omega (arith, h))
moved_is DupX1 (a ∷ []) h = absurd (omega (arith, h))
moved_is DupX1 (a ∷ b ∷ rest) h = refl
moved_is DupX2 [] h = absurd (omega (arith, h))
moved_is DupX2 (a ∷ []) h = absurd (omega (arith, h))
moved_is DupX2 (a ∷ b ∷ []) h = absurd (omega (arith, h))
moved_is DupX2 (a ∷ b ∷ c ∷ rest) h = refl
moved_is Dup2 [] h = absurd (omega (arith, h))
moved_is Dup2 (a ∷ []) h = absurd (omega (arith, h))
moved_is Dup2 (a ∷ b ∷ rest) h = refl
moved_is Dup2X1 [] h = absurd (omega (arith, h))
moved_is Dup2X1 (a ∷ []) h = absurd (omega (arith, h))
moved_is Dup2X1 (a ∷ b ∷ []) h = absurd (omega (arith, h))
moved_is Dup2X1 (a ∷ b ∷ c ∷ rest) h = refl
moved_is Dup2X2 [] h = absurd (omega (arith, h))
moved_is Dup2X2 (a ∷ []) h = absurd (omega (arith, h))
moved_is Dup2X2 (a ∷ b ∷ []) h = absurd (omega (arith, h))
moved_is Dup2X2 (a ∷ b ∷ c ∷ []) h = absurd (omega (arith, h))
moved_is Dup2X2 (a ∷ b ∷ c ∷ d ∷ rest) h = refl
moved_is Swap [] h = absurd (omega (arith, h))
moved_is Swap (a ∷ []) h = absurd (omega (arith, h))
moved_is Swap (a ∷ b ∷ rest) h = refl

pub moved_behind : (env : Environment) (at : ℕ) (what : What Target) (f : TypeFrame) (operation : StackOperation) (a b c d : VerificationType) → stack_operation_of what ≡ Some operation
    → words_wanted (wants env what) ≤ length f.stack → stack_at f 0 ≡ a → stack_at f 1 ≡ b → stack_at f 2 ≡ c → stack_at f 3 ≡ d
    → moved_top operation a b c d ++ drop (words_wanted (wants env what)) f.stack ≡ stack_with env at what f
moved_behind env at (Plain (Stack o)) f operation a b c d e h p q r s =
    let same : operation ≡ o = sym (same_Some o operation e) in
    ap (λ (m : StackOperation). moved_top m a b c d ++ drop (words_wanted (stack_wants o)) f.stack) same
    ∙ (rw (← p, ← q, ← r, ← s) (moved_is o f.stack h))
moved_behind env at _ f operation a b c d e h p q r s = absurd (none-some operation e)
