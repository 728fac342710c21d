-- How many words are on the stack after an instruction.
use Rattle.std.proofs.Common.{◌≡◌, ℕ, ◌+◌, Bool, true, false, Some, None, List, ◌++◌, length, drop, refl, sym, subst, ap, ◌∙◌, arith, length-append, length-drop}
use Rattle.std.proofs.lemmas.Option.{same_Some, none-some}
use Rattle.std.proofs.lemmas.List.{length-map}
use Rattle.instructions.specs.declared.operation.Plain.TheVariants.{Stack}
use Rattle.instructions.specs.declared.operation.StackOperation.{StackOperation}
use Rattle.instructions.specs.declared.operation.Call.TheVariants.{Special}
use Rattle.instructions.specs.declared.operation.ClassUse.TheVariants.{New}
use Rattle.instructions.specs.declared.what.What.{What}
use Rattle.instructions.specs.declared.what.What.TheVariants.{Plain, Call, Class}
use Rattle.instructions.specs.declared.what.Target.{Target}
use Rattle.type_rules.specs.declared.types.VerificationType.{VerificationType}
use Rattle.type_rules.specs.Environment.{Environment, TypeFrame}
use Rattle.type_rules.specs.Wants.{wants, stack_wants, words_wanted}
use Rattle.type_rules.specs.FrameAfter.{moved_words, pushes, stack_with, names_constructor, after_special, after_what}
use Rattle.step_faults.specs.Moves.{stack_operation_of, IsPut}

special_stack : (env : Environment) (at index : ℕ) (f : TypeFrame) (test : Bool) → names_constructor (env.operand index) ≡ test
    → length (after_special env at index f).stack ≡ length (stack_with env at (Call Special index) f)
special_stack env at index f true e = rw e (length-map (stack_with env at (Call Special index) f) _)
special_stack env at index f false e = rw e refl

pub after_length : (env : Environment) (at : ℕ) (what : What Target) (f : TypeFrame) → length (after_what env at what f).stack ≡ length (stack_with env at what f)
after_length env at (Call Special index) f = special_stack env at index f (names_constructor (env.operand index)) refl
after_length env at (Class New index) f = refl
after_length env at _ f = refl

pub put_moved : (env : Environment) (what : What Target) (operation : StackOperation) (count : ℕ) → stack_operation_of what ≡ Some operation
    → ((left : ℕ) (stack : List VerificationType) → left + words_wanted (stack_wants operation) ≡ length stack → length (moved_words operation stack) ≡ left + count)
    → IsPut env what count
put_moved env (Plain (Stack o)) operation count e moves = λ at f left fits.
    let same : operation ≡ o = sym (same_Some o operation e) in
    subst (λ (p : StackOperation). length (moved_words p f.stack) ≡ left + count) same (moves left f.stack (subst (λ (p : StackOperation). left + words_wanted (stack_wants p) ≡ length f.stack) (sym same) fits))
put_moved env _ operation count e moves = absurd (none-some operation e)

pub stack_same : (env : Environment) (at : ℕ) (what : What Target) (f : TypeFrame) → stack_operation_of what ≡ None
    → stack_with env at what f ≡ pushes env at what f ++ drop (words_wanted (wants env what)) f.stack
stack_same env at (Plain (Stack o)) f e = absurd (none-some o (sym e))
stack_same env at _ f e = refl

pushed_length : (pushed stack : List VerificationType) (taken left : ℕ) → left + taken ≡ length stack → length (pushed ++ drop taken stack) ≡ left + length pushed
pushed_length pushed stack taken left fits = omega (arith, length-append pushed (drop taken stack), length-drop taken stack)

pub put_pushed : (env : Environment) (what : What Target) (count : ℕ) → stack_operation_of what ≡ None
    → ((at : ℕ) (f : TypeFrame) → length (pushes env at what f) ≡ count) → IsPut env what count
put_pushed env what count e counted = λ at f left fits.
    after_length env at what f
    ∙ (ap (λ (s : List VerificationType). length s) (stack_same env at what f e)
    ∙ (pushed_length (pushes env at what f) f.stack (words_wanted (wants env what)) left fits ∙ ap (λ (n : ℕ). left + n) (counted at f)))
