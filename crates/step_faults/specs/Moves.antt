-- How many words are on the stack after an instruction.
use Rattle.std.specs.Prelude.{◌≡◌, ℕ, ◌+◌, Option, None, Some, length}
use Rattle.instructions.specs.declared.operation.Plain.TheVariants.{Stack}
use Rattle.instructions.specs.declared.operation.StackOperation.{StackOperation}
use Rattle.instructions.specs.declared.what.What.{What}
use Rattle.instructions.specs.declared.what.What.TheVariants.{Plain}
use Rattle.instructions.specs.declared.what.Target.{Target}
use Rattle.type_rules.specs.Environment.{Environment, TypeFrame}
use Rattle.type_rules.specs.Wants.{wants, words_wanted}
use Rattle.type_rules.specs.FrameAfter.{after_what}

-- how an instruction moves words, if it moves words
abbrev pub stack_operation_of : What Target → Option StackOperation
stack_operation_of (Plain (Stack operation)) = Some operation
stack_operation_of _ = None

-- an instruction puts `count` words on those that it leaves
abbrev pub IsPut : Environment → What Target → ℕ → Type 0
IsPut env what count =
    (at : ℕ) (f : TypeFrame) (left : ℕ) → left + words_wanted (wants env what) ≡ length f.stack
    → length (after_what env at what f).stack ≡ left + count
