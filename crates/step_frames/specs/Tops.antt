-- The words on top of a stack after an instruction.
use Rattle.std.specs.Prelude.{List, [], ◌∷◌, take}
use Rattle.instructions.specs.declared.operation.StackOperation.{StackOperation}
use Rattle.instructions.specs.declared.operation.StackOperation.TheVariants.{Pop, Pop2, Dup, DupX1, DupX2, Dup2, Dup2X1, Dup2X2, Swap}
use Rattle.type_rules.specs.declared.types.VerificationType.{VerificationType}
use Rattle.step_frames.specs.declared.words.TopWords.{TopWords}

-- the top one first
abbrev pub words_on_top : TopWords → List VerificationType
words_on_top top = take top.count top.words

-- in place of the words that an operation takes, of these four the first ones
abbrev pub moved_top : StackOperation → VerificationType → VerificationType → VerificationType → VerificationType → List VerificationType
moved_top Pop a b c d = []
moved_top Pop2 a b c d = []
moved_top Dup a b c d = a ∷ a ∷ []
moved_top DupX1 a b c d = a ∷ b ∷ a ∷ []
moved_top DupX2 a b c d = a ∷ b ∷ c ∷ a ∷ []
moved_top Dup2 a b c d = a ∷ b ∷ a ∷ b ∷ []
moved_top Dup2X1 a b c d = a ∷ b ∷ c ∷ a ∷ b ∷ []
moved_top Dup2X2 a b c d = a ∷ b ∷ c ∷ d ∷ a ∷ b ∷ []
moved_top Swap a b c d = b ∷ a ∷ []
