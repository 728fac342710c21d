-- Lists of words that are given by their places, from 0.
use Rattle.std.specs.Prelude.{◌≡◌, ℕ, zero, suc, ◌≤◌, List, [], ◌∷◌}
use Rattle.type_rules.specs.declared.types.VerificationType.{VerificationType}
use Rattle.type_rules.specs.declared.types.VerificationType.TheVariants.{Top}

-- the first `count` words
abbrev pub first_words : (ℕ → VerificationType) → ℕ → List VerificationType
first_words f zero = []
first_words f (suc count) = f 0 ∷ first_words (λ n. f (suc n)) count

-- the words of a stack of a depth, from its top
abbrev pub stack_words : (ℕ → VerificationType) → ℕ → List VerificationType
stack_words f zero = []
stack_words f (suc depth) = f depth ∷ stack_words f depth

-- after the first `count` words there is nothing but Top
abbrev pub EndsBy : (ℕ → VerificationType) → ℕ → Type 0
EndsBy f count = (n : ℕ) → count ≤ n → f n ≡ Top
