-- The operands of a call.
use Rattle.std.specs.Prelude.{◌≡◌, ◌<◌, ℕ, List, [], ◌∷◌, length}
use Rattle.interp_plans.specs.declared.operands.Arguments.{Arguments}
use Rattle.interp_plans.specs.declared.operands.Arguments.TheVariants.{None, One, Two, Three, Many}

-- these operands are the arguments, in the order of locals
abbrev pub AreArguments : Arguments → List ℕ → Type 0
AreArguments None args = args ≡ []
AreArguments (One a) args = args ≡ a ∷ []
AreArguments (Two a b) args = args ≡ a ∷ b ∷ []
AreArguments (Three a b c) args = args ≡ a ∷ b ∷ c ∷ []
AreArguments Many args = 3 < length args
