-- Words of values.
use Rattle.std.specs.Prelude.{ℕ}
use Rattle.link_types.specs.declared.types.ValueType.{ValueType}
use Rattle.link_types.specs.declared.types.ValueType.TheVariants.{Long}

-- a long takes two words
abbrev pub words_of_value : ValueType → ℕ
words_of_value Long = 2
words_of_value _ = 1
