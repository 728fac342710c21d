-- What a verdict means.
use Rattle.std.specs.Prelude.{Bool, List}
use Rattle.std.specs.List.{list_any}
use Rattle.link_types.specs.declared.types.ElementType.{ElementType}
use Rattle.type_rules.specs.Assignable.{is_same_element}
use Rattle.type_rules.specs.Wants as wants
use Rattle.word_types.specs.declared.verdict.Verdict.{Verdict}
use Rattle.word_types.specs.declared.verdict.Verdict.TheVariants.{Right, Wrong, Uninitialized}

abbrev pub verdict_meant : Verdict → wants.Verdict
verdict_meant Right = wants.right
verdict_meant Wrong = wants.wrong
verdict_meant Uninitialized = wants.uninitialized

abbrev pub is_element_among : List ElementType → ElementType → Bool
is_element_among xs y = list_any (λ x. is_same_element x y) xs
