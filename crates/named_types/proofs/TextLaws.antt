-- Texts and kinds.
use Rattle.std.proofs.Common.{◌≡◌, ℕ, ◌+◌, ◌≤◌, Bool, true, false, List, [], ◌∷◌, sum_by, filter_map, refl, sym, ◌∙◌, arith}
use Rattle.std.specs.List.{cons_option}
use Rattle.std.proofs.lemmas.List.Sums.{sum_by-cons}
use Rattle.class_names.specs.declared.kind.BaseKind.TheVariants as bases
use Rattle.class_names.specs.declared.kind.Kind.{Kind}
use Rattle.class_names.specs.declared.kind.Kind.TheVariants as kinds
use Rattle.class_names.specs.Descriptor.{words_of, parameter_words_of}
use Rattle.link_types.specs.declared.types.ValueType.{ValueType}
use Rattle.link_types.specs.declared.types.ValueType.TheVariants as values
use Rattle.link_types.specs.declared.types.ObjectType.TheVariants.{Array}
use Rattle.link_types.specs.Types.{words_of_value}
use Rattle.link_rules.specs.Names.{ProgramNames, class_type, element_type_of, value_type}

-- a test that answers no, and what it would answer yes to
pub spelled_or_not : (answer spelled : Bool) → (spelled ≡ true → answer ≡ true) → answer ≡ false → spelled ≡ false
spelled_or_not answer false told denied = refl
spelled_or_not answer true told denied = absurd (let both : true ≡ false = sym (told refl) ∙ denied in cc)

some_words : (v : ValueType) (types : List ValueType) (n : ℕ) → words_of_value v ≤ n → sum_by words_of_value (v ∷ types) ≤ n + sum_by words_of_value types
some_words v types n le =
    let more : sum_by words_of_value (v ∷ types) ≡ words_of_value v + sum_by words_of_value types = sum_by-cons words_of_value v types in
    omega (arith, more, le)

no_words : (types : List ValueType) (n : ℕ) → sum_by words_of_value types ≤ n + sum_by words_of_value types
no_words types n = omega arith

kind_words : (p : ProgramNames) (kind : Kind) (types : List ValueType) → sum_by words_of_value (cons_option (value_type p kind) types) ≤ words_of kind + sum_by words_of_value types
kind_words p (kinds.Base bases.Int) types = some_words values.Int types 1 (omega arith)
kind_words p (kinds.Base bases.Byte) types = some_words values.Byte types 1 (omega arith)
kind_words p (kinds.Base bases.Char) types = some_words values.Char types 1 (omega arith)
kind_words p (kinds.Base bases.Short) types = some_words values.Short types 1 (omega arith)
kind_words p (kinds.Base bases.Boolean) types = some_words values.Boolean types 1 (omega arith)
kind_words p (kinds.Base bases.Long) types = some_words values.Long types 2 (omega arith)
kind_words p (kinds.Base bases.Float) types = no_words types 1
kind_words p (kinds.Base bases.Double) types = no_words types 2
kind_words p (kinds.Base (bases.Class name)) types = some_words (values.Object (class_type p name)) types 1 (omega arith)
kind_words p (kinds.Array dimensions base) types = some_words (values.Object (Array dimensions (element_type_of p base))) types 1 (omega arith)

-- the types of kinds take no more words than the kinds
pub types_are_short : (p : ProgramNames) (ks : List Kind) → sum_by words_of_value (filter_map (value_type p) ks) ≤ parameter_words_of ks
types_are_short p [] = omega arith
types_are_short p (kind ∷ ks) =
    let one : sum_by words_of_value (filter_map (value_type p) (kind ∷ ks)) ≤ words_of kind + sum_by words_of_value (filter_map (value_type p) ks) = kind_words p kind (filter_map (value_type p) ks) in
    let others = types_are_short p ks in
    let all : parameter_words_of (kind ∷ ks) ≡ words_of kind + parameter_words_of ks = sum_by-cons words_of kind ks in
    omega (arith, one, others, all)
