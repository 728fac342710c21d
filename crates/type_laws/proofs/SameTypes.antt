-- Lists of types that are the same by their test are equal.
use Rattle.std.proofs.Common.{◌≡◌, true, List, [], ◌∷◌, refl, ap, ◌∙◌, sym}
use Rattle.std.proofs.lemmas.Bool.{and_parts, true≢false}
use Rattle.type_rules.specs.declared.types.VerificationType.{VerificationType}
use Rattle.type_rules.specs.Assignable.{is_same_type, are_same_types}
use Rattle.type_rules.proofs.SameTypes.{same_type}

pub same_types : (as' bs : List VerificationType) → are_same_types as' bs ≡ true → as' ≡ bs
same_types [] [] e = refl
same_types (a ∷ as') (b ∷ bs) e =
    let parts = and_parts (is_same_type a b) (are_same_types as' bs) e in
    ap (λ x. x ∷ as') (same_type a b parts.0) ∙ ap (λ xs. b ∷ xs) (same_types as' bs parts.1)
same_types [] (b ∷ bs) e = absurd (true≢false (sym e))
same_types (a ∷ as') [] e = absurd (true≢false (sym e))
