-- The tests of sameness decide equality.
use Rattle.std.proofs.Common.{◌≡◌, true, ◌==◌, ap, ◌∙◌, sym, arith}
use Rattle.std.proofs.lemmas.Bool.{and_parts, eqb-true, true≢false}
use Rattle.link_types.specs.declared.types.ElementType.{ElementType}
use Rattle.link_types.specs.declared.types.ObjectType.{ObjectType}
use Rattle.link_types.specs.declared.types.ObjectType.TheVariants.{Class, Other, Array}
use Rattle.type_rules.specs.declared.types.VerificationType.{VerificationType}
use Rattle.type_rules.specs.Assignable.{is_same_element, is_same_object, is_same_type}

same_element : (a b : ElementType) → is_same_element a b ≡ true → a ≡ b
same_element a b e = grind arith

same_object : (a b : ObjectType) → is_same_object a b ≡ true → a ≡ b
same_object (Class c) (Class d) e = ap (λ n. Class n) (eqb-true c d e)
same_object (Other c) (Other d) e = ap (λ n. Other n) (eqb-true c d e)
same_object (Array m x) (Array n y) e =
    let parts = and_parts (m == n) (is_same_element x y) e in
    ap (λ k. Array k x) (eqb-true m n parts.0) ∙ ap (λ z. Array n z) (same_element x y parts.1)
same_object (Class c) (Other d) e = absurd (true≢false (sym e))
same_object (Class c) (Array n y) e = absurd (true≢false (sym e))
same_object (Other c) (Class d) e = absurd (true≢false (sym e))
same_object (Other c) (Array n y) e = absurd (true≢false (sym e))
same_object (Array m x) (Class d) e = absurd (true≢false (sym e))
same_object (Array m x) (Other d) e = absurd (true≢false (sym e))

pub same_type : (a b : VerificationType) → is_same_type a b ≡ true → a ≡ b
same_type a b e = grind (arith, same_object)
