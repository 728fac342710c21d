-- The bases of arrays have places.
use Rattle.std.proofs.Common.{◌≡◌, ◌≢◌, ℕ, zero, suc, ◌-◌, ◌≤◌, cond, nat_eq, List, [], ◌∷◌, ◌++◌, length, take, Contains, Option, None, Some, inl, inr, refl, sym, ap, subst, ◌∙◌, length-append, arith}
use Rattle.std.specs.Option.{option_map_or}
use Rattle.std.proofs.lemmas.List.{take-append-le, take_all}
use Rattle.std.proofs.lemmas.Option.{slice_get_cases, none-some}
use Rattle.code_decode.specs.declared.code.ClassUnit.{ClassUnit}
use Rattle.link_types.specs.declared.types.ElementType.{ElementType}
use Rattle.link_types.specs.declared.types.ElementType.TheVariants.{Boolean, Byte, Char, Short, Int, Long, Float, Double, Class, Other}
use Rattle.link_rules.specs.Classes.{NamedClass, classes_of, class_number, class_numbered}
use Rattle.link_rules.specs.Laws.{NamesHaveOneNumber}
use Rattle.base_order.specs.declared.order.BaseOrder.{BaseOrder}
use Rattle.base_order.specs.Bases.{name_of, base_text, IsBase}
use Rattle.base_order.specs.Order.{IsOrderOf}
use Rattle.base_order.proofs.BaseLaws.{contains_map}

-- the base of a descriptor
base_of : List NamedClass → List ℕ → ElementType
base_of cs [] = Other 0
base_of cs (b ∷ text) =
    cond (nat_eq b 90) Boolean (cond (nat_eq b 66) Byte (cond (nat_eq b 67) Char (cond (nat_eq b 83) Short (cond (nat_eq b 73) Int (cond (nat_eq b 74) Long (cond (nat_eq b 70) Float (cond (nat_eq b 68) Double
    (Class (class_number cs (take (length text - 1) text))))))))))

front : (name : List ℕ) → take (length (name ++ 59 ∷ []) - 1) (name ++ 59 ∷ []) ≡ name
front name =
    let size : length (name ++ 59 ∷ []) - 1 ≡ length name = omega (arith, length-append name (59 ∷ [])) in
    ap (λ n. take n (name ++ 59 ∷ [])) size ∙ take-append-le (length name) name (59 ∷ []) (omega arith) ∙ take_all (length name) name (omega arith)

pub one_of_name : (cs : List NamedClass) (c : ℕ) → NamesHaveOneNumber cs → IsBase cs (Class c) → class_number cs (name_of cs c) ≡ c
one_of_name cs c names is = go (class_numbered cs c) refl
  where
    go : (o : Option NamedClass) → class_numbered cs c ≡ o → class_number cs (option_map_or (λ (k : NamedClass). k.name) o []) ≡ c
    go (Some k) e = names c k e
    go None e = absurd (there c e is.0 is.1)
      where
        there : (n : ℕ) → class_numbered cs n ≡ None → n ≢ 0 → n ≤ length cs → ⊥
        there zero none some le = some refl
        there (suc i) none some le = elim (slice_get_cases cs i).1 [
          | inl found ↦ none-some found.0 (sym none ∙ found.2)
          | inr past ↦ (let end = past.0 in absurd (omega arith))
        ]

text_back : (cs : List NamedClass) (base : ElementType) → NamesHaveOneNumber cs → IsBase cs base → base_of cs (base_text cs base) ≡ base
unfolding base_of
text_back cs Boolean names is = refl
text_back cs Byte names is = refl
text_back cs Char names is = refl
text_back cs Short names is = refl
text_back cs Int names is = refl
text_back cs Long names is = refl
text_back cs Float names is = refl
text_back cs Double names is = refl
text_back cs (Class c) names is = ap (λ n. Class (class_number cs n)) (front (name_of cs c)) ∙ ap Class (one_of_name cs c names is)
text_back cs (Other n) names is = absurd is

-- bases of one descriptor are one
pub one_base : (cs : List NamedClass) (a b : ElementType) → NamesHaveOneNumber cs → IsBase cs a → IsBase cs b → base_text cs a ≡ base_text cs b → a ≡ b
one_base cs a b names is other same = sym (text_back cs a names is) ∙ ap (base_of cs) same ∙ text_back cs b names other

pub base_is_there : (us : List ClassUnit) (order : BaseOrder) (base : ElementType) → IsOrderOf us order → NamesHaveOneNumber (classes_of us) → IsBase (classes_of us) base → Contains order.bases.items base
base_is_there us order base is names has =
    let there : (b : ElementType) × Contains order.bases.items b × (base_text (classes_of us) b ≡ base_text (classes_of us) base) =
    contains_map (base_text (classes_of us)) order.bases.items (base_text (classes_of us) base) (is.bases.there base has) in
    subst (Contains order.bases.items) (one_base (classes_of us) there.0 base names (is.bases.only there.0 there.1) has there.2) there.1
