-- The types of innermost elements that a program has, and their descriptors.
use Rattle.std.proofs.Common.{◌≡◌, ◌≢◌, ℕ, suc, ◌+◌, ◌<◌, ◌≤◌, Bool, true, false, cond, nat_eq, List, [], ◌∷◌, ◌++◌, length, bytes_eq, slice_get, Option, None, Some, IfSome, inl, inr, refl, sym, ap, subst, ◌∙◌, arith}
use Rattle.std.specs.List.{position_from}
use Rattle.std.specs.Option.{option_map_or}
use Rattle.std.proofs.lemmas.Bool.{ne_eqb}
use Rattle.std.proofs.lemmas.Option.{none-some, same_Some}
use Rattle.std.proofs.lemmas.Slice.Eq.{bytes_eq-Decides}
use Rattle.class_names.specs.declared.kind.BaseKind.{BaseKind}
use Rattle.class_names.specs.declared.kind.BaseKind.TheVariants as bases
use Rattle.class_names.specs.declared.kind.Kind.{Kind}
use Rattle.class_names.specs.declared.kind.Kind.TheVariants as kinds
use Rattle.class_names.specs.Descriptor.{base_text as kind_base_text}
use Rattle.code_laws.specs.File.{IsClassOrArray}
use Rattle.link_types.specs.declared.types.ElementType.TheVariants as elements
use Rattle.link_types.specs.declared.types.ObjectType.{ObjectType}
use Rattle.link_types.specs.declared.types.ObjectType.TheVariants.{Class, Other, Array}
use Rattle.link_rules.specs.Classes.{NamedClass, class_number}
use Rattle.link_rules.specs.Descriptors.{base_class, named_kind, class_of_kind}
use Rattle.link_rules.specs.LinkRules.{IsClassThere}
use Rattle.link_rules.specs.Names.{ProgramNames, type_named, kind_object, element_type_of, element_class_type, other_number}
use Rattle.link_rules.proofs.Lists.{Found, found_at}
use Rattle.link_rules.proofs.Numbers.{class_number_within}
use Rattle.array_order.specs.Order.{array_text}
use Rattle.base_order.specs.Bases.{name_of, base_text, IsBase}
use Rattle.array_kinds.specs.declared.kind.ArrayKind.{ArrayKind}
use Rattle.array_kinds.specs.Kinds.{array_kind, array_itself, array_of_type, Spells, IsTypeThere}
use Rattle.array_kinds.proofs.Names.{class_kind, class_no_array, names_kind}

-- the class of a number that a name gives has that name
pub name_back : (cs : List NamedClass) (name : List ℕ) → class_number cs name ≢ 0 → name_of cs (class_number cs name) ≡ name
name_back cs name some = go (position_from (λ (c : NamedClass). bytes_eq c.name name) 0 cs) refl some
  where
    go : (o : Option ℕ) → position_from (λ (c : NamedClass). bytes_eq c.name name) 0 cs ≡ o → option_map_or (λ i. suc i) o 0 ≢ 0 → name_of cs (option_map_or (λ i. suc i) o 0) ≡ name
    go None is some = absurd (some refl)
    go (Some i) is some =
        let found : Found (λ (c : NamedClass). bytes_eq c.name name) cs i = found_at (λ (c : NamedClass). bytes_eq c.name name) cs i is in
        ap (λ o. option_map_or (λ (k : NamedClass). k.name) o []) found.there ∙ (bytes_eq-Decides found.item.name name).0 found.passes

module _ (p : ProgramNames) where
  class_base_there : (name : List ℕ) → class_number p.classes name ≢ 0 → element_class_type p name ≡ elements.Class (class_number p.classes name)
  class_base_there name some = ap (λ b. cond b (elements.Other (other_number p name)) (elements.Class (class_number p.classes name))) (ne_eqb (class_number p.classes name) 0 some)

  class_is_base : (name : List ℕ) → class_number p.classes name ≢ 0 → IsBase p.classes (elements.Class (class_number p.classes name))
  class_is_base name some = (some, class_number_within p.classes name)

  -- a base whose class is there
  pub base_there : (base : BaseKind) → IfSome (base_class base) (λ n. class_number p.classes n ≢ 0) → IsBase p.classes (element_type_of p base)
  base_there bases.Int is = tt
  base_there bases.Byte is = tt
  base_there bases.Char is = tt
  base_there bases.Short is = tt
  base_there bases.Boolean is = tt
  base_there bases.Long is = tt
  base_there bases.Float is = tt
  base_there bases.Double is = tt
  base_there (bases.Class name) is = subst (IsBase p.classes) (sym (class_base_there name is)) (class_is_base name is)

  pub base_back : (base : BaseKind) → IsBase p.classes (element_type_of p base) → base_text p.classes (element_type_of p base) ≡ kind_base_text base
  base_back bases.Int is = refl
  base_back bases.Byte is = refl
  base_back bases.Char is = refl
  base_back bases.Short is = refl
  base_back bases.Boolean is = refl
  base_back bases.Long is = refl
  base_back bases.Float is = refl
  base_back bases.Double is = refl
  base_back (bases.Class name) is = go (nat_eq (class_number p.classes name) 0) refl is
    where
      go : (b : Bool) → nat_eq (class_number p.classes name) 0 ≡ b → IsBase p.classes (cond b (elements.Other (other_number p name)) (elements.Class (class_number p.classes name)))
          → base_text p.classes (cond b (elements.Other (other_number p name)) (elements.Class (class_number p.classes name))) ≡ kind_base_text (bases.Class name)
      go true unknown is = absurd is
      go false known is = ap (λ n. 76 ∷ (n ++ 59 ∷ [])) (name_back p.classes name is.0)

  -- the descriptor of an array type that the program has
  pub spelled_here : (a : ArrayKind) (text : List ℕ) → Spells p a text → IsBase p.classes a.base → text ≡ array_text a.dimensions (base_text p.classes a.base)
  spelled_here a text spells is =
      spells.spelled ∙ ap (array_text a.dimensions) (sym (base_back spells.base (subst (IsBase p.classes) spells.base_is is)) ∙ ap (base_text p.classes) (sym spells.base_is))

  pub type_there : (k : ℕ) (name : List ℕ) → IsClassOrArray name → IsClassThere p.classes k name → IsTypeThere p.classes (type_named p name)
  type_there k name (inl class) there =
      let kind : named_kind name ≡ kinds.Base (bases.Class name) = class_kind name (class_no_array name class) in
      let some : class_number p.classes name ≢ 0 = subst (λ (x : Kind). IfSome (class_of_kind x) (λ n. class_number p.classes n ≢ 0)) kind there in
      let is : type_named p name ≡ Class (class_number p.classes name) =
      ap (kind_object p name) kind ∙ ap (λ b. cond b (Other (other_number p name)) (Class (class_number p.classes name))) (ne_eqb (class_number p.classes name) 0 some) in
      subst (IsTypeThere p.classes) (sym is) (class_is_base name some)
  type_there k name (inr (d, base, is)) there =
      let kind : named_kind name ≡ kinds.Array d base = names_kind name d base is in
      let some : IfSome (base_class base) (λ n. class_number p.classes n ≢ 0) = subst (λ (x : Kind). IfSome (class_of_kind x) (λ n. class_number p.classes n ≢ 0)) kind there in
      subst (IsTypeThere p.classes) (sym (ap (kind_object p name) kind)) (base_there base some)

-- the array type that a type is, and the type of the arrays of it, have its innermost elements
pub itself_there : (cs : List NamedClass) (t : ObjectType) (a : ArrayKind) → IsTypeThere cs t → array_itself t ≡ Some a → IsBase cs a.base
itself_there cs (Class c) a is e = absurd (none-some a e)
itself_there cs (Other n) a is e = absurd (none-some a e)
itself_there cs (Array d base) a is e = subst (λ (x : ArrayKind). IsBase cs x.base) (same_Some (array_kind d base) a e) is

pub of_there : (cs : List NamedClass) (t : ObjectType) (a : ArrayKind) → IsTypeThere cs t → array_of_type t ≡ Some a → IsBase cs a.base
of_there cs (Class c) a is e = subst (λ (x : ArrayKind). IsBase cs x.base) (same_Some (array_kind 1 (elements.Class c)) a e) is
of_there cs (Other n) a is e = absurd is
of_there cs (Array d base) a is e = go (Rattle.std.proofs.Common.nat_lt d 255) e
  where
    go : (b : Bool) → cond b (Some (array_kind (suc d) base)) None ≡ Some a → IsBase cs a.base
    go true e = subst (λ (x : ArrayKind). IsBase cs x.base) (same_Some (array_kind (suc d) base) a e) is
    go false e = absurd (none-some a e)
