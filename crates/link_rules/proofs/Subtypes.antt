-- Types are ordered where classes are.
use Rattle.std.proofs.Common.{◌≡◌, ◌⊎◌, ℕ, ◌<◌, ◌&&◌, Bool, true, false, cond, nat_eq, nat_lt, inl, inr, refl, sym, subst, ◌∙◌, arith}
use Rattle.std.proofs.lemmas.Bool.{true≢false, eqb-true, eq-eqb, ltb-true, lt-ltb, and_parts, and_from, ne_eqb}
use Rattle.link_types.specs.declared.types.ElementType.{ElementType}
use Rattle.link_types.specs.declared.types.ElementType.TheVariants as elements
use Rattle.link_types.specs.declared.types.ObjectType.{ObjectType}
use Rattle.link_types.specs.declared.types.ObjectType.TheVariants.{Class, Other, Array}
use Rattle.link_types.specs.Subtypes.{is_element_below, is_object_element, is_object_below}

wrong : {P : Type 0} → false ≡ true → P
wrong e = absurd (true≢false (sym e))

module _ (below : ℕ → ℕ → Bool) (IsOne : ℕ → Type 0)
    (itself : (c : ℕ) → IsOne c → below c c ≡ true)
    (top : (c : ℕ) → below c 1 ≡ true)
    (only_top : (e : ℕ) → IsOne e → below 1 e ≡ true → e ≡ 1)
    (upward : (c d e : ℕ) → IsOne c → IsOne d → IsOne e → below c d ≡ true → below d e ≡ true → below c e ≡ true) where
  -- the classes in a type are classes of the program
  abbrev pub IsElement : ElementType → Type 0
  IsElement (elements.Class c) = IsOne c
  IsElement elements.Boolean = Unit {0}
  IsElement elements.Byte = Unit {0}
  IsElement elements.Char = Unit {0}
  IsElement elements.Short = Unit {0}
  IsElement elements.Int = Unit {0}
  IsElement elements.Long = Unit {0}
  IsElement elements.Float = Unit {0}
  IsElement elements.Double = Unit {0}
  IsElement (elements.Other m) = Unit {0}

  abbrev pub IsType : ObjectType → Type 0
  IsType (Class c) = IsOne c
  IsType (Other m) = Unit {0}
  IsType (Array n x) = IsElement x

  element_itself : (x : ElementType) → IsElement x → is_element_below below x x ≡ true
  element_itself elements.Boolean is = refl
  element_itself elements.Byte is = refl
  element_itself elements.Char is = refl
  element_itself elements.Short is = refl
  element_itself elements.Int is = refl
  element_itself elements.Long is = refl
  element_itself elements.Float is = refl
  element_itself elements.Double is = refl
  element_itself (elements.Class c) is = itself c is
  element_itself (elements.Other m) is = eq-eqb m m refl

  pub type_itself : (t : ObjectType) → IsType t → is_object_below below t t ≡ true
  type_itself (Class c) is = itself c is
  type_itself (Other m) is = eq-eqb m m refl
  type_itself (Array n x) is = subst (λ b. cond b (is_element_below below x x) (nat_lt n n && is_object_element x) ≡ true) (sym (eq-eqb n n refl)) (element_itself x is)

  pub type_top : (t : ObjectType) → is_object_below below t (Class 1) ≡ true
  type_top (Class c) = top c
  type_top (Other m) = refl
  type_top (Array n x) = refl

  element_upward : (x y z : ElementType) → IsElement x → IsElement y → IsElement z → is_element_below below x y ≡ true → is_element_below below y z ≡ true → is_element_below below x z ≡ true
  element_upward elements.Boolean elements.Boolean z a b c h k = k
  element_upward elements.Boolean _ z a b c h k = wrong h
  element_upward elements.Byte elements.Byte z a b c h k = k
  element_upward elements.Byte _ z a b c h k = wrong h
  element_upward elements.Char elements.Char z a b c h k = k
  element_upward elements.Char _ z a b c h k = wrong h
  element_upward elements.Short elements.Short z a b c h k = k
  element_upward elements.Short _ z a b c h k = wrong h
  element_upward elements.Int elements.Int z a b c h k = k
  element_upward elements.Int _ z a b c h k = wrong h
  element_upward elements.Long elements.Long z a b c h k = k
  element_upward elements.Long _ z a b c h k = wrong h
  element_upward elements.Float elements.Float z a b c h k = k
  element_upward elements.Float _ z a b c h k = wrong h
  element_upward elements.Double elements.Double z a b c h k = k
  element_upward elements.Double _ z a b c h k = wrong h
  element_upward (elements.Class m) (elements.Class n) (elements.Class o) a b c h k = upward m n o a b c h k
  element_upward (elements.Class m) (elements.Class n) _ a b c h k = wrong k
  element_upward (elements.Class m) _ z a b c h k = wrong h
  element_upward (elements.Other m) (elements.Class n) (elements.Class o) a b c h k =
      eq-eqb o 1 (only_top o c (subst (λ x. below x o ≡ true) (eqb-true n 1 h) k))
  element_upward (elements.Other m) (elements.Class n) _ a b c h k = wrong k
  element_upward (elements.Other m) (elements.Other n) (elements.Class o) a b c h k = k
  element_upward (elements.Other m) (elements.Other n) (elements.Other o) a b c h k = eq-eqb m o (eqb-true m n h ∙ eqb-true n o k)
  element_upward (elements.Other m) (elements.Other n) _ a b c h k = wrong k
  element_upward (elements.Other m) _ z a b c h k = wrong h

  -- what is above Object is Object
  object_upward : (y z : ElementType) → IsElement z → is_object_element y ≡ true → is_element_below below y z ≡ true → is_object_element z ≡ true
  object_upward (elements.Class n) (elements.Class o) c h k = eq-eqb o 1 (only_top o c (subst (λ x. below x o ≡ true) (eqb-true n 1 h) k))
  object_upward (elements.Class n) _ c h k = wrong k
  object_upward _ z c h k = wrong h

  -- how an array is below another one: by its elements, or with fewer dimensions of Object
  array_cases : (m n : ℕ) (x y : ElementType) → is_object_below below (Array m x) (Array n y) ≡ true → ((m ≡ n) × (is_element_below below x y ≡ true)) ⊎ ((n < m) × (is_object_element y ≡ true))
  array_cases m n x y h = go (nat_eq m n) refl h
    where
      go : (b : Bool) → nat_eq m n ≡ b → cond b (is_element_below below x y) (nat_lt n m && is_object_element y) ≡ true → ((m ≡ n) × (is_element_below below x y ≡ true)) ⊎ ((n < m) × (is_object_element y ≡ true))
      go true e h = inl (eqb-true m n e, h)
      go false e h = (let parts : (nat_lt n m ≡ true) × (is_object_element y ≡ true) = and_parts (nat_lt n m) (is_object_element y) h in inr (ltb-true n m parts.0, parts.1))

  same_dimensions : (m n : ℕ) (x y : ElementType) → m ≡ n → is_element_below below x y ≡ true → is_object_below below (Array m x) (Array n y) ≡ true
  same_dimensions m n x y same h = subst (λ b. cond b (is_element_below below x y) (nat_lt n m && is_object_element y) ≡ true) (sym (eq-eqb m n same)) h

  fewer_dimensions : (m n : ℕ) (x y : ElementType) → n < m → is_object_element y ≡ true → is_object_below below (Array m x) (Array n y) ≡ true
  fewer_dimensions m n x y less h =
      subst (λ b. cond b (is_element_below below x y) (nat_lt n m && is_object_element y) ≡ true) (sym (ne_eqb m n (λ e. omega (arith, e)))) (and_from (nat_lt n m) (is_object_element y) (lt-ltb n m less) h)

  array_upward : (m n o : ℕ) (x y z : ElementType) → IsElement x → IsElement y → IsElement z → is_object_below below (Array m x) (Array n y) ≡ true → is_object_below below (Array n y) (Array o z) ≡ true → is_object_below below (Array m x) (Array o z) ≡ true
  array_upward m n o x y z a b c h k =
      elim (array_cases m n x y h) [
        | inl f ↦ elim (array_cases n o y z k) [
          | inl g ↦ same_dimensions m o x z (f.0 ∙ g.0) (element_upward x y z a b c f.1 g.1)
          | inr g ↦ fewer_dimensions m o x z (subst (λ i. o < i) (sym f.0) g.0) g.1
        ]
        | inr f ↦ elim (array_cases n o y z k) [
          | inl g ↦ fewer_dimensions m o x z (subst (λ i. i < m) g.0 f.0) (object_upward y z c f.1 g.1)
          | inr g ↦ (let less : n < m = f.0 in let lesser : o < n = g.0 in fewer_dimensions m o x z (omega arith) g.1)
        ]
      ]

  pub type_upward : (s t u : ObjectType) → IsType s → IsType t → IsType u → is_object_below below s t ≡ true → is_object_below below t u ≡ true → is_object_below below s u ≡ true
  type_upward (Class m) (Class n) (Class o) a b c h k = upward m n o a b c h k
  type_upward (Class m) (Class n) _ a b c h k = wrong k
  type_upward (Class m) _ u a b c h k = wrong h
  type_upward (Other m) (Class n) (Class o) a b c h k = eq-eqb o 1 (only_top o c (subst (λ x. below x o ≡ true) (eqb-true n 1 h) k))
  type_upward (Other m) (Class n) _ a b c h k = wrong k
  type_upward (Other m) (Other n) (Class o) a b c h k = k
  type_upward (Other m) (Other n) (Other o) a b c h k = eq-eqb m o (eqb-true m n h ∙ eqb-true n o k)
  type_upward (Other m) (Other n) _ a b c h k = wrong k
  type_upward (Other m) _ u a b c h k = wrong h
  type_upward (Array m x) (Class n) (Class o) a b c h k = eq-eqb o 1 (only_top o c (subst (λ i. below i o ≡ true) (eqb-true n 1 h) k))
  type_upward (Array m x) (Class n) _ a b c h k = wrong k
  type_upward (Array m x) (Array n y) (Class o) a b c h k = k
  type_upward (Array m x) (Array n y) (Array o z) a b c h k = array_upward m n o x y z a b c h k
  type_upward (Array m x) (Array n y) _ a b c h k = wrong k
  type_upward (Array m x) _ u a b c h k = wrong h
