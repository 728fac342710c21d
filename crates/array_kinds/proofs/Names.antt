-- The names of array classes and their types.
use Rattle.std.proofs.Common.{◌≡◌, ℕ, zero, suc, ◌+◌, ◌<◌, ◌≤◌, Bool, true, false, cond, not, nat_eq, nat_lt, List, [], ◌∷◌, ◌++◌, replicate, Option, None, Some, unwrap_or, inl, inr, refl, sym, ap, subst, ◌∙◌, arith}
use Rattle.std.specs.List.{prefix_len}
use Rattle.std.proofs.lemmas.Bool.{ltb-true, ltb-false, true≢false}
use Rattle.std.proofs.lemmas.Option.{none-some, same_Some}
use Rattle.class_names.specs.declared.kind.BaseKind.{BaseKind}
use Rattle.class_names.specs.declared.kind.BaseKind.TheVariants as bases
use Rattle.class_names.specs.declared.kind.Kind.{Kind}
use Rattle.class_names.specs.declared.kind.Kind.TheVariants as kinds
use Rattle.class_names.specs.Names.{IsClassName}
use Rattle.class_names.specs.Reading.{is_bracket, spells_class_name}
use Rattle.class_names.specs.Descriptor.{base_text, IsFieldDescriptor}
use Rattle.class_names.specs.Kinds.{field_kind}
use Rattle.class_names.proofs.NameLaws.{spells_name}
use Rattle.class_names.proofs.BytesLaws.{field_kind_is, field_kind_again}
use Rattle.code_steps.specs.Operands.{has_dimensions}
use Rattle.code_laws.specs.File.{IsClassOrArray}
use Rattle.instructions.specs.declared.operation.PrimitiveType.{PrimitiveType}
use Rattle.instructions.specs.declared.operation.PrimitiveType.TheVariants as primitives
use Rattle.link_types.specs.declared.types.ElementType.{ElementType}
use Rattle.link_types.specs.declared.types.ElementType.TheVariants as elements
use Rattle.link_types.specs.declared.types.ObjectType.{ObjectType}
use Rattle.link_types.specs.declared.types.ObjectType.TheVariants.{Class, Other, Array}
use Rattle.link_rules.specs.Classes.{is_array_name, class_number}
use Rattle.link_rules.specs.Descriptors.{named_kind}
use Rattle.link_rules.specs.Arrays.{array_of, where_array, primitive_array}
use Rattle.link_rules.specs.Names.{ProgramNames, type_named, kind_object, element_type_of, class_type, other_number}
use Rattle.link_rules.proofs.Arrays.{begins_array}
use Rattle.array_order.specs.Order.{array_text}
use Rattle.array_kinds.specs.declared.kind.ArrayKind.{ArrayKind}
use Rattle.array_kinds.specs.Kinds.{array_kind, array_itself, array_of_type, primitive_kind, Spells, SpellKind}

pub brackets : (d : ℕ) (text : List ℕ) → replicate d 91 ++ text ≡ array_text d text
brackets zero text = refl
brackets (suc d) text = ap (λ xs. 91 ∷ xs) (brackets d text)

pub begins_with : (d : ℕ) (text : List ℕ) → has_dimensions d (array_text d text) ≡ true
begins_with zero text = refl
begins_with (suc d) text = begins_with d text

-- no class name begins with a bracket
no_bracket : (b : ℕ) (name : List ℕ) → spells_class_name false (b ∷ name) ≡ true → is_bracket b ≡ false
unfolding spells_class_name
no_bracket b name e = grind arith

pub class_no_array : (name : List ℕ) → IsClassName name → is_array_name name ≡ false
class_no_array [] is = refl
class_no_array (b ∷ name) is = ap (λ t. not (nat_eq (cond t (1 + prefix_len is_bracket name) 0) 0)) (no_bracket b name (spells_name (b ∷ name) is))

-- ---- what is named as an array

pub record NamesArray (name : List ℕ) (d : ℕ) (base : BaseKind) : Type 0 where
  pub array : is_array_name name ≡ true
  pub described : IsFieldDescriptor name (kinds.Array d base)

kind_names : (name : List ℕ) (d : ℕ) (base : BaseKind) → named_kind name ≡ kinds.Array d base → NamesArray name d base
kind_names name d base e = go (is_array_name name) refl e
  where
    read : (o : Option Kind) → field_kind name ≡ o → unwrap_or o (kinds.Base (bases.Class name)) ≡ kinds.Array d base → IsFieldDescriptor name (kinds.Array d base)
    read None is e = absurd cc
    read (Some k) is e = (field_kind_is name (kinds.Array d base)).0 (is ∙ ap (λ x. Some x) e)

    go : (b : Bool) → is_array_name name ≡ b → cond b (unwrap_or (field_kind name) (kinds.Base (bases.Class name))) (kinds.Base (bases.Class name)) ≡ kinds.Array d base → NamesArray name d base
    go true is e = record { array = is; described = read (field_kind name) refl e }
    go false is e = absurd cc

pub array_begins : (d : ℕ) (text : List ℕ) → 0 < d → is_array_name (array_text d text) ≡ true
array_begins zero text lt = absurd (omega arith)
array_begins (suc d) text lt = begins_array (array_text d text)

array_spelled : (name : List ℕ) (d : ℕ) (base : BaseKind) → IsFieldDescriptor name (kinds.Array d base) → name ≡ array_text d (base_text base)
array_spelled name d base is = is.spelled ∙ brackets d (base_text base)

pub names_kind : (name : List ℕ) (d : ℕ) (base : BaseKind) → IsFieldDescriptor name (kinds.Array d base) → named_kind name ≡ kinds.Array d base
names_kind name d base is =
    let some : 0 < d = omega (arith, is.good.0) in
    let array : is_array_name name ≡ true = ap is_array_name (array_spelled name d base is) ∙ array_begins d (base_text base) some in
    ap (λ b. cond b (unwrap_or (field_kind name) (kinds.Base (bases.Class name))) (kinds.Base (bases.Class name))) array
    ∙ ap (λ o. unwrap_or o (kinds.Base (bases.Class name))) (field_kind_again name (kinds.Array d base) is)

pub class_kind : (name : List ℕ) → is_array_name name ≡ false → named_kind name ≡ kinds.Base (bases.Class name)
class_kind name plain = ap (λ b. cond b (unwrap_or (field_kind name) (kinds.Base (bases.Class name))) (kinds.Base (bases.Class name))) plain

module _ (p : ProgramNames) where
  described_spells : (name : List ℕ) (d : ℕ) (base : BaseKind) → IsFieldDescriptor name (kinds.Array d base) → Spells p (array_kind d (element_type_of p base)) name
  described_spells name d base is = record {
    base = base;
    good = is.good.2;
    spelled = array_spelled name d base is;
    base_is = refl;
    some = omega (arith, is.good.0);
    few = is.good.1;
  }

  -- the type of a name that is an array type
  pub type_spells : (name : List ℕ) (d : ℕ) (element : ElementType) → type_named p name ≡ Array d element → Spells p (array_kind d element) name
  type_spells name d element e = go (named_kind name) refl e
    where
      no_class : (b : Bool) → cond b (Other (other_number p name)) (Class (class_number p.classes name)) ≡ Array d element → ⊥
      no_class true same = cc
      no_class false same = cc

      go : (k : Kind) → named_kind name ≡ k → kind_object p name k ≡ Array d element → Spells p (array_kind d element) name
      go (kinds.Base base) is same = absurd (no_class (nat_eq (class_number p.classes name) 0) same)
      go (kinds.Array n base) is same =
          let kind : array_kind n (element_type_of p base) ≡ array_kind d element = ap kind_in same in
          subst (λ (a : ArrayKind). Spells p a name) kind (described_spells name n base (kind_names name n base is).described)
        where
          kind_in : ObjectType → ArrayKind
          kind_in (Array m el) = array_kind m el
          kind_in (Class c) = array_kind 0 element
          kind_in (Other c) = array_kind 0 element

  class_is : (name : List ℕ) → IsClassName name → type_named p name ≡ class_type p name
  class_is name class = ap (kind_object p name) (class_kind name (class_no_array name class))

  pub array_is : (name : List ℕ) (d : ℕ) (base : BaseKind) → IsFieldDescriptor name (kinds.Array d base) → type_named p name ≡ Array d (element_type_of p base)
  array_is name d base is = ap (kind_object p name) (names_kind name d base is)

  array_name_is : (name : List ℕ) (d : ℕ) (base : BaseKind) → IsFieldDescriptor name (kinds.Array d base) → is_array_name name ≡ true
  array_name_is name d base is = (kind_names name d base (names_kind name d base is)).array

  pub itself_spells : (name : List ℕ) → IsClassOrArray name → SpellKind p (array_itself (type_named p name)) (where_array name)
  itself_spells name (inl class) =
      subst (λ t. SpellKind p (array_itself t) (where_array name)) (sym (class_is name class))
      (go (nat_eq (class_number p.classes name) 0))
    where
      none : where_array name ≡ []
      none = ap (λ b. cond b (name ∷ []) []) (class_no_array name class)

      go : (b : Bool) → SpellKind p (array_itself (cond b (Other (other_number p name)) (Class (class_number p.classes name)))) (where_array name)
      go true = none
      go false = none
  itself_spells name (inr (d, base, is)) =
      subst (λ t. SpellKind p (array_itself t) (where_array name)) (sym (array_is name d base is))
      (name, ap (λ b. cond b (name ∷ []) []) (array_name_is name d base is), described_spells name d base is)

  -- a descriptor of an array type stands for it
  pub spells_type : (a : ArrayKind) (text : List ℕ) → Spells p a text → type_named p text ≡ Array a.dimensions a.base
  spells_type a text spells =
      array_is text a.dimensions spells.base (record {
        good = (omega (arith, spells.some), spells.few, spells.good);
        spelled = spells.spelled ∙ sym (brackets a.dimensions (base_text spells.base));
      })
      ∙ ap (Array a.dimensions) (sym spells.base_is)

  -- ---- arrays of what is named

  element_spells : (name : List ℕ) (element : ElementType) → element ≡ element_type_of p (bases.Class name) → IsClassName name → Spells p (array_kind 1 element) (array_of name)
  element_spells name element is class = record {
    base = bases.Class name;
    good = class;
    spelled = ap (λ b. cond b (91 ∷ name) (91 ∷ 76 ∷ (name ++ 59 ∷ []))) (class_no_array name class);
    base_is = is;
    some = omega arith;
    few = omega arith;
  }

  longer : (name : List ℕ) (d : ℕ) (base : BaseKind) → IsFieldDescriptor name (kinds.Array d base) → array_of name ≡ array_text (suc d) (base_text base)
  longer name d base is =
      ap (λ b. cond b (91 ∷ name) (91 ∷ 76 ∷ (name ++ 59 ∷ []))) (array_name_is name d base is) ∙ ap (λ xs. 91 ∷ xs) (array_spelled name d base is)

  pub of_spells : (name : List ℕ) (a : ArrayKind) → IsClassOrArray name → array_of_type (type_named p name) ≡ Some a → Spells p a (array_of name)
  of_spells name a (inl class) e = go (nat_eq (class_number p.classes name) 0) refl (sym (ap array_of_type (class_is name class)) ∙ e)
    where
      go : (b : Bool) → nat_eq (class_number p.classes name) 0 ≡ b → array_of_type (cond b (Other (other_number p name)) (Class (class_number p.classes name))) ≡ Some a → Spells p a (array_of name)
      go true unknown same =
          subst (λ (x : ArrayKind). Spells p x (array_of name)) (same_Some (array_kind 1 (elements.Other (other_number p name))) a same)
          (element_spells name (elements.Other (other_number p name)) (sym (ap (λ b. cond b (elements.Other (other_number p name)) (elements.Class (class_number p.classes name))) unknown)) class)
      go false some same =
          subst (λ (x : ArrayKind). Spells p x (array_of name)) (same_Some (array_kind 1 (elements.Class (class_number p.classes name))) a same)
          (element_spells name (elements.Class (class_number p.classes name)) (sym (ap (λ b. cond b (elements.Other (other_number p name)) (elements.Class (class_number p.classes name))) some)) class)
  of_spells name a (inr (d, base, is)) e = go (nat_lt d 255) refl (sym (ap array_of_type (array_is name d base is)) ∙ e)
    where
      go : (b : Bool) → nat_lt d 255 ≡ b → cond b (Some (array_kind (suc d) (element_type_of p base))) None ≡ Some a → Spells p a (array_of name)
      go false more same = absurd (none-some a same)
      go true less same =
          let lt : d < 255 = ltb-true d 255 less in
          subst (λ (x : ArrayKind). Spells p x (array_of name)) (same_Some (array_kind (suc d) (element_type_of p base)) a same)
          (record {
            base = base;
            good = is.good.2;
            spelled = longer name d base is;
            base_is = refl;
            some = omega arith;
            few = omega arith;
          })

  -- an array of 255 dimensions
  pub record IsLongest (name : List ℕ) : Type 0 where
    pub base : BaseKind
    pub spelled : name ≡ array_text 255 (base_text base)
    pub longer : array_of name ≡ array_text 256 (base_text base)

  pub of_none : (name : List ℕ) → IsClassOrArray name → array_of_type (type_named p name) ≡ None → IsLongest name
  of_none name (inl class) e = absurd (go (nat_eq (class_number p.classes name) 0) (sym (ap array_of_type (class_is name class)) ∙ e))
    where
      go : (b : Bool) → array_of_type (cond b (Other (other_number p name)) (Class (class_number p.classes name))) ≡ None → ⊥
      go true same = none-some (array_kind 1 (elements.Other (other_number p name))) (sym same)
      go false same = none-some (array_kind 1 (elements.Class (class_number p.classes name))) (sym same)
  of_none name (inr (d, base, is)) e = go (nat_lt d 255) refl (sym (ap array_of_type (array_is name d base is)) ∙ e)
    where
      go : (b : Bool) → nat_lt d 255 ≡ b → cond b (Some (array_kind (suc d) (element_type_of p base))) None ≡ None → IsLongest name
      go true less same = absurd (none-some (array_kind (suc d) (element_type_of p base)) (sym same))
      go false more same =
          let high : 255 ≤ d = ltb-false d 255 more in
          let most : d ≡ 255 = omega (arith, is.good.1) in
          record {
            base = base;
            spelled = array_spelled name d base is ∙ ap (λ n. array_text n (base_text base)) most;
            longer = longer name d base is ∙ ap (λ n. array_text (suc n) (base_text base)) most;
          }

  pub primitive_spells : (kind : PrimitiveType) → Spells p (primitive_kind kind) (primitive_array kind)
  primitive_spells primitives.Boolean = record { base = bases.Boolean; good = tt; spelled = refl; base_is = refl; some = omega arith; few = omega arith }
  primitive_spells primitives.Char = record { base = bases.Char; good = tt; spelled = refl; base_is = refl; some = omega arith; few = omega arith }
  primitive_spells primitives.Byte = record { base = bases.Byte; good = tt; spelled = refl; base_is = refl; some = omega arith; few = omega arith }
  primitive_spells primitives.Short = record { base = bases.Short; good = tt; spelled = refl; base_is = refl; some = omega arith; few = omega arith }
  primitive_spells primitives.Int = record { base = bases.Int; good = tt; spelled = refl; base_is = refl; some = omega arith; few = omega arith }
  primitive_spells primitives.Long = record { base = bases.Long; good = tt; spelled = refl; base_is = refl; some = omega arith; few = omega arith }

  -- the arrays that anewarray makes of what it may name
  pub made_spells : (name : List ℕ) → IsClassOrArray name → has_dimensions 255 name ≡ false → SpellKind p (array_of_type (type_named p name)) (array_of name ∷ [])
  made_spells name is less = go (array_of_type (type_named p name)) refl
    where
      go : (o : Option ArrayKind) → array_of_type (type_named p name) ≡ o → SpellKind p o (array_of name ∷ [])
      go (Some a) e = (array_of name, refl, of_spells name a is e)
      go None e = absurd (true≢false (sym (ap (has_dimensions 255) (of_none name is e).spelled ∙ begins_with 255 (base_text (of_none name is e).base)) ∙ less))
