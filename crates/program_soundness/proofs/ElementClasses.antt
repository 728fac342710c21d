-- The class of the elements of an array class of references has the type of its elements.
use Rattle.std.proofs.Common.{◌≡◌, ◌<◌, ◌≤◌, ◌-◌, ℕ, zero, suc, Bool, true, false, cond, nat_eq, Some, List, drop, refl, sym, ap, subst, ◌∙◌, arith}
use Rattle.std.specs.Prelude.{option_and_then}
use Rattle.std.proofs.lemmas.Bool.{ne_eqb}
use Rattle.std.proofs.lemmas.Option.{same_Some}
use Rattle.array_kinds.specs.Kinds.{array_kind, Spells}
use Rattle.array_kinds.proofs.Names.{array_begins, class_kind, class_no_array, spells_type, type_spells}
use Rattle.array_order.specs.Order.{array_text}
use Rattle.class_names.specs.declared.kind.BaseKind.{BaseKind}
use Rattle.class_names.specs.declared.kind.BaseKind.TheVariants as bases
use Rattle.class_names.specs.declared.kind.Kind.TheVariants as kinds
use Rattle.class_names.specs.Descriptor.{base_text, IsBaseKind}
use Rattle.class_names.specs.Kinds.{field_kind}
use Rattle.class_names.proofs.BytesLaws.{field_kind_again}
use Rattle.link_types.specs.declared.types.ElementType.{ElementType}
use Rattle.link_types.specs.declared.types.ElementType.TheVariants as elements
use Rattle.link_types.specs.declared.types.ObjectType.{ObjectType}
use Rattle.link_types.specs.declared.types.ObjectType.TheVariants.{Class, Other, Array}
use Rattle.link_rules.specs.Classes.{class_number, is_array_name}
use Rattle.link_rules.specs.Descriptors.{class_of_kind}
use Rattle.link_rules.specs.Names.{ProgramNames, class_type, element_type_of, kind_object, other_number, type_named}
use Rattle.link_rules.specs.Readers.{element_name}
use Rattle.row_soundness.specs.Knowledge.{element_type}
use Rattle.program_soundness.proofs.ElementTypes.{of_more}

module _ (p : ProgramNames) where
  -- arrays of arrays
  of_arrays : (d : ℕ) (base : BaseKind) (type : ObjectType) (name en : List ℕ) → 0 < d → d < 255 → IsBaseKind base → name ≡ array_text (suc d) (base_text base) → element_type (Array (suc d) (element_type_of p base)) ≡ Some type
      → element_name name ≡ Some en → type_named p en ≡ type
  of_arrays d base type name en some few good spelled at named =
      let rest : drop 1 name ≡ array_text d (base_text base) = ap (drop 1) spelled in
      let array : is_array_name (drop 1 name) ≡ true = ap is_array_name rest ∙ array_begins d (base_text base) some in
      let same : drop 1 name ≡ en = same_Some (drop 1 name) en (sym (ap (λ b. cond b (Some (drop 1 name)) (option_and_then class_of_kind (field_kind (drop 1 name)))) array) ∙ named) in
      let spells : Spells p (array_kind d (element_type_of p base)) en = record { base = base; good = good; spelled = sym same ∙ rest; base_is = refl; some = some; few = omega (arith, few) } in
      let less : suc d - 1 ≡ d = omega arith in
      let inner : Array d (element_type_of p base) ≡ type = ap (λ k. Array k (element_type_of p base)) (sym less) ∙ same_Some (Array (suc d - 1) (element_type_of p base)) type (sym (of_more (suc d) (element_type_of p base) (ne_eqb (suc d) 1 (λ e. omega (arith, e, some)))) ∙ at) in
      spells_type p (array_kind d (element_type_of p base)) en spells ∙ inner

  -- arrays of objects
  of_objects : (base : BaseKind) (type : ObjectType) (name en : List ℕ) → IsBaseKind base → name ≡ array_text 1 (base_text base) → element_type (Array 1 (element_type_of p base)) ≡ Some type → element_name name ≡ Some en → type_named p en ≡ type
  of_objects bases.Int type name en good spelled at named = cc
  of_objects bases.Byte type name en good spelled at named = cc
  of_objects bases.Char type name en good spelled at named = cc
  of_objects bases.Short type name en good spelled at named = cc
  of_objects bases.Boolean type name en good spelled at named = cc
  of_objects bases.Long type name en good spelled at named = cc
  of_objects bases.Float type name en good spelled at named = cc
  of_objects bases.Double type name en good spelled at named = cc
  of_objects (bases.Class class) type name en good spelled at named =
      ap (type_named p) (sym same) ∙ (ap (kind_object p class) (class_kind class (class_no_array class good)) ∙ by_number (nat_eq (class_number p.classes class) 0) refl)
    where
      text : List ℕ
      text = base_text (bases.Class class)

      read : element_name name ≡ Some class
      read =
          ap element_name spelled
          ∙ ap (option_and_then class_of_kind) (field_kind_again (base_text (bases.Class class)) (kinds.Base (bases.Class class)) (record { good = good; spelled = refl }))

      same : class ≡ en
      same = same_Some class en (sym read ∙ named)

      by_number : (b : Bool) → nat_eq (class_number p.classes class) 0 ≡ b → class_type p class ≡ type
      by_number true none =
          ap (λ b. cond b (Other (other_number p class)) (Class (class_number p.classes class))) none
          ∙ same_Some (Other (other_number p class)) type (sym (ap (λ b. element_type (Array 1 (cond b (elements.Other (other_number p class)) (elements.Class (class_number p.classes class))))) none) ∙ at)
      by_number false there =
          ap (λ b. cond b (Other (other_number p class)) (Class (class_number p.classes class))) there
          ∙ same_Some (Class (class_number p.classes class)) type (sym (ap (λ b. element_type (Array 1 (cond b (elements.Other (other_number p class)) (elements.Class (class_number p.classes class))))) there) ∙ at)

  -- the name of the elements of an array class stands for their type
  pub element_named : (name en : List ℕ) (d : ℕ) (x : ElementType) (type : ObjectType) → type_named p name ≡ Array d x → element_type (Array d x) ≡ Some type → element_name name ≡ Some en → type_named p en ≡ type
  element_named name en d x type is at named = by_dimensions d spells (subst (λ y. element_type (Array d y) ≡ Some type) spells.base_is at)
    where
      spells : Spells p (array_kind d x) name
      spells = type_spells p name d x is

      by_dimensions : (d : ℕ) (s : Spells p (array_kind d x) name) → element_type (Array d (element_type_of p s.base)) ≡ Some type → type_named p en ≡ type
      by_dimensions zero s there = absurd (let some : 0 < 0 = s.some in omega (arith, some))
      by_dimensions (suc zero) s there = of_objects s.base type name en s.good s.spelled there named
      by_dimensions (suc (suc d)) s there = let few : suc (suc d) ≤ 255 = s.few in of_arrays (suc d) s.base type name en (omega arith) (omega (arith, few)) s.good s.spelled there named
