-- What an index of a pool names, where it names a field or a method.
use Rattle.std.proofs.Common.{◌≡◌, ◌≢◌, inl, inr, ◌≤◌, ◌==◌, ℕ, Bool, true, false, cond, nat_eq, Option, None, Some, List, [], ◌∷◌, length, slice_get, Contains, flat_map, refl, sym, ap, subst, ◌∙◌, if◌then◌else◌}
use Rattle.std.specs.Prelude.{unwrap_or, option_map, option_and_then, IsSomeAnd}
use Rattle.std.specs.List.{list_any}
use Rattle.std.specs.Option.{option_map_or}
use Rattle.std.proofs.lemmas.Bool.{eq-eqb, ne_eqb, eqb-false}
use Rattle.std.proofs.lemmas.List.Elements.{Contains-append_left, Contains-append_right}
use Rattle.array_kinds.proofs.Names.{class_no_array, class_kind, array_is, names_kind}
use Rattle.builtin_world.specs.declared.number.TheConstants.{OBJECT, SYSTEM}
use Rattle.class_names.specs.Kinds.{field_kind}
use Rattle.class_walk.specs.declared.class.Constant.{Constant}
use Rattle.class_walk.specs.declared.class.Constant.TheVariants as constants
use Rattle.class_pool.specs.Lookup.{reference_in}
use Rattle.class_pool.specs.Pool.{Reference, reference_of}
use Rattle.code_decode.specs.declared.code.ClassUnit.{ClassUnit}
use Rattle.code_laws.specs.File.{IsClassOrArray, IsRightReference}
use Rattle.code_laws.proofs.FileLaws.{entries}
use Rattle.link_types.specs.declared.operands.FieldOperand.{FieldOperand}
use Rattle.link_types.specs.declared.operands.MethodOperand.{MethodOperand}
use Rattle.link_types.specs.declared.operands.Operand.{Operand}
use Rattle.link_types.specs.declared.operands.Operand.TheVariants as operands
use Rattle.link_types.specs.declared.types.ObjectType.TheVariants.{Class, Other, Array}
use Rattle.link_types.specs.declared.types.ValueType.{ValueType}
use Rattle.link_rules.specs.Classes.{classes_of, class_number, is_array_name, number_of_file, reference_at, unit_numbered}
use Rattle.link_rules.specs.Linked.{IsLinked}
use Rattle.link_rules.specs.Members.{Declared, found_field, found_method, holder}
use Rattle.link_rules.specs.Names.{ProgramNames, program_names, class_type, kind_object, other_number, type_named, value_type}
use Rattle.link_rules.specs.Operands.{operand, operand_of, field_named, field_operand, method_found, method_operand}
use Rattle.link_rules.specs.Supers.{superclasses, superinterfaces, field_order, method_order}
use Rattle.link_rules.specs.Units.{AreUnits}
use Rattle.link_rules.proofs.Arrays.{from_flat_map}
use Rattle.link_rules.proofs.Lists.{contains_cases, contains_none, contains_flat_map}
use Rattle.link_rules.proofs.Numbers.{class_number_within}
use Rattle.link_rules.proofs.Upward.{up_none, above_itself}
use Rattle.type_rules.specs.Assignable.{is_object_assignable}
use Rattle.type_rules.specs.Environments.{hierarchy_of}
use Rattle.program_soundness.proofs.Hierarchy.{to_looked, object_looked}
use Rattle.program_soundness.proofs.Methods.{unit_found}

-- what fields are looked for in is what methods are looked for in
pub field_in_method_order : (us : List ClassUnit) (c d : ℕ) → Contains (field_order (classes_of us) c) d → Contains (method_order (classes_of us) c) d
field_in_method_order us c d h =
    let (e, up, at) = from_flat_map (λ x. x ∷ superinterfaces (classes_of us) x) (superclasses (classes_of us) c) d h in
    elim (contains_cases e (superinterfaces (classes_of us) e) d at) [
      | inl same ↦ Contains-append_left (superclasses (classes_of us) c) (flat_map (superinterfaces (classes_of us)) (superclasses (classes_of us) c)) d (subst (λ x. Contains (superclasses (classes_of us) c) x) same up)
      | inr over ↦ Contains-append_right (superclasses (classes_of us) c) (flat_map (superinterfaces (classes_of us)) (superclasses (classes_of us) c)) d (contains_flat_map (superinterfaces (classes_of us)) (superclasses (classes_of us) c) e d up over)
    ]

module _ (us : List ClassUnit) where
  -- a method that look-up finds by a reference of the pool
  pub record IsNamedMethod (this : ℕ) (m : MethodOperand) : Type 0 where
    pub file : ℕ
    pub unit : ClassUnit
    pub there : slice_get us file ≡ Some unit
    pub class : this ≡ number_of_file file
    pub reference : Reference
    pub right : IsRightReference reference
    pub declared : Declared
    pub found : found_method (classes_of us) reference ≡ Some declared
    pub same : m ≡ method_operand (program_names us) this reference declared

  -- a field
  pub record IsNamedField (f : FieldOperand) : Type 0 where
    pub reference : Reference
    pub right : IsRightReference reference
    pub declared : Declared
    pub found : found_field (classes_of us) reference ≡ Some declared
    pub read : declared.class ≢ SYSTEM
    pub kind : ValueType
    pub typed : option_and_then (value_type (program_names us)) (field_kind declared.member.descriptor) ≡ Some kind
    pub same : f ≡ field_operand (program_names us) reference declared kind

  field_no_method : (r : Reference) (found : Option Declared) (m : MethodOperand) → field_named (program_names us) r found ≡ operands.Method m → ⊥
  field_no_method r None m e = cc
  field_no_method r (Some d) m e = by_system (d.class == SYSTEM) (option_and_then (value_type (program_names us)) (field_kind d.member.descriptor)) e
    where
      by_system : (b : Bool) (kind : Option ValueType) → (if b then operands.Out else option_map_or (λ kind. operands.Field (field_operand (program_names us) r d kind)) kind operands.Nothing) ≡ operands.Method m → ⊥
      by_system true kind is = cc
      by_system false None is = cc
      by_system false (Some kind) is = cc

  method_no_field : (this : ℕ) (r : Reference) (found : Option Declared) (f : FieldOperand) → method_found (program_names us) this r found ≡ operands.Field f → ⊥
  method_no_field this r None f e = cc
  method_no_field this r (Some d) f e = cc

  same_method : (a b : MethodOperand) → ◌≡◌ {A = Operand} (operands.Method a) (operands.Method b) → a ≡ b
  same_method a b e = cc

  same_field : (a b : FieldOperand) → ◌≡◌ {A = Operand} (operands.Field a) (operands.Field b) → a ≡ b
  same_field a b e = cc

  module _ (units : AreUnits us) where
    -- the reference at an index
    reference_is : (file : ℕ) (u : ClassUnit) → slice_get us file ≡ Some u → (index : ℕ) (r : Reference) → reference_in u.file.pool (slice_get u.file.pool index) ≡ Some r → reference_at u.file.pool index ≡ r
    reference_is file u there index r is = ap (λ o. unwrap_or o (reference_of [] [] [])) is

    module _ (this file : ℕ) (u : ClassUnit) (there : slice_get us file ≡ Some u) (class : this ≡ number_of_file file) (index : ℕ) where
      by_reference : (r : Reference) → reference_at u.file.pool index ≡ r → IsRightReference r → (m : MethodOperand) → method_found (program_names us) this (reference_at u.file.pool index) (found_method (classes_of us) (reference_at u.file.pool index)) ≡ operands.Method m
          → IsNamedMethod this m
      by_reference r is right m e = by_found (found_method (classes_of us) r) refl (subst (λ x. method_found (program_names us) this x (found_method (classes_of us) x) ≡ operands.Method m) is e)
        where
          by_found : (o : Option Declared) → found_method (classes_of us) r ≡ o → method_found (program_names us) this r o ≡ operands.Method m → IsNamedMethod this m
          by_found None same e = cc
          by_found (Some d) same e = record {
            file = file;
            unit = u;
            there = there;
            class = class;
            reference = r;
            right = right;
            declared = d;
            found = same;
            same = sym (same_method (method_operand (program_names us) this r d) m e);
          }

      by_field_reference : (r : Reference) → reference_at u.file.pool index ≡ r → IsRightReference r → (f : FieldOperand) → field_named (program_names us) (reference_at u.file.pool index) (found_field (classes_of us) (reference_at u.file.pool index)) ≡ operands.Field f → IsNamedField f
      by_field_reference r is right f e = by_found (found_field (classes_of us) r) refl (subst (λ x. field_named (program_names us) x (found_field (classes_of us) x) ≡ operands.Field f) is e)
        where
          by_kind : (d : Declared) → found_field (classes_of us) r ≡ Some d → (b : Bool) → (d.class == SYSTEM) ≡ b → (kind : Option ValueType) → option_and_then (value_type (program_names us)) (field_kind d.member.descriptor) ≡ kind
              → (if b then operands.Out else option_map_or (λ kind. operands.Field (field_operand (program_names us) r d kind)) kind operands.Nothing) ≡ operands.Field f → IsNamedField f
          by_kind d same true system kind typed e = cc
          by_kind d same false other None typed e = cc
          by_kind d same false other (Some kind) typed e = record { reference = r; right = right; declared = d; found = same; read = eqb-false d.class SYSTEM other; kind = kind; typed = typed; same = sym (same_field (field_operand (program_names us) r d kind) f e) }

          by_found : (o : Option Declared) → found_field (classes_of us) r ≡ o → field_named (program_names us) r o ≡ operands.Field f → IsNamedField f
          by_found None same e = cc
          by_found (Some d) same e = by_kind d same (d.class == SYSTEM) refl (option_and_then (value_type (program_names us)) (field_kind d.member.descriptor)) refl e

      by_constant : (c : Option Constant) → slice_get u.file.pool index ≡ c → (m : MethodOperand) → operand_of (program_names us) this u.file.pool index c ≡ operands.Method m → IsNamedMethod this m
      by_constant (Some (constants.Method a b)) entry m e =
          let (r, is, right) = entries u.file (units file u there).file index (constants.Method a b) entry in by_reference r (reference_is file u there index r is) right m e
      by_constant (Some (constants.IfaceMethod a b)) entry m e =
          let (r, is, right) = entries u.file (units file u there).file index (constants.IfaceMethod a b) entry in by_reference r (reference_is file u there index r is) right m e
      by_constant (Some (constants.Field a b)) entry m e = absurd (field_no_method (reference_at u.file.pool index) (found_field (classes_of us) (reference_at u.file.pool index)) m e)
      by_constant _ entry m e = cc

      by_field_constant : (c : Option Constant) → slice_get u.file.pool index ≡ c → (f : FieldOperand) → operand_of (program_names us) this u.file.pool index c ≡ operands.Field f → IsNamedField f
      by_field_constant (Some (constants.Field a b)) entry f e =
          let (r, is, right) = entries u.file (units file u there).file index (constants.Field a b) entry in by_field_reference r (reference_is file u there index r is) right f e
      by_field_constant (Some (constants.Method a b)) entry f e = absurd (method_no_field this (reference_at u.file.pool index) (found_method (classes_of us) (reference_at u.file.pool index)) f e)
      by_field_constant (Some (constants.IfaceMethod a b)) entry f e = absurd (method_no_field this (reference_at u.file.pool index) (found_method (classes_of us) (reference_at u.file.pool index)) f e)
      by_field_constant _ entry f e = cc

    pub method_at : (this index : ℕ) (m : MethodOperand) → operand us this index ≡ operands.Method m → IsNamedMethod this m
    method_at this index m e = by_unit (unit_numbered us this) refl e
      where
        by_unit : (o : Option ClassUnit) → unit_numbered us this ≡ o → option_map_or (λ (u : ClassUnit). operand_of (program_names us) this u.file.pool index (slice_get u.file.pool index)) o operands.Nothing ≡ operands.Method m → IsNamedMethod this m
        by_unit None numbered is = cc
        by_unit (Some u) numbered is = let (file, class, there) = unit_found us this u numbered in by_constant this file u there class index (slice_get u.file.pool index) refl m is

    pub field_at : (this index : ℕ) (f : FieldOperand) → operand us this index ≡ operands.Field f → IsNamedField f
    field_at this index f e = by_unit (unit_numbered us this) refl e
      where
        by_unit : (o : Option ClassUnit) → unit_numbered us this ≡ o → option_map_or (λ (u : ClassUnit). operand_of (program_names us) this u.file.pool index (slice_get u.file.pool index)) o operands.Nothing ≡ operands.Field f → IsNamedField f
        by_unit None numbered is = cc
        by_unit (Some u) numbered is = let (file, class, there) = unit_found us this u numbered in by_field_constant this file u there class index (slice_get u.file.pool index) refl f is

  -- ---- the class that is named

  -- a class, or an array, which has the members of Object
  pub data IsHeld (r : Reference) : Type 0 where
    by_class : is_array_name r.class ≡ false → holder (classes_of us) r ≡ class_number (classes_of us) r.class
        → type_named (program_names us) r.class ≡ cond (nat_eq (class_number (classes_of us) r.class) 0) (Other (other_number (program_names us) r.class)) (Class (class_number (classes_of us) r.class)) → IsHeld r
    by_array : (d : ℕ) (x : Rattle.link_types.specs.declared.types.ElementType.ElementType) → holder (classes_of us) r ≡ OBJECT → type_named (program_names us) r.class ≡ Array d x → IsHeld r

  pub held : (r : Reference) → IsClassOrArray r.class → IsHeld r
  held r (inl class) =
      let plain = class_no_array r.class class in
      by_class plain (ap (λ b. cond b OBJECT (class_number (classes_of us) r.class)) plain) (ap (kind_object (program_names us) r.class) (class_kind r.class plain))
  held r (inr (d, base, is)) =
      let array : is_array_name r.class ≡ true = named_array (is_array_name r.class) refl (names_kind r.class d base is) in
      by_array d (Rattle.link_rules.specs.Names.element_type_of (program_names us) base) (ap (λ b. cond b OBJECT (class_number (classes_of us) r.class)) array) (array_is (program_names us) r.class d base is)
    where
      named_array : (b : Bool) → is_array_name r.class ≡ b → Rattle.link_rules.specs.Descriptors.named_kind r.class ≡ Rattle.class_names.specs.declared.kind.Kind.TheVariants.Array d base → is_array_name r.class ≡ true
      named_array true same kind = same
      named_array false same kind = let plain = class_kind r.class same in absurd (no_kind (sym plain ∙ kind))
        where
          no_kind : Rattle.class_names.specs.declared.kind.Kind.TheVariants.Base (Rattle.class_names.specs.declared.kind.BaseKind.TheVariants.Class r.class) ≡ Rattle.class_names.specs.declared.kind.Kind.TheVariants.Array d base → ⊥
          no_kind e = cc

  no_order : (d : ℕ) → Contains (method_order (classes_of us) 0) d → ⊥
  no_order d h =
      let none : superclasses (classes_of us) 0 ≡ [] = up_none (classes_of us) (length (classes_of us)) in
      contains_none d (subst (λ xs. Contains (Rattle.std.specs.Prelude.◌++◌ xs (flat_map (superinterfaces (classes_of us)) xs)) d) none h)

  module _ (order : List ℕ) (linked : IsLinked us order) where
    -- the named type is assignable to the class in which look-up finds a member
    pub named_goes : (r : Reference) (d : ℕ) → IsClassOrArray r.class → Contains (method_order (classes_of us) (holder (classes_of us) r)) d → is_object_assignable (hierarchy_of (classes_of us)) (type_named (program_names us) r.class) (Class d) ≡ true
    named_goes r d class above = by_holder (held r class)
      where
        by_holder : IsHeld r → is_object_assignable (hierarchy_of (classes_of us)) (type_named (program_names us) r.class) (Class d) ≡ true
        by_holder (by_array n x object type) =
            subst (λ t. is_object_assignable (hierarchy_of (classes_of us)) t (Class d) ≡ true) (sym type)
            (eq-eqb d OBJECT (object_looked us order linked d (subst (λ c. Contains (method_order (classes_of us) c) d) object above)))
        by_holder (by_class plain number type) =
            let here : Contains (method_order (classes_of us) (class_number (classes_of us) r.class)) d = subst (λ c. Contains (method_order (classes_of us) c) d) number above in
            let some : nat_eq (class_number (classes_of us) r.class) 0 ≡ false = ne_eqb (class_number (classes_of us) r.class) 0 (λ e. no_order d (subst (λ c. Contains (method_order (classes_of us) c) d) e here)) in
            subst (λ t. is_object_assignable (hierarchy_of (classes_of us)) t (Class d) ≡ true)
            (sym (type ∙ ap (λ b. cond b (Other (other_number (program_names us) r.class)) (Class (class_number (classes_of us) r.class))) some))
            (to_looked us order linked (class_number (classes_of us) r.class) d (class_number_within (classes_of us) r.class) here)

    -- a class that has members is on its own order
    pub own_order : (c : ℕ) → c ≢ 0 → c ≤ length (classes_of us) → Contains (method_order (classes_of us) c) c
    own_order c some within = Contains-append_left (superclasses (classes_of us) c) (flat_map (superinterfaces (classes_of us)) (superclasses (classes_of us) c)) c (above_itself (classes_of us) order linked.order c some within)

  -- the class of a constructor that is named
  pub class_held : (r : Reference) (c : ℕ) → IsClassOrArray r.class → type_named (program_names us) r.class ≡ Class c → holder (classes_of us) r ≡ c
  class_held r c class type = by_holder (held r class)
    where
      same_number : (b : Bool) → cond b (Other (other_number (program_names us) r.class)) (Class (class_number (classes_of us) r.class)) ≡ Class c → class_number (classes_of us) r.class ≡ c
      same_number true e = cc
      same_number false e = cc

      by_holder : IsHeld r → holder (classes_of us) r ≡ c
      by_holder (by_array n x object is) = absurd (no_array (sym is ∙ type))
        where
          no_array : Array n x ≡ Class c → ⊥
          no_array e = cc
      by_holder (by_class plain number is) = number ∙ same_number (nat_eq (class_number (classes_of us) r.class) 0) (sym is ∙ type)
