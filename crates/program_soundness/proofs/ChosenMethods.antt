-- The methods that calls execute.
use Rattle.std.proofs.Common.{◌≡◌, ◌≢◌, ◌⊎◌, inl, inr, ◌<◌, ◌≤◌, ◌+◌, ◌==◌, ◌&&◌, ◌||◌, ℕ, zero, suc, Bool, true, false, not, cond, Option, None, Some, List, [], ◌∷◌, ◌++◌, length, map, slice_get, Contains, bytes_eq, codes, refl, sym, ap, subst, ◌∙◌, arith, if◌then◌else◌}
use Rattle.std.specs.Prelude.{option_map, option_and_then, IsSomeAnd, nat_le}
use Rattle.std.specs.List.{list_any}
use Rattle.std.specs.Option.{option_map_or}
use Rattle.std.proofs.lemmas.Bool.{and_parts, eqb-true, not-true, cases_lt, or_parts}
use Rattle.std.proofs.lemmas.Option.{same_Some, none-some}
use Rattle.access_flags.specs.declared.TheConstants.{ABSTRACT, STATIC, PRIVATE, FINAL, NATIVE}
use Rattle.access_flags.specs.Flags.{has}
use Rattle.builtin_world.specs.Library.{library}
use Rattle.builtin_world.specs.declared.Native.{Native}
use Rattle.builtin_world.specs.declared.number.TheConstants.{COUNT, PRINT_STREAM, RUNNABLE}
use Rattle.code_decode.specs.declared.code.ClassUnit.{ClassUnit}
use Rattle.code_facts.proofs.CodeFacts.{have_code}
use Rattle.instructions.specs.declared.operation.Call.TheVariants as call_kinds
use Rattle.link_types.specs.declared.methods.MethodBody.TheVariants as bodies
use Rattle.link_types.specs.declared.operands.FieldOperand.{FieldOperand}
use Rattle.link_types.specs.declared.operands.MethodId.{MethodId}
use Rattle.link_types.specs.declared.operands.MethodOperand.{MethodOperand}
use Rattle.link_types.specs.declared.operands.Operand.TheVariants as operands
use Rattle.link_types.specs.declared.types.ObjectType.TheVariants.{Class}
use Rattle.link_rules.specs.Classes.{NamedMember, classes_of, methods_of, number_of_file, superclass_of}
use Rattle.link_rules.specs.Laws.{IsFoundMethod, IsSelected}
use Rattle.link_rules.specs.Linked.{IsLinked}
use Rattle.link_rules.specs.LinkRules.{link_rules}
use Rattle.link_rules.specs.Members.{Declared, holder, is_initializer, is_virtual, method_id, selected, signature_of, special}
use Rattle.link_rules.specs.Methods.{method_named, parameter_types, result_type, implemented, initializer, selection_start, select_member, body_of_member, native_of}
use Rattle.link_rules.specs.Names.{program_names, is_class_number, type_named}
use Rattle.link_rules.specs.Operands.{operand}
use Rattle.link_rules.specs.Supers.{superclasses}
use Rattle.link_rules.specs.Units.{AreUnits}
use Rattle.link_rules.specs.Uses.{FitsCall}
use Rattle.link_rules.proofs.Initializers.{initializers}
use Rattle.link_rules.proofs.Lists.{contains_tail}
use Rattle.link_rules.proofs.Looked.{field_fits, method_fits, selected_fits}
use Rattle.link_rules.proofs.Numbers.{class_count_is}
use Rattle.link_rules.proofs.Upward.{superclasses_step}
use Rattle.type_rules.specs.Assignable.{is_object_assignable}
use Rattle.type_rules.specs.Environment.{type_of_value}
use Rattle.type_rules.specs.Environments.{hierarchy_of, is_constructor, words_of_values, receiver_values}
use Rattle.java_rows.specs.Program.{body_of, method_has, calls_without_class, is_subclass, select, select_for, thread_run, runnable_run}
use Rattle.row_soundness.specs.Accepted.{IsChosen}
use Rattle.row_soundness.specs.Fits.{CodeOf, env_of}
use Rattle.row_soundness.specs.Natives.{IsNative, IsNativeConstructor}
use Rattle.program_soundness.proofs.Hierarchy.{to_superclass}
use Rattle.program_soundness.proofs.MethodFlags.{method_class, method_class_numbered, file_method, private_concrete, static_concrete, final_concrete, print_stream_concrete, native_constructor, built_in_body}
use Rattle.program_soundness.proofs.Methods.{both_true, file_code}
use Rattle.program_soundness.proofs.NamedMembers.{IsNamedMethod, method_at, field_at, named_goes, class_held, own_order, field_in_method_order}

library_long : (i : ℕ) → 28 < suc i → length library ≤ i
unfolding library
library_long i lt = omega (arith, lt)

module _ (us : List ClassUnit) where
  -- a method with the descriptor of another one, which may be executed on an object
  chosen_by : (id found : MethodId) (a b : NamedMember) → method_named (classes_of us) id ≡ Some a → method_named (classes_of us) found ≡ Some b → b.descriptor ≡ a.descriptor
      → has b.flags ABSTRACT ≡ false → has b.flags STATIC ≡ false → IsChosen us id found
  chosen_by id found a b named_id named same concrete instance = record {
    member = b;
    named = named;
    concrete = concrete;
    instance = instance;
    parameters =
        ap (λ (o : Option NamedMember). option_map_or (λ (m : NamedMember). parameter_types (program_names us) m.descriptor) o []) named
        ∙ (ap (parameter_types (program_names us)) same
        ∙ sym (ap (λ (o : Option NamedMember). option_map_or (λ (m : NamedMember). parameter_types (program_names us) m.descriptor) o []) named_id));
    result =
        ap (λ (o : Option NamedMember). option_and_then (λ (m : NamedMember). result_type (program_names us) m.descriptor) o) named
        ∙ (ap (result_type (program_names us)) same
        ∙ sym (ap (λ (o : Option NamedMember). option_and_then (λ (m : NamedMember). result_type (program_names us) m.descriptor) o) named_id));
  }

  -- a method that is selected is neither static nor private
  not_static : (m : NamedMember) → is_virtual m ≡ true → has m.flags STATIC ≡ false
  not_static m virtual = (or_parts (has m.flags STATIC) (has m.flags PRIVATE) (not-true (has m.flags STATIC || has m.flags PRIVATE) virtual)).0

  -- the member that is named, as a call asks of it
  fits_named : (id : MethodId) (m : NamedMember) (P : NamedMember → Type 0) → method_named (classes_of us) id ≡ Some m → IsSomeAnd (method_named (classes_of us) id) P → P m
  fits_named id m P named is = subst (λ o. IsSomeAnd o P) named is

  some_named : (id : MethodId) (P : NamedMember → Type 0) → IsSomeAnd (method_named (classes_of us) id) P → (m : NamedMember) × (method_named (classes_of us) id ≡ Some m) × P m
  some_named id P is = by_member (method_named (classes_of us) id) refl is
    where
      by_member : (o : Option NamedMember) → method_named (classes_of us) id ≡ o → IsSomeAnd o P → (m : NamedMember) × (method_named (classes_of us) id ≡ Some m) × P m
      by_member None same is = absurd is
      by_member (Some m) same is = (m, same, is)

  module _ (units : AreUnits us) where
    -- ---- selection

    by_selected : (id found : MethodId) (a : NamedMember) → method_named (classes_of us) id ≡ Some a → (c : ℕ) (o : Option Declared) → selected (classes_of us) c (signature_of a) ≡ o → option_map method_id (implemented o) ≡ Some found → IsChosen us id found
    by_selected id found a named c None same e = cc
    by_selected id found a named c (Some d) same e = by_flag (has d.member.flags ABSTRACT) refl e
      where
        by_flag : (b : Bool) → has d.member.flags ABSTRACT ≡ b → option_map method_id (cond b None (Some d)) ≡ Some found → IsChosen us id found
        by_flag true abstract is = cc
        by_flag false concrete is =
            let fits : IsSelected (classes_of us) c (signature_of a) d = selected_fits (classes_of us) c (signature_of a) d same in
            subst (λ x. IsChosen us id x) (same_Some (method_id d) found is) (chosen_by id (method_id d) a d.member named fits.there fits.descriptor concrete (not_static d.member fits.virtual))

    pub selects_chosen : (c : ℕ) (id found : MethodId) (a : NamedMember) → method_named (classes_of us) id ≡ Some a → has a.flags STATIC ≡ false → select us c id ≡ Some found → IsChosen us id found
    selects_chosen c id found a named instance e = by_number (is_class_number (program_names us) c) e
      where
        by_private : (b : Bool) → has a.flags PRIVATE ≡ b → cond b (Some id) (option_map method_id (implemented (selected (classes_of us) (selection_start (program_names us) c) (signature_of a)))) ≡ Some found → IsChosen us id found
        by_private true private is =
            subst (λ x. IsChosen us id x) (same_Some id found is) (chosen_by id id a a named named refl (private_concrete us units id a named private) instance)
        by_private false other is = by_selected id found a named (selection_start (program_names us) c) (selected (classes_of us) (selection_start (program_names us) c) (signature_of a)) refl is

        by_number : (b : Bool) → cond b (option_and_then (select_member (program_names us) c id) (method_named (classes_of us) id)) None ≡ Some found → IsChosen us id found
        by_number true is = by_private (has a.flags PRIVATE) refl (sym (ap (λ o. option_and_then (select_member (program_names us) c id) o) named) ∙ is)
        by_number false is = absurd (none-some found is)

    flag_of : (id : MethodId) (a : NamedMember) (flag : ℕ) (b : Bool) → method_named (classes_of us) id ≡ Some a → method_has us id flag ≡ b → has a.flags flag ≡ b
    flag_of id a flag b named is = sym (ap (λ (o : Option NamedMember). option_map_or (λ (m : NamedMember). has m.flags flag) o false) named) ∙ is

    run_named : (method_named (classes_of us) thread_run ≡ Some (record { name = codes "run"; descriptor = codes "()V"; flags = 1; name_at = 0 }))
    unfolding library
    run_named = refl

    target_named : (method_named (classes_of us) runnable_run ≡ Some (record { name = codes "run"; descriptor = codes "()V"; flags = 1025; name_at = 0 }))
    unfolding library
    target_named = refl

    pub runs : (c : ℕ) (found : MethodId) → select us c thread_run ≡ Some found → IsChosen us thread_run found
    runs c found e = selects_chosen c thread_run found _ run_named refl e

    pub target_runs : (c : ℕ) (found : MethodId) → select_for us RUNNABLE runnable_run c ≡ Some found → IsChosen us runnable_run found
    target_runs c found e = by_test (is_subclass us c RUNNABLE) e
      where
        by_test : (b : Bool) → cond b (select us c runnable_run) None ≡ Some found → IsChosen us runnable_run found
        by_test true is = selects_chosen c runnable_run found _ target_named refl is
        by_test false is = absurd (none-some found is)

    -- ---- methods that an index names

    found_there : (this : ℕ) (m : MethodOperand) (n : IsNamedMethod us this m) → IsFoundMethod (classes_of us) n.reference n.declared
    found_there this m n = method_fits (classes_of us) n.reference n.declared n.found

    method_is : (this : ℕ) (m : MethodOperand) (n : IsNamedMethod us this m) → m.method ≡ method_id n.declared
    method_is this m n = ap (λ (x : MethodOperand). x.method) n.same

    named_is : (this : ℕ) (m : MethodOperand) (n : IsNamedMethod us this m) → method_named (classes_of us) m.method ≡ Some n.declared.member
    named_is this m n = ap (λ x. method_named (classes_of us) x) (method_is this m n) ∙ (found_there this m n).found.there

    pub selects : (this index : ℕ) (m : MethodOperand) (c : ℕ) (found : MethodId) → operand us this index ≡ operands.Method m → method_has us m.method STATIC ≡ false → select us c m.method ≡ Some found → IsChosen us m.method found
    selects this index m c found e instance is =
        let n = method_at us units this index m e in
        selects_chosen c m.method found n.declared.member (named_is this m n) (flag_of m.method n.declared.member STATIC false (named_is this m n) instance) is

    pub finals : (this index : ℕ) (m : MethodOperand) → operand us this index ≡ operands.Method m → method_has us m.method STATIC ≡ false → calls_without_class us m.method ≡ true → IsChosen us m.method m.method
    finals this index m e instance without =
        let n = method_at us units this index m e in
        let named = named_is this m n in
        let parts = and_parts (nat_le m.method.class COUNT) (if m.method.class == PRINT_STREAM then true else method_has us m.method FINAL) without in
        chosen_by m.method m.method n.declared.member n.declared.member named named refl (concrete n.declared.member named (m.method.class == PRINT_STREAM) refl parts.1) (flag_of m.method n.declared.member STATIC false named instance)
      where
        concrete : (a : NamedMember) → method_named (classes_of us) m.method ≡ Some a → (b : Bool) → (m.method.class == PRINT_STREAM) ≡ b → cond b true (method_has us m.method FINAL) ≡ true → has a.flags ABSTRACT ≡ false
        concrete a named true same is = print_stream_concrete us units m.method a named (eqb-true m.method.class PRINT_STREAM same)
        concrete a named false other is = final_concrete us units m.method a named (flag_of m.method a FINAL true named is)

    pub statics : (this : ℕ) (m : MethodOperand) → FitsCall (classes_of us) this call_kinds.Static m
        → (member : NamedMember) × (method_named (classes_of us) m.method ≡ Some member) × (has member.flags ABSTRACT ≡ false) × (has member.flags STATIC ≡ true) × (is_class_number (program_names us) m.method.class ≡ true)
    statics this m fits =
        let (member, named, static) = some_named m.method (λ x. has x.flags STATIC ≡ true) fits.method in
        (member, named, static_concrete us units m.method member named static, static, method_class_numbered us m.method member named)

    special_concrete : (this : ℕ) (m : MethodOperand) (found : MethodId) → FitsCall (classes_of us) this call_kinds.Special m → m.special ≡ Some found → (member : NamedMember) × (method_named (classes_of us) found ≡ Some member) × (has member.flags ABSTRACT ≡ false)
    special_concrete this m found fits is =
        some_named found (λ x. has x.flags ABSTRACT ≡ false) (subst (λ o. IsSomeAnd o (λ id. IsSomeAnd (method_named (classes_of us) id) (λ x. has x.flags ABSTRACT ≡ false))) is fits.special)

    pub constructor_methods : (this : ℕ) (m : MethodOperand) → FitsCall (classes_of us) this call_kinds.Special m → m.special ≡ Some m.method
        → (member : NamedMember) × (method_named (classes_of us) m.method ≡ Some member) × (has member.flags ABSTRACT ≡ false) × (has member.flags STATIC ≡ false)
    constructor_methods this m fits is =
        let (member, named, concrete) = special_concrete this m m.method fits is in
        (member, named, concrete, fits_named m.method member (λ x. has x.flags STATIC ≡ false) named fits.method)

    pub native_constructors : (this index : ℕ) (m : MethodOperand) (n : Native) → operand us this index ≡ operands.Method m → m.constructs ≡ true → IsNative us m.method n → IsNativeConstructor n
    native_constructors this index m n e constructs is =
        let of = method_at us units this index m e in
        let init : is_initializer of.reference ≡ true = sym (ap (λ (x : MethodOperand). x.constructs) of.same) ∙ constructs in
        native_constructor us m.method n of.declared.member is (named_is this m of) (ap (λ name. bytes_eq name (codes "<init>")) (found_there this m of).found.name ∙ init)

    pub constructs : (this index : ℕ) (m : MethodOperand) (c : CodeOf us m.method) → operand us this index ≡ operands.Method m → m.constructs ≡ true → has c.member.flags STATIC ≡ false → (env_of us m.method c).constructs ≡ true
    constructs this index m c e is instance =
        let of = method_at us units this index m e in
        let init : is_initializer of.reference ≡ true = sym (ap (λ (x : MethodOperand). x.constructs) of.same) ∙ is in
        let same : of.declared.member ≡ c.member = same_Some of.declared.member c.member (sym (named_is this m of) ∙ c.named) in
        let name : bytes_eq c.member.name (codes "<init>") ≡ true = subst (λ (x : NamedMember). bytes_eq x.name (codes "<init>") ≡ true) same (ap (λ name. bytes_eq name (codes "<init>")) (found_there this m of).found.name ∙ init) in
        both_true (bytes_eq c.member.name (codes "<init>")) (not (has c.member.flags STATIC)) name (ap not instance)

    pub constructors : (this index c : ℕ) (m : MethodOperand) → operand us this index ≡ operands.Method m → FitsCall (classes_of us) this call_kinds.Special m → m.constructs ≡ true → m.named ≡ Class c
        → (m.method.class ≡ c) × (m.special ≡ Some m.method)
    constructors this index c m e fits is named =
        let of = method_at us units this index m e in
        let init : is_initializer of.reference ≡ true = sym (ap (λ (x : MethodOperand). x.constructs) of.same) ∙ is in
        let type : type_named (program_names us) of.reference.class ≡ Class c = sym (ap (λ (x : MethodOperand). x.named) of.same) ∙ named in
        let class : of.declared.class ≡ c = (found_there this m of).constructor init ∙ class_held us of.reference c of.right.class type in
        let instance : has of.declared.member.flags STATIC ≡ false = fits_named m.method of.declared.member (λ x. has x.flags STATIC ≡ false) (named_is this m of) fits.method in
        let itself : special (classes_of us) this of.reference of.declared ≡ Some of.declared =
        ap (λ b. cond (not b && (is_virtual of.declared.member && list_any (λ d. d == holder (classes_of us) of.reference) (superclasses (classes_of us) (superclass_of (classes_of us) this)))) (selected (classes_of us) (superclass_of (classes_of us) this) of.reference) (Some of.declared)) init in (
          ap (λ (x : MethodOperand). x.method.class) of.same ∙ class,
          ap (λ (x : MethodOperand). x.special) of.same
              ∙ (ap (λ b. cond b None (option_map method_id (special (classes_of us) this of.reference of.declared))) instance
              ∙ (ap (λ o. option_map method_id o) itself ∙ ap (λ x. Some x) (sym (method_is this m of)))),
        )

    module _ (order : List ℕ) (linked : IsLinked us order) where
      -- the named type is assignable to the class of the method
      pub goes_to_method : (this index : ℕ) (m : MethodOperand) → operand us this index ≡ operands.Method m → is_object_assignable (hierarchy_of (classes_of us)) m.named (Class m.method.class) ≡ true
      goes_to_method this index m e =
          let of = method_at us units this index m e in
          subst (λ (x : MethodOperand). is_object_assignable (hierarchy_of (classes_of us)) x.named (Class x.method.class) ≡ true) (sym of.same)
          (named_goes us order linked of.reference of.declared.class of.right.class (looked of (is_initializer of.reference) refl))
        where
          looked : (of : IsNamedMethod us this m) (b : Bool) → is_initializer of.reference ≡ b → Contains (Rattle.link_rules.specs.Supers.method_order (classes_of us) (holder (classes_of us) of.reference)) of.declared.class
          looked of true init =
              let (some, within) = method_class us (method_id of.declared) of.declared.member (found_there this m of).found.there in
              subst (λ c. Contains (Rattle.link_rules.specs.Supers.method_order (classes_of us) c) of.declared.class) ((found_there this m of).constructor init) (own_order us order linked of.declared.class some within)
          looked of false other = (found_there this m of).above other

      pub owners : (this index : ℕ) (m : MethodOperand) → operand us this index ≡ operands.Method m → ((method_has us m.method PRIVATE ≡ true) ⊎ (calls_without_class us m.method ≡ true))
          → is_object_assignable (hierarchy_of (classes_of us)) m.named (Class m.method.class) ≡ true
      owners this index m e either = goes_to_method this index m e

      pub inherits : (this index : ℕ) (f : FieldOperand) → operand us this index ≡ operands.Field f → f.is_static ≡ false
          → is_object_assignable (hierarchy_of (classes_of us)) f.named (Class f.owner) ≡ true
      inherits this index f e instance =
          let of = field_at us units this index f e in
          let fits = field_fits (classes_of us) of.reference of.declared of.found in
          subst (λ (x : FieldOperand). is_object_assignable (hierarchy_of (classes_of us)) x.named (Class x.owner) ≡ true) (sym of.same)
          (named_goes us order linked of.reference of.declared.class of.right.class (field_in_method_order us (holder (classes_of us) of.reference) of.declared.class fits.above))

      pub specials : (this index : ℕ) (m : MethodOperand) → operand us this index ≡ operands.Method m → m.constructs ≡ false → FitsCall (classes_of us) this call_kinds.Special m
          → (found : MethodId) × (m.special ≡ Some found) × IsChosen us m.method found
          × ((is_object_assignable (hierarchy_of (classes_of us)) (Class this) (Class found.class) ≡ true) ⊎ (is_object_assignable (hierarchy_of (classes_of us)) m.named (Class found.class) ≡ true))
      specials this index m e plain fits = by_test (not (is_initializer of.reference) && (is_virtual of.declared.member && list_any (λ d. d == holder (classes_of us) of.reference) (superclasses (classes_of us) (superclass_of (classes_of us) this)))) refl
        where
          of : IsNamedMethod us this m
          of = method_at us units this index m e

          named : method_named (classes_of us) m.method ≡ Some of.declared.member
          named = named_is this m of

          instance : has of.declared.member.flags STATIC ≡ false
          instance = fits_named m.method of.declared.member (λ x. has x.flags STATIC ≡ false) named fits.method

          special_of : (o : Option Declared) → special (classes_of us) this of.reference of.declared ≡ o → m.special ≡ option_map method_id o
          special_of o same =
              ap (λ (x : MethodOperand). x.special) of.same
              ∙ (ap (λ b. cond b None (option_map method_id (special (classes_of us) this of.reference of.declared))) instance ∙ ap (λ x. option_map method_id x) same)

          within : this ≤ length (classes_of us)
          within =
              let class = of.class in
              let file = Rattle.std.proofs.lemmas.Option.slice_get_within us of.file of.unit of.there in
              let count : length (classes_of us) ≡ 28 + length us = class_count_is us in
              omega (arith, class, file, count)

          some : this ≢ 0
          some = λ z. let class = of.class in omega (arith, class, z)

          found_it : (found : MethodId) (a : NamedMember) → m.special ≡ Some found → method_named (classes_of us) found ≡ Some a → a.descriptor ≡ of.declared.member.descriptor → has a.flags STATIC ≡ false
              → ((is_object_assignable (hierarchy_of (classes_of us)) (Class this) (Class found.class) ≡ true) ⊎ (is_object_assignable (hierarchy_of (classes_of us)) m.named (Class found.class) ≡ true))
              → (found : MethodId) × (m.special ≡ Some found) × IsChosen us m.method found
              × ((is_object_assignable (hierarchy_of (classes_of us)) (Class this) (Class found.class) ≡ true) ⊎ (is_object_assignable (hierarchy_of (classes_of us)) m.named (Class found.class) ≡ true))
          found_it found a is there same static goes =
              let (b, again, concrete) = special_concrete this m found fits is in
              let one : b ≡ a = same_Some b a (sym again ∙ there) in
              (found, is, chosen_by m.method found of.declared.member a named there same (subst (λ (x : NamedMember). has x.flags ABSTRACT ≡ false) one concrete) static, goes)

          by_found : (o : Option Declared) → selected (classes_of us) (superclass_of (classes_of us) this) of.reference ≡ o → m.special ≡ option_map method_id o
              → (found : MethodId) × (m.special ≡ Some found) × IsChosen us m.method found
              × ((is_object_assignable (hierarchy_of (classes_of us)) (Class this) (Class found.class) ≡ true) ⊎ (is_object_assignable (hierarchy_of (classes_of us)) m.named (Class found.class) ≡ true))
          by_found None same none = absurd (subst (λ o. IsSomeAnd o (λ id. IsSomeAnd (method_named (classes_of us) id) (λ x. has x.flags ABSTRACT ≡ false))) none fits.special)
          by_found (Some s) same is =
              let sel : IsSelected (classes_of us) (superclass_of (classes_of us) this) of.reference s = selected_fits (classes_of us) (superclass_of (classes_of us) this) of.reference s same in
              let above : Contains (superclasses (classes_of us) this) s.class =
              subst (λ xs. Contains xs s.class) (sym (superclasses_step (classes_of us) order linked.order this some within)) (contains_tail this (superclasses (classes_of us) (superclass_of (classes_of us) this)) s.class sel.above) in
              found_it (method_id s) s.member is sel.there (sel.descriptor ∙ sym (found_there this m of).found.descriptor) (not_static s.member sel.virtual) (inl (to_superclass us order linked this s.class within above))

          by_test : (b : Bool) → (not (is_initializer of.reference) && (is_virtual of.declared.member && list_any (λ d. d == holder (classes_of us) of.reference) (superclasses (classes_of us) (superclass_of (classes_of us) this)))) ≡ b
              → (found : MethodId) × (m.special ≡ Some found) × IsChosen us m.method found
              × ((is_object_assignable (hierarchy_of (classes_of us)) (Class this) (Class found.class) ≡ true) ⊎ (is_object_assignable (hierarchy_of (classes_of us)) m.named (Class found.class) ≡ true))
          by_test true same =
              by_found (selected (classes_of us) (superclass_of (classes_of us) this) of.reference) refl
              (special_of (selected (classes_of us) (superclass_of (classes_of us) this) of.reference) (ap (λ b. cond b (selected (classes_of us) (superclass_of (classes_of us) this) of.reference) (Some of.declared)) same))
          by_test false same =
              let is : m.special ≡ Some m.method = special_of (Some of.declared) (ap (λ b. cond b (selected (classes_of us) (superclass_of (classes_of us) this) of.reference) (Some of.declared)) same) ∙ ap (λ x. Some x) (sym (method_is this m of)) in
              found_it m.method of.declared.member is named refl instance (inr (goes_to_method this index m e))

    -- ---- bodies

    module _ (hold : (link_rules us).Hold) where
      pub code_there : (id : MethodId) (m : NamedMember) → method_named (classes_of us) id ≡ Some m → 28 < id.class → has m.flags ABSTRACT ≡ false → CodeOf us id
      code_there id m named above concrete =
          let of = file_method us id m named above in
          let concrete' : has of.member.flags ABSTRACT ≡ false = subst (λ (x : NamedMember). has x.flags ABSTRACT ≡ false) (sym of.same) concrete in
          let listed : slice_get (map (Rattle.link_rules.specs.Classes.member_of_file of.unit.file.pool) of.unit.file.methods) id.method ≡ Some (Rattle.link_rules.specs.Classes.member_of_file of.unit.file.pool of.member) =
          Rattle.std.proofs.lemmas.Option.slice_get-map (Rattle.link_rules.specs.Classes.member_of_file of.unit.file.pool) of.unit.file.methods id.method ∙ ap (λ o. option_map (Rattle.link_rules.specs.Classes.member_of_file of.unit.file.pool) o) of.listed in
          let here : has of.member.flags NATIVE ≡ false = ((hold.1.1.1.0 of.file of.unit of.there).1 id.method (Rattle.link_rules.specs.Classes.member_of_file of.unit.file.pool of.member) listed).1.0 in
          let decoded = units of.file of.unit of.there in
          let (code, coded) = have_code of.unit.file of.unit.codes decoded.file decoded.codes id.method of.member of.listed concrete' here in
          file_code us id of.file of.unit m code of.class of.there named coded

      no_native : (c j : ℕ) → 28 < c → native_of (record { class = c; method = j }) ≡ None
      no_native zero j lt = refl
      no_native (suc i) j lt = ap (λ o. option_and_then (λ (k : Rattle.builtin_world.specs.Library.Class). option_map (λ (x : Rattle.builtin_world.specs.Library.Method). x.native) (slice_get k.methods j)) o) (Rattle.std.proofs.lemmas.Option.slice_get_past library i (library_long i lt))

      pub file_body : (id : MethodId) (m : NamedMember) → method_named (classes_of us) id ≡ Some m → 28 < id.class → has m.flags ABSTRACT ≡ false → body_of us id ≡ Some bodies.Code
      file_body id m named above concrete =
          ap (λ o. option_map (body_of_member id) o) named
          ∙ (ap (λ b. Some (cond b bodies.Abstract (option_map_or (λ x. bodies.Native x) (native_of id) bodies.Code))) concrete ∙ ap (λ o. Some (option_map_or (λ x. bodies.Native x) o bodies.Code)) (no_native id.class id.method above))

      pub bodies_are : (id : MethodId) (m : NamedMember) → method_named (classes_of us) id ≡ Some m → has m.flags ABSTRACT ≡ false
          → ((n : Native) × (body_of us id ≡ Some (bodies.Native n))) ⊎ (CodeOf us id × (body_of us id ≡ Some bodies.Code))
      bodies_are id m named concrete = elim (cases_lt 28 id.class) [
        | inr low ↦ inl (built_in_body us id m named (omega (arith, low)) concrete)
        | inl above ↦ inr (code_there id m named above concrete, file_body id m named above concrete)
      ]

      pub initializers_are : (c : ℕ) (id : MethodId) → initializer (classes_of us) c ≡ Some id → (code : CodeOf us id) × ((env_of us id code).entry ≡ [])
      initializers_are c id e =
          let is = initializers us c id hold e in
          let read = is.read in
          let owner = is.owner in
          let code = code_there id is.method is.there (omega (arith, read, owner)) (static_concrete us units id is.method is.there is.static) in
          let same : is.method ≡ code.member = same_Some is.method code.member (sym is.there ∙ code.named) in (
            code,
            subst (λ (x : NamedMember). words_of_values (receiver_values id.class x ++ map type_of_value (parameter_types (program_names us) x.descriptor)) ≡ []) same
                (ap (λ b. words_of_values ((cond b [] (cond (is_constructor is.method) (Rattle.type_rules.specs.declared.types.VerificationType.TheVariants.UninitThis ∷ []) (Rattle.type_rules.specs.declared.types.VerificationType.TheVariants.Object (Class id.class) ∷ []))) ++ map type_of_value (parameter_types (program_names us) is.method.descriptor))) is.static
                ∙ ap (λ ts. words_of_values (map type_of_value ts)) is.takes),
          )
