-- What initializes classes.
use Rattle.std.proofs.Common.{◌≡◌, ℕ, zero, suc, ◌<◌, ◌≤◌, true, false, is_some, List, [], length, map, Option, None, Some, slice_get, option_map, inl, inr, refl, sym, ap, subst, ◌∙◌, codes, arith}
use Rattle.std.specs.List.{range_with_len}
use Rattle.std.specs.Option.{option_map_or}
use Rattle.std.proofs.lemmas.Bool.{cases_lt, and_parts, true≢false}
use Rattle.std.proofs.lemmas.Option.{same_Some, none-some, slice_get_within}
use Rattle.builtin_world.specs.Library.{library}
use Rattle.class_names.specs.Reading.{kind_at, base_at}
use Rattle.class_pool.specs.Pool.{Reference, reference_of}
use Rattle.code_decode.specs.declared.code.ClassUnit.{ClassUnit}
use Rattle.link_types.specs.declared.operands.MethodId.{MethodId}
use Rattle.access_flags.specs.declared.TheConstants.{STATIC, NATIVE}
use Rattle.access_flags.specs.Flags.{has}
use Rattle.link_rules.specs.Classes.{NamedClass, NamedMember, classes_of, class_of_unit, methods_of, number_of_file}
use Rattle.link_rules.specs.Members.{Declared, declared, is_member, method_id}
use Rattle.link_rules.specs.Methods.{initializer, initializes_class, parameter_types, result_type}
use Rattle.link_rules.specs.Names.{ProgramNames, program_names}
use Rattle.class_names.specs.Kinds.{kinds_within}
use Rattle.link_rules.specs.LinkRules.{link_rules}
use Rattle.link_rules.specs.Laws.{InitializesClass}
use Rattle.link_rules.proofs.Looked.{IsDeclared, declared_found, same_name, same_descriptor}
use Rattle.link_rules.proofs.Numbers.{in_library, file_class, is_file}

no_parameters : (p : ProgramNames) → parameter_types p (codes "()V") ≡ []
unfolding kind_at base_at kinds_within
no_parameters p = refl

no_result : (p : ProgramNames) → result_type p (codes "()V") ≡ None
unfolding kind_at base_at kinds_within
no_result p = refl

library_initializers : (us : List ClassUnit) → map (λ c. is_some (initializer (classes_of us) c)) (range_with_len 0 29) ≡ map (λ _. false) (range_with_len 0 29)
unfolding library
library_initializers us = refl

-- no class of the library has such a method
read_class : (us : List ClassUnit) (c : ℕ) (id : MethodId) → initializer (classes_of us) c ≡ Some id → 28 < c
read_class us c id e =
    elim (cases_lt 28 c) [
      | inl read ↦ read
      | inr built_in ↦
          let none : is_some (initializer (classes_of us) c) ≡ false =
          in_library 0 29 (λ c. is_some (initializer (classes_of us) c)) (λ _. false) (library_initializers us) c (omega arith) (omega arith) in
          absurd (true≢false (sym (ap is_some e) ∙ none))
    ]

-- no method of a file is native
not_native : (us : List ClassUnit) → (link_rules us).Hold → (k : ℕ) (u : ClassUnit) → slice_get us k ≡ Some u → (i : ℕ) (m : NamedMember) → slice_get (methods_of (classes_of us) (number_of_file k)) i ≡ Some m → has m.flags NATIVE ≡ false
not_native us hold k u at i m there =
    let F : Option NamedClass → Type 0 = λ o. slice_get (option_map_or (λ (c : NamedClass). c.methods) o []) i ≡ Some m in
    let mine : slice_get (class_of_unit u).methods i ≡ Some m = subst F (file_class us k u at) there in
    ((hold.1.1.1.0 k u at).1 i m mine).1.0

module _ (us : List ClassUnit) (hold : (link_rules us).Hold) (c : ℕ) where
  of_declared : 28 < c → (d : Declared) → IsDeclared (methods_of (classes_of us)) initializes_class c d → InitializesClass (program_names us) c (method_id d)
  of_declared read d g =
      let r : Reference = reference_of [] (codes "<clinit>") (codes "()V") in
      let parts : (is_member r d.member ≡ true) × (has d.member.flags STATIC ≡ true) = and_parts (is_member r d.member) (has d.member.flags STATIC) g.passes in
      let descriptor : codes "()V" ≡ d.member.descriptor = sym (same_descriptor r d.member parts.0) in
      record {
        read = read;
        owner = g.owner;
        method = d.member;
        there = g.there;
        name = same_name r d.member parts.0;
        static = parts.1;
        native = native;
        takes = subst (λ x. parameter_types (program_names us) x ≡ []) descriptor (no_parameters (program_names us));
        gives = subst (λ x. result_type (program_names us) x ≡ None) descriptor (no_result (program_names us));
      }
    where
      within : (c : ℕ) → slice_get (methods_of (classes_of us) c) d.place ≡ Some d.member → c ≤ length (classes_of us)
      within zero there = omega arith
      within (suc i) there = go (slice_get (classes_of us) i) refl there
        where
          go : (o : Option NamedClass) → slice_get (classes_of us) i ≡ o → slice_get (option_map_or (λ (k : NamedClass). k.methods) o []) d.place ≡ Some d.member → suc i ≤ length (classes_of us)
          go None is h = absurd (none-some d.member h)
          go (Some k) is h = let lt : i < length (classes_of us) = slice_get_within (classes_of us) i k is in omega arith

      native : has d.member.flags NATIVE ≡ false
      native =
          let there : slice_get (methods_of (classes_of us) c) d.place ≡ Some d.member = subst (λ x. slice_get (methods_of (classes_of us) x) d.place ≡ Some d.member) g.owner g.there in
          let h : (k : ℕ) × (u : ClassUnit) × (slice_get us k ≡ Some u) × (c ≡ number_of_file k) = is_file us c read (within c there) in
          not_native us hold h.0 h.1 h.2 d.place d.member (subst (λ x. slice_get (methods_of (classes_of us) x) d.place ≡ Some d.member) h.3 there)

  pub initializer_takes_nothing : (id : MethodId) → initializer (classes_of us) c ≡ Some id → InitializesClass (program_names us) c id
  initializer_takes_nothing id e = go (declared (methods_of (classes_of us)) initializes_class c) refl e
    where
      go : (o : Option Declared) → declared (methods_of (classes_of us)) initializes_class c ≡ o → option_map method_id o ≡ Some id → InitializesClass (program_names us) c id
      go None is h = absurd (none-some id h)
      go (Some d) is h =
          subst (InitializesClass (program_names us) c) (same_Some (method_id d) id h)
          (of_declared (read_class us c id e) d (declared_found (methods_of (classes_of us)) initializes_class c d is))

pub initializers : (us : List ClassUnit) (c : ℕ) (id : MethodId) → (link_rules us).Hold → initializer (classes_of us) c ≡ Some id → InitializesClass (program_names us) c id
initializers us c id hold e = initializer_takes_nothing us hold c id e
