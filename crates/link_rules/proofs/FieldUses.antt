-- What the operands of instructions on fields are.
use Rattle.std.proofs.Common.{◌≡◌, ◌≢◌, ℕ, zero, suc, ◌<◌, ◌≤◌, ◌||◌, Bool, true, false, cond, not, nat_eq, List, [], length, map, Option, None, Some, slice_get, option_map, option_and_then, inl, inr, refl, sym, ap, subst, ◌∙◌, arith}
use Rattle.std.specs.List.{range_with_len}
use Rattle.std.specs.Option.{option_map_or}
use Rattle.std.proofs.lemmas.Bool.{cases_eq, cases_lt, eqb-true, or_cases, ne_eqb, true≢false}
use Rattle.std.proofs.lemmas.Option.{same_Some, none-some, slice_get-map, slice_get_within}
use Rattle.rules.specs.Rules.{must, given, ◌then◌}
use Rattle.builtin_world.specs.Library.{library}
use Rattle.class_pool.specs.Pool.{Reference}
use Rattle.class_pool.specs.PoolRules.{IsFieldType}
use Rattle.class_read.specs.declared.class_file.Member.{Member}
use Rattle.instructions.specs.declared.operation.FieldAccess.{FieldAccess}
use Rattle.instructions.specs.declared.operation.FieldAccess.TheVariants as fields
use Rattle.instructions.specs.declared.what.What.TheVariants as whats
use Rattle.code_decode.specs.declared.code.ClassUnit.{ClassUnit}
use Rattle.link_types.specs.declared.operands.Operand.{Operand}
use Rattle.link_types.specs.declared.operands.Operand.TheVariants as operands
use Rattle.link_types.specs.declared.refusal.LinkRefusal.TheVariants.{At}
use Rattle.link_types.specs.declared.refusal.LinkKind.TheVariants.{NoField, StaticMismatch, Private}
use Rattle.access_flags.specs.declared.TheConstants.{STATIC}
use Rattle.access_flags.specs.Flags.{has}
use Rattle.link_rules.specs.Units.{AreUnits}
use Rattle.link_rules.specs.Classes.{NamedClass, NamedMember, classes_of, fields_of, member_of_file, number_of_file, reference_at}
use Rattle.link_rules.specs.Members.{Declared, found_field}
use Rattle.class_names.specs.Kinds.{field_kind}
use Rattle.link_rules.specs.Descriptors.{has_float}
use Rattle.link_rules.specs.Layout.{is_stored}
use Rattle.link_rules.specs.Names.{ProgramNames, program_names, value_type}
use Rattle.link_rules.specs.Operands.{operand_of, operand, field_operand, field_named}
use Rattle.link_rules.specs.LinkRules.{link_rules, wants_static, MaySet, MayAccess}
use Rattle.link_rules.specs.Laws.{IsFoundField}
use Rattle.link_rules.specs.Uses.{FitsField, IsFieldOperand, FieldUsesResolve}
use Rattle.link_rules.proofs.FieldTypes.{MemberType, member_type, descriptor_of_field}
use Rattle.link_rules.proofs.Looked.{field_fits}
use Rattle.link_rules.proofs.Numbers.{in_library, is_file}
use Rattle.link_rules.proofs.Objects.{fields_of_file}
use Rattle.link_rules.proofs.Uses.{rules_of, operand_at}

-- ---- the library has one field

library_fields : (us : List ClassUnit) → map (λ c. nat_eq (length (fields_of (classes_of us) c)) 0 || nat_eq c 4) (range_with_len 0 29) ≡ map (λ _. true) (range_with_len 0 29)
unfolding library
library_fields us = refl

out_is_static : (us : List ClassUnit) (i : ℕ) (m : NamedMember) → slice_get (fields_of (classes_of us) 4) i ≡ Some m → has m.flags STATIC ≡ true
unfolding library
out_is_static us zero m e = ap (λ (x : NamedMember). has x.flags STATIC) (sym (same_Some _ m e))
out_is_static us (suc i) m e = absurd (none-some m e)

pub other_is_read : (us : List ClassUnit) (c i : ℕ) (m : NamedMember) → c ≢ 4 → slice_get (fields_of (classes_of us) c) i ≡ Some m → 28 < c
other_is_read us c i m other there =
    elim (cases_lt 28 c) [
      | inl read ↦ read
      | inr low ↦ absurd (elim (or_cases (nat_eq (length (fields_of (classes_of us) c)) 0) (nat_eq c 4) (in_library 0 29 (λ c. nat_eq (length (fields_of (classes_of us) c)) 0 || nat_eq c 4) (λ _. true) (library_fields us) c (omega arith) (omega arith))) [
        | inl none ↦ (let empty : length (fields_of (classes_of us) c) ≡ 0 = eqb-true (length (fields_of (classes_of us) c)) 0 none in
            let lt : i < length (fields_of (classes_of us) c) = slice_get_within (fields_of (classes_of us) c) i m there in omega arith)
        | inr four ↦ other (eqb-true c 4 four)
      ])
    ]

-- ---- a field of a file

pub class_within : (cs : List NamedClass) (c i : ℕ) (m : NamedMember) → slice_get (fields_of cs c) i ≡ Some m → c ≤ length cs
class_within cs zero i m there = omega arith
class_within cs (suc c) i m there = go (slice_get cs c) refl there
  where
    go : (o : Option NamedClass) → slice_get cs c ≡ o → slice_get (option_map_or (λ (k : NamedClass). k.fields) o []) i ≡ Some m → suc c ≤ length cs
    go None e h = absurd (none-some m h)
    go (Some k) e h = (let lt : c < length cs = slice_get_within cs c k e in omega arith)

pub stored : (m : NamedMember) → is_stored (has m.flags STATIC) m ≡ true
stored m = go (has m.flags STATIC) refl
  where
    go : (b : Bool) → has m.flags STATIC ≡ b → is_stored b m ≡ true
    go true e = e
    go false e = ap not e

module _ (us : List ClassUnit) (units : AreUnits us) (hold : (link_rules us).Hold) where
  of_file : (k : ℕ) (u : ClassUnit) → slice_get us k ≡ Some u → (i : ℕ) (m : NamedMember) → slice_get (fields_of (classes_of us) (number_of_file k)) i ≡ Some m → MemberType (program_names us) m
  of_file k u at i m there = go (slice_get u.file.fields i) refl (sym (slice_get-map (member_of_file u.file.pool) u.file.fields i) ∙ mine)
    where
      mine : slice_get (map (member_of_file u.file.pool) u.file.fields) i ≡ Some m
      mine = subst (λ xs. slice_get xs i ≡ Some m) (fields_of_file us k u at) there

      plain : has_float m.descriptor ≡ false
      plain = ((hold.1.1.1.0 k u at).0 i m mine).0

      go : (o : Option Member) → slice_get u.file.fields i ≡ o → option_map (member_of_file u.file.pool) o ≡ Some m → MemberType (program_names us) m
      go None e h = absurd (none-some m h)
      go (Some x) e h =
          let same : member_of_file u.file.pool x ≡ m = same_Some (member_of_file u.file.pool x) m h in
          let descriptor : IsFieldType m.descriptor = subst (λ (y : NamedMember). IsFieldType y.descriptor) same (descriptor_of_field u (units k u at) i x e) in
          member_type (program_names us) m descriptor plain

  pub of_class : (c i : ℕ) (m : NamedMember) → 28 < c → slice_get (fields_of (classes_of us) c) i ≡ Some m → MemberType (program_names us) m
  of_class c i m read there =
      let h : (k : ℕ) × (u : ClassUnit) × (slice_get us k ≡ Some u) × (c ≡ number_of_file k) = is_file us c read (class_within (classes_of us) c i m there) in
      of_file h.0 h.1 h.2 i m (subst (λ x. slice_get (fields_of (classes_of us) x) i ≡ Some m) h.3 there)

  -- ---- what is named

  module _ (k : ℕ) (r : Reference) (access : FieldAccess) (d : Declared) (f : IsFoundField (classes_of us) r d)
      (may_set : MaySet access d) (static : has d.member.flags STATIC ≡ wants_static access) (may_access : MayAccess (classes_of us) k d) where
    out : d.class ≡ 4 → access ≡ fields.GetStatic
    out same = go access may_set (sym (out_is_static us d.place d.member (subst (λ c. slice_get (fields_of (classes_of us) c) d.place ≡ Some d.member) same f.found.there)) ∙ static)
      where
        go : (a : FieldAccess) → MaySet a d → true ≡ wants_static a → a ≡ fields.GetStatic
        go fields.GetStatic may e = refl
        go fields.PutStatic may e = absurd (may same)
        go fields.GetField may e = absurd (true≢false e)
        go fields.PutField may e = absurd (true≢false e)

    field : d.class ≢ 4 → (t : MemberType (program_names us) d.member) → FitsField (program_names us) (number_of_file k) access (field_operand (program_names us) r d t.type)
    field other t =
        let read : 28 < d.class = other_is_read us d.class d.place d.member other f.found.there in
        record {
          index = d.place;
          member = d.member;
          field = record {
            read = read;
            within = class_within (classes_of us) d.class d.place d.member f.found.there;
            there = f.found.there;
            kind = stored d.member;
          };
          place = refl;
          kind = t.is;
          words = t.same;
          static = static;
          private = may_access;
        }

    named : IsFieldOperand (program_names us) (number_of_file k) access (field_named (program_names us) r (Some d))
    named =
        elim (cases_eq d.class 4) [
          | inl same ↦ subst (λ b. IsFieldOperand p (number_of_file k) access (cond b operands.Out (of_kind (option_and_then (value_type p) (field_kind d.member.descriptor))))) (sym (Rattle.std.proofs.lemmas.Bool.eq-eqb d.class 4 same)) (out same)
          | inr other ↦ of_type other (of_class d.class d.place d.member (other_is_read us d.class d.place d.member other f.found.there) f.found.there)
        ]
      where
        p : ProgramNames
        p = program_names us

        of_kind : Option Rattle.link_types.specs.declared.types.ValueType.ValueType → Operand
        of_kind o = option_map_or (λ kind. operands.Field (field_operand (program_names us) r d kind)) o operands.Nothing

        of_type : d.class ≢ 4 → MemberType (program_names us) d.member → IsFieldOperand (program_names us) (number_of_file k) access (field_named (program_names us) r (Some d))
        of_type other t =
            subst (λ b. IsFieldOperand (program_names us) (number_of_file k) access (cond b operands.Out (option_map_or (λ kind. operands.Field (field_operand (program_names us) r d kind)) (option_and_then (value_type (program_names us)) (field_kind d.member.descriptor)) operands.Nothing))) (sym (ne_eqb d.class 4 other))
            (subst (λ o. IsFieldOperand (program_names us) (number_of_file k) access (option_map_or (λ kind. operands.Field (field_operand (program_names us) r d kind)) o operands.Nothing)) (sym t.is) (field other t))

  found : (k at : ℕ) (r : Reference) (access : FieldAccess) (o : Option Declared) → found_field (classes_of us) r ≡ o
      → (given o (At NoField k at) (λ d.
      must (MaySet access d) (At NoField k at)
      then must (has d.member.flags STATIC ≡ wants_static access) (At StaticMismatch k at)
      then must (MayAccess (classes_of us) k d) (At Private k at))).Hold
      → IsFieldOperand (program_names us) (number_of_file k) access (field_named (program_names us) r o)
  found k at r access None e h = absurd h
  found k at r access (Some d) e h = named k r access d (field_fits (classes_of us) r d e) h.0 h.1.0 h.1.1

pub fields_resolve : (us : List ClassUnit) → AreUnits us → (link_rules us).Hold → FieldUsesResolve us
fields_resolve us units hold k at c n u access i entry =
    let r : Reference = reference_at u.file.pool at in
    let fits : IsFieldOperand (program_names us) (number_of_file k) access (field_named (program_names us) r (found_field (classes_of us) r)) =
    found us units hold k at r access (found_field (classes_of us) r) refl (rules_of us hold k u (whats.Field access at) i).1 in
    let is : operand us (number_of_file k) at ≡ field_named (program_names us) r (found_field (classes_of us) r) =
    operand_at us k u i.unit at ∙ ap (operand_of (program_names us) (number_of_file k) u.file.pool at) entry in
    subst (IsFieldOperand (program_names us) (number_of_file k) access) (sym is) fits
