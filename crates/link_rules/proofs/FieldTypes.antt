-- The types of the fields of class files.
use Rattle.std.proofs.Common.{◌≡◌, ℕ, zero, suc, ◌≤◌, Bool, true, false, cond, nat_eq, List, [], ◌∷◌, ◌++◌, Option, None, Some, slice_get, option_map, option_and_then, option_to_list, unwrap_or, codes, bytes_eq, refl, sym, ap, subst, ◌∙◌, arith}
use Rattle.std.specs.Option.{option_map_or}
use Rattle.std.proofs.lemmas.Bool.{true≢false, or_parts}
use Rattle.std.proofs.lemmas.Option.{same_Some, none-some, slice_get-map}
use Rattle.class_walk.specs.declared.class.Constant.{Constant}
use Rattle.class_walk.specs.declared.class.RawClass.{RawClass}
use Rattle.class_walk.specs.declared.class.RawMember.{RawMember}
use Rattle.class_names.specs.declared.kind.BaseKind.TheVariants as bases
use Rattle.class_names.specs.declared.kind.Kind.{Kind}
use Rattle.class_names.specs.declared.kind.Kind.TheVariants.{Base, Array}
use Rattle.class_names.specs.Descriptor.{IsFieldDescriptor, kind_text, IsKind}
use Rattle.class_names.specs.Reading.{kind_at}
use Rattle.class_names.proofs.DescriptorLaws.{read_field}
use Rattle.class_names.proofs.KindLaws.{no_kind_at_open}
use Rattle.class_pool.specs.Pool.{IsUtf8At}
use Rattle.class_pool.specs.PoolRules.{IsFieldType}
use Rattle.class_pool.specs.Lookup.{utf8_of}
use Rattle.class_read.specs.declared.class_file.ClassFile.{ClassFile}
use Rattle.class_read.specs.declared.class_file.Member.{Member}
use Rattle.class_read.specs.MemberRules.{IsTextAt, field_of}
use Rattle.class_read.specs.Sound.{IsSound}
use Rattle.class_read.specs.ClassFile.{class_of, IsFile}
use Rattle.code_decode.specs.declared.code.ClassUnit.{ClassUnit}
use Rattle.link_types.specs.declared.types.ValueType.{ValueType}
use Rattle.link_types.specs.declared.types.ValueType.TheVariants as values
use Rattle.link_types.specs.Types.{words_of_value}
use Rattle.link_rules.specs.Classes.{NamedMember, utf8_at}
use Rattle.link_rules.specs.Units.{IsDecoded}
use Rattle.class_names.specs.Kinds.{field_kind, method_kinds, closed, kinds_at}
use Rattle.class_names.proofs.BytesLaws.{field_kind_again}
use Rattle.link_rules.specs.Descriptors.{descriptor_kinds, innermost, is_float_base, has_float}
use Rattle.link_rules.specs.Layout.{field_words}
use Rattle.link_rules.specs.Names.{ProgramNames, base_type, value_type}

-- ---- the kind of a field descriptor

no_method : (text : List ℕ) (kind : Kind) → IsFieldDescriptor text kind → method_kinds text ≡ None
no_method [] kind d = refl
no_method (b ∷ text) kind d = go (nat_eq b 40) refl
  where
    go : (t : Bool) → nat_eq b 40 ≡ t → cond t (closed (kinds_at text).0 (kinds_at text).1) None ≡ None
    go false e = refl
    go true e =
        let open_bracket : b ≡ 40 = Rattle.std.proofs.lemmas.Bool.eqb-true b 40 e in
        let read : kind_at (b ∷ text) ≡ Some (kind, []) = read_field (b ∷ text) kind d in
        let none : kind_at (b ∷ text) ≡ None = ap (λ x. kind_at (x ∷ text)) open_bracket ∙ no_kind_at_open text in
        absurd (none-some (kind, []) (sym none ∙ read))

kinds_are : (text : List ℕ) (kind : Kind) → IsFieldDescriptor text kind → descriptor_kinds text ≡ kind ∷ []
kinds_are text kind d =
    ap (λ o. option_map_or (λ (m : List Kind × Option Kind). m.0 ++ option_to_list m.1) o (option_to_list (field_kind text))) (no_method text kind d)
    ∙ ap option_to_list (field_kind_again text kind d)

no_float : (text : List ℕ) (kind : Kind) → IsFieldDescriptor text kind → has_float text ≡ false → is_float_base (innermost kind) ≡ false
no_float text kind d e =
    (or_parts (is_float_base (innermost kind)) false (sym (ap (Rattle.std.specs.List.list_any (λ (x : Kind). is_float_base (innermost x))) (kinds_are text kind d)) ∙ e)).0

-- ---- the type

pub record HasType (p : ProgramNames) (kind : Kind) (words : ℕ) : Type 0 where
  pub type : ValueType
  pub is : value_type p kind ≡ Some type
  pub same : words_of_value type ≡ words

text_words : List ℕ → ℕ
text_words text = cond (bytes_eq text (codes "J")) 2 1

typed : (p : ProgramNames) (kind : Kind) → IsKind kind → is_float_base (innermost kind) ≡ false → HasType p kind (text_words (kind_text kind))
unfolding text_words
typed p (Base bases.Int) good e = record { type = values.Int; is = refl; same = refl }
typed p (Base bases.Byte) good e = record { type = values.Byte; is = refl; same = refl }
typed p (Base bases.Char) good e = record { type = values.Char; is = refl; same = refl }
typed p (Base bases.Short) good e = record { type = values.Short; is = refl; same = refl }
typed p (Base bases.Boolean) good e = record { type = values.Boolean; is = refl; same = refl }
typed p (Base bases.Long) good e = record { type = values.Long; is = refl; same = refl }
typed p (Base bases.Float) good e = absurd (true≢false e)
typed p (Base bases.Double) good e = absurd (true≢false e)
typed p (Base (bases.Class name)) good e = record { type = values.Object (Rattle.link_rules.specs.Names.class_type p name); is = refl; same = refl }
typed p (Array zero base) good e = absurd (let low : 1 ≤ 0 = good.0 in omega arith)
typed p (Array (suc n) base) good e = record { type = values.Object (Rattle.link_types.specs.declared.types.ObjectType.TheVariants.Array (suc n) (Rattle.link_rules.specs.Names.element_type_of p base)); is = refl; same = refl }

-- ---- the fields of a file

utf8_is : (pool : List Constant) (at : ℕ) (text : List ℕ) → IsUtf8At pool at text → utf8_at pool at ≡ text
utf8_is pool at text e = ap (λ o. unwrap_or (utf8_of o) []) e

sound_field : (c : RawClass) → IsSound c → (i : ℕ) (m : Member) → slice_get (class_of c).fields i ≡ Some m → IsFieldType (utf8_at (class_of c).pool m.descriptor)
sound_field c sound i m at = go (slice_get c.fields i) refl (sym (slice_get-map (field_of c.pool) c.fields i) ∙ at)
  where
    go : (o : Option RawMember) → slice_get c.fields i ≡ o → option_map (field_of c.pool) o ≡ Some m → IsFieldType (utf8_at c.pool m.descriptor)
    go None e h = absurd (none-some m h)
    go (Some raw) e h =
        let text : IsTextAt IsFieldType c.pool raw.descriptor = (sound.fields i raw e).descriptor in
        let mine : IsFieldType (utf8_at c.pool raw.descriptor) = subst IsFieldType (sym (utf8_is c.pool raw.descriptor text.0 text.1)) text.2 in
        subst (λ (x : Member). IsFieldType (utf8_at c.pool x.descriptor)) (same_Some (field_of c.pool raw) m h) mine

-- a field of a file that was decoded has a field descriptor
pub descriptor_of_field : (u : ClassUnit) → IsDecoded u → (i : ℕ) (m : Member) → slice_get u.file.fields i ≡ Some m → IsFieldType (utf8_at u.file.pool m.descriptor)
descriptor_of_field u decoded i m at =
    let file : (bytes : List ℕ) × Rattle.code_decode.specs.Method.AreBytes bytes × IsFile bytes u.file = decoded.file in
    let read : IsFile file.0 u.file = file.2 in
    let P : ClassFile → Type 0 = λ x. slice_get x.fields i ≡ Some m → IsFieldType (utf8_at x.pool m.descriptor) in
    (subst P (sym read.3) (sound_field read.0 read.2 i m)) at

-- the type of a member with a field descriptor that has no float or double
pub record MemberType (p : ProgramNames) (m : NamedMember) : Type 0 where
  pub type : ValueType
  pub is : option_and_then (value_type p) (field_kind m.descriptor) ≡ Some type
  pub same : words_of_value type ≡ field_words m

pub member_type : (p : ProgramNames) (m : NamedMember) → IsFieldType m.descriptor → has_float m.descriptor ≡ false → MemberType p m
unfolding text_words
member_type p m descriptor e =
    let kind : Kind = descriptor.0 in
    let d : IsFieldDescriptor m.descriptor kind = descriptor.1 in
    let t : HasType p kind (text_words (kind_text kind)) = typed p kind d.good (no_float m.descriptor kind d e) in
    record {
      type = t.type;
      is = ap (option_and_then (value_type p)) (field_kind_again m.descriptor kind d) ∙ t.is;
      same = t.same ∙ ap text_words (sym d.spelled);
    }
