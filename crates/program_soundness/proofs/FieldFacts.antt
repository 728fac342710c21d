-- Fields of class files: those of interfaces are static, and each has the words of its type.
use Rattle.std.proofs.Common.{◌≡◌, ◌&&◌, ◌||◌, ℕ, Bool, true, false, not, Some, List, length, map, slice_get, refl, sym, ap, subst, ◌∙◌}
use Rattle.std.specs.Prelude.{option_and_then}
use Rattle.std.specs.Option.{option_map_or}
use Rattle.std.proofs.lemmas.Bool.{true≢false}
use Rattle.std.proofs.lemmas.Option.{same_Some, slice_get-map}
use Rattle.access_flags.specs.declared.TheConstants.{INTERFACE, STATIC, FINAL, PUBLIC, VOLATILE}
use Rattle.access_flags.specs.Flags.{has}
use Rattle.class_names.specs.Kinds.{field_kind}
use Rattle.class_read.specs.declared.class_file.ClassFile.{ClassFile}
use Rattle.class_read.specs.declared.class_file.Member.{Member}
use Rattle.class_read.specs.ClassFile.{class_of, IsFile}
use Rattle.class_read.specs.MemberRules.{are_field_flags, field_of, has_two_accesses}
use Rattle.class_read.specs.Sound.{IsSound as IsSoundFile}
use Rattle.class_walk.specs.declared.class.RawClass.{RawClass}
use Rattle.code_decode.specs.declared.code.ClassUnit.{ClassUnit}
use Rattle.code_decode.specs.Method.{AreBytes}
use Rattle.link_types.specs.declared.types.ValueType.{ValueType}
use Rattle.link_types.specs.declared.types.ValueType.TheVariants as values
use Rattle.link_types.specs.Types.{words_of_value}
use Rattle.link_rules.specs.Classes.{NamedClass, NamedMember, class_has, classes_of, fields_of, member_of_file, number_of_file}
use Rattle.link_rules.specs.Layout.{field_words}
use Rattle.link_rules.specs.Laws.{IsFieldOf}
use Rattle.link_rules.specs.LinkRules.{link_rules}
use Rattle.link_rules.specs.Names.{program_names, value_type}
use Rattle.link_rules.specs.Units.{AreUnits, IsDecoded}
use Rattle.link_rules.proofs.FieldTypes.{MemberType}
use Rattle.link_rules.proofs.FieldUses.{of_class as field_type}
use Rattle.link_rules.proofs.Numbers.{file_class, is_file}
use Rattle.link_rules.proofs.Objects.{fields_of_file}
use Rattle.program_soundness.proofs.Methods.{from_map}
use Rattle.row_soundness.specs.Knowledge.{contents_of}

-- a field of an interface is static
static_flags : (a b c d e : Bool) → (a && (b && (not true || (c && (d && e))))) ≡ true → d ≡ true
static_flags true true true true e is = refl
static_flags true true true false e is = is
static_flags true true false d e is = absurd (true≢false (sym is))
static_flags true false c d e is = absurd (true≢false (sym is))
static_flags false b c d e is = absurd (true≢false (sym is))

flags_static : (flags : ℕ) → are_field_flags true flags ≡ true → has flags STATIC ≡ true
flags_static flags is = static_flags (not (has_two_accesses flags)) (not (has flags FINAL && has flags VOLATILE)) (has flags PUBLIC) (has flags STATIC) (has flags FINAL) is

sound_static : (c : RawClass) → IsSoundFile c → (i : ℕ) (m : Member) → slice_get (class_of c).fields i ≡ Some m → has (class_of c).flags INTERFACE ≡ true → has m.flags STATIC ≡ true
sound_static c sound i m at interface =
    let (raw, there, same) = from_map (field_of c.pool) (slice_get c.fields i) m (sym (slice_get-map (field_of c.pool) c.fields i) ∙ at) in
    let flags : are_field_flags (has c.flags INTERFACE) raw.flags ≡ true = (sound.fields i raw there).flags in
    subst (λ (x : Member). has x.flags STATIC ≡ true) same (flags_static raw.flags (subst (λ b. are_field_flags b raw.flags ≡ true) interface flags))

file_static : (u : ClassUnit) → IsDecoded u → (i : ℕ) (m : Member) → slice_get u.file.fields i ≡ Some m → has u.file.flags INTERFACE ≡ true → has m.flags STATIC ≡ true
file_static u decoded i m =
    let file : (bytes : List ℕ) × AreBytes bytes × IsFile bytes u.file = decoded.file in
    let read : IsFile file.0 u.file = file.2 in
    let P : ClassFile → Type 0 = λ x. slice_get x.fields i ≡ Some m → has x.flags INTERFACE ≡ true → has m.flags STATIC ≡ true in
    subst P (sym read.3) (sound_static read.0 read.2 i m)

content_words : (t : ValueType) → length (contents_of t) ≡ words_of_value t
content_words values.Int = refl
content_words values.Byte = refl
content_words values.Char = refl
content_words values.Short = refl
content_words values.Boolean = refl
content_words values.Long = refl
content_words (values.Object t) = refl

module _ (us : List ClassUnit) (units : AreUnits us) (hold : (link_rules us).Hold) where
  -- the fields of an interface's objects: there are none
  pub no_interface : (c i : ℕ) (f : NamedMember) → IsFieldOf false (classes_of us) c i f → class_has (classes_of us) c INTERFACE ≡ false
  no_interface c i f field = by_file (is_file us c field.read field.within)
    where
      by_flag : (b : Bool) → class_has (classes_of us) c INTERFACE ≡ b → (class_has (classes_of us) c INTERFACE ≡ true → ⊥) → class_has (classes_of us) c INTERFACE ≡ false
      by_flag true is never = absurd (never is)
      by_flag false is never = is

      no_static : has f.flags STATIC ≡ true → ⊥
      no_static is = true≢false (sym field.kind ∙ ap not is)

      by_file : (k : ℕ) × (u : ClassUnit) × (slice_get us k ≡ Some u) × (c ≡ number_of_file k) → class_has (classes_of us) c INTERFACE ≡ false
      by_file (k, u, at, class) = by_flag (class_has (classes_of us) c INTERFACE) refl (λ interface.
          let mine : has u.file.flags INTERFACE ≡ true = subst (λ o. option_map_or (λ (x : NamedClass). has x.flags INTERFACE) o false ≡ true) (file_class us k u at) (subst (λ x. class_has (classes_of us) x INTERFACE ≡ true) class interface) in
          let listed : slice_get (map (member_of_file u.file.pool) u.file.fields) i ≡ Some f = subst (λ xs. slice_get xs i ≡ Some f) (fields_of_file us k u at) (subst (λ x. slice_get (fields_of (classes_of us) x) i ≡ Some f) class field.there) in
          let (m, there, same) = from_map (member_of_file u.file.pool) (slice_get u.file.fields i) f (sym (slice_get-map (member_of_file u.file.pool) u.file.fields i) ∙ listed) in
          no_static (subst (λ (x : NamedMember). has x.flags STATIC ≡ true) same (file_static u (units k u at) i m there mine)))

  -- what a field's type says of its words is how many it has
  pub contents_many : (static : Bool) (c i : ℕ) (f : NamedMember) (t : ValueType) → IsFieldOf static (classes_of us) c i f → option_and_then (value_type (program_names us)) (field_kind f.descriptor) ≡ Some t
      → length (contents_of t) ≡ field_words f
  contents_many static c i f t field typed =
      let has_type : MemberType (program_names us) f = field_type us units hold c i f field.read field.there in
      content_words t ∙ (ap words_of_value (same_Some t has_type.type (sym typed ∙ has_type.is)) ∙ has_type.same)
