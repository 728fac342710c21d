-- The constant with which a static field begins is one for its descriptor.
use Rattle.std.proofs.Common.{◌≡◌, ℕ, suc, Bool, true, false, cond, Option, None, Some, List, [], ◌∷◌, find, slice_get, codes, refl, sym, ap, subst, ◌∙◌}
use Rattle.std.specs.Prelude.{option_map, unwrap_or}
use Rattle.std.proofs.lemmas.Option.{none-some, same_Some, slice_get-map}
use Rattle.access_flags.specs.declared.TheConstants.{STATIC}
use Rattle.access_flags.specs.Flags.{has}
use Rattle.class_pool.specs.Lookup.{utf8_of}
use Rattle.class_read.specs.declared.class_file.ClassFile.{ClassFile}
use Rattle.class_read.specs.declared.class_file.Member.{Member}
use Rattle.class_read.specs.AttributeRules.{IsConstantValue, constant_of, index_in, is_constant_for, is_named, named}
use Rattle.class_read.specs.ClassFile.{class_of, IsFile}
use Rattle.class_read.specs.MemberRules.{field_of}
use Rattle.class_read.specs.Sound.{IsSound as IsSoundFile, IsSoundField}
use Rattle.class_walk.specs.declared.class.Constant.{Constant}
use Rattle.class_walk.specs.declared.class.RawAttribute.{RawAttribute}
use Rattle.class_walk.specs.declared.class.RawClass.{RawClass}
use Rattle.class_walk.specs.declared.class.RawMember.{RawMember}
use Rattle.code_decode.specs.declared.code.ClassUnit.{ClassUnit}
use Rattle.code_decode.specs.Method.{AreBytes}
use Rattle.link_rules.specs.Classes.{utf8_at}
use Rattle.link_rules.specs.Units.{IsDecoded}
use Rattle.program_soundness.proofs.Methods.{from_map}

found_item : {X : Type 0} (test : X → Bool) (xs : List X) (x : X) → find test xs ≡ Some x → (j : ℕ) × (slice_get xs j ≡ Some x) × (test x ≡ true)
found_item test [] x e = absurd (none-some x e)
found_item {X} test (y ∷ ys) x e = go (test y) refl e (found_item test ys x)
  where
    go : (b : Bool) → test y ≡ b → cond b (Some y) (find test ys) ≡ Some x → (find test ys ≡ Some x → (j : ℕ) × (slice_get ys j ≡ Some x) × (test x ≡ true)) → (j : ℕ) × (slice_get (y ∷ ys) j ≡ Some x) × (test x ≡ true)
    go true passes is later = (0, is, subst (λ z. test z ≡ true) (same_Some y x is) passes)
    go false fails is later = let (j, there, passes) = later is in (suc j, there, passes)

-- a field begins with a constant that its descriptor may have
abbrev pub BeginsWith : List Constant → Member → ℕ → Type 0
BeginsWith pool m n = (k : Constant) × (slice_get pool n ≡ Some k) × (is_constant_for (utf8_at pool m.descriptor) k ≡ true)

raw_constant : (pool : List Constant) (interface : Bool) (raw : RawMember) (n : ℕ) → IsSoundField pool interface raw → constant_of pool raw ≡ Some n → BeginsWith pool (field_of pool raw) n
raw_constant pool interface raw n sound e = by_flag (has raw.flags STATIC) refl e
  where
    right : (a : RawAttribute) → IsConstantValue pool raw a.content → has raw.flags STATIC ≡ true → index_in a.content ≡ n → BeginsWith pool (field_of pool raw) n
    right a value static same =
        let (text, k, there, entry, fits) = value.kind static in (
          k,
          ap (slice_get pool) (sym same) ∙ entry,
          ap (λ t. is_constant_for t k) (ap (λ o. unwrap_or (utf8_of o) []) there) ∙ fits,
        )

    by_name : has raw.flags STATIC ≡ true → (o : Option RawAttribute) → named pool (codes "ConstantValue") raw.attributes ≡ o → option_map (λ (a : RawAttribute). index_in a.content) o ≡ Some n → BeginsWith pool (field_of pool raw) n
    by_name static None none is = absurd (none-some n is)
    by_name static (Some a) found is =
        let (j, at, passes) = found_item (is_named pool (codes "ConstantValue")) raw.attributes a found in
        right a ((sound.constants j a at) passes).1 static (same_Some (index_in a.content) n is)

    by_flag : (b : Bool) → has raw.flags STATIC ≡ b → cond b (option_map (λ (a : RawAttribute). index_in a.content) (named pool (codes "ConstantValue") raw.attributes)) None ≡ Some n → BeginsWith pool (field_of pool raw) n
    by_flag true static is = by_name static (named pool (codes "ConstantValue") raw.attributes) refl is
    by_flag false plain is = absurd (none-some n is)

sound_constant : (c : RawClass) → IsSoundFile c → (i : ℕ) (m : Member) → slice_get (class_of c).fields i ≡ Some m → (n : ℕ) → m.constant ≡ Some n → BeginsWith (class_of c).pool m n
sound_constant c sound i m at n e =
    let (raw, there, same) = from_map (field_of c.pool) (slice_get c.fields i) m (sym (slice_get-map (field_of c.pool) c.fields i) ∙ at) in
    subst (λ (x : Member). BeginsWith c.pool x n) same (raw_constant c.pool _ raw n (sound.fields i raw there) (subst (λ (x : Member). x.constant ≡ Some n) (sym same) e))

pub field_constant : (u : ClassUnit) → IsDecoded u → (i : ℕ) (m : Member) → slice_get u.file.fields i ≡ Some m → (n : ℕ) → m.constant ≡ Some n → BeginsWith u.file.pool m n
field_constant u decoded i m =
    let file : (bytes : List ℕ) × AreBytes bytes × IsFile bytes u.file = decoded.file in
    let read : IsFile file.0 u.file = file.2 in
    let P : ClassFile → Type 0 = λ x. slice_get x.fields i ≡ Some m → (n : ℕ) → m.constant ≡ Some n → BeginsWith x.pool m n in
    subst P (sym read.3) (sound_constant read.0 read.2 i m)
