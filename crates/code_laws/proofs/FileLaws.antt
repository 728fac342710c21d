-- Class files that were read.
use Rattle.std.proofs.Common.{◌≡◌, ◌<◌, ◌^◌, ℕ, suc, Bool, true, List, [], ◌∷◌, length, refl, sym, ap, subst, ◌∙◌, arith, inl, inr}
use Rattle.std.specs.Prelude.{Option, Some, None, codes, find, is_some, map, option_map, slice_get}
use Rattle.std.proofs.lemmas.List.{length-map}
use Rattle.std.proofs.lemmas.Option.{same_Some, slice_get-map}
use Rattle.access_flags.specs.declared.TheConstants.{STATIC, INTERFACE}
use Rattle.access_flags.specs.Flags.{has}
use Rattle.class_walk.specs.declared.class.Constant.{Constant}
use Rattle.class_walk.specs.declared.class.RawAttribute.{RawAttribute}
use Rattle.class_walk.specs.declared.class.RawMember.{RawMember}
use Rattle.class_names.proofs.Cases.{chosen, mapped}
use Rattle.class_read.specs.declared.class_file.ClassFile.{ClassFile}
use Rattle.class_read.specs.declared.class_file.Member.{Member}
use Rattle.class_read.specs.AttributeRules.{is_named, named, index_in, constant_of, code_attribute, code_in, code_of_method, IsConstantAt, IsConstantValue}
use Rattle.class_read.specs.MemberRules.{field_of, method_of}
use Rattle.class_read.specs.Repeats.{IsSameText}
use Rattle.class_read.specs.Sound.{IsSoundField, IsSoundCode, IsSoundMethod, IsDistinct}
use Rattle.code_steps.specs.CodeArray.{IsCodeArray}
use Rattle.instructions.specs.declared.what.Instr.{Instr}
use Rattle.instructions.specs.declared.what.Target.{Target}
use Rattle.code_decode.specs.Method.{StandsForFile}
use Rattle.code_decode.proofs.HandlerLaws.{sides}
use Rattle.code_laws.specs.File.{IsRightEntry, BeginsWithConstant, IsRightField, IsRightMethod, AreDistinct, HasRightHeader, IsSmall}
use Rattle.code_laws.specs.Uses.{UsesRightly}
use Rattle.code_laws.proofs.PoolLaws.{entry_right}
use Rattle.code_laws.proofs.StepLaws.{operands}
use Rattle.code_laws.proofs.UseLaws.{uses_right}

-- ---- items

-- what is found is somewhere in the list, and passes
found_at : {X : Type 0} (p : X → Bool) (xs : List X) (x : X) → find p xs ≡ Some x → (k : ℕ) × (slice_get xs k ≡ Some x) × (p x ≡ true)
found_at p [] x e = absurd cc
found_at p (y ∷ ys) x e =
    elim (chosen (p y) (Some y) (find p ys) (Some x) e) [
      | inl here ↦
          let same : y ≡ x = same_Some y x here.1 in
          (0, ap Some same, ap p (sym same) ∙ here.0)
      | inr later ↦ let k = found_at p ys x later.1 in (suc k.0, k.1, k.2)
    ]

-- the member of the layout that is kept so
raw_member : (keep : RawMember → Member) (raws : List RawMember) (k : ℕ) (m : Member) → slice_get (map keep raws) k ≡ Some m → (r : RawMember) × (slice_get raws k ≡ Some r) × (keep r ≡ m)
raw_member keep raws k m there = mapped keep (slice_get raws k) m (sym (slice_get-map keep raws k) ∙ there)

-- ---- fields

constant_right : (pool : List Constant) (interface : Bool) (r : RawMember) → IsSoundField pool interface r → (index : ℕ) → constant_of pool r ≡ Some index → BeginsWithConstant pool (field_of pool r) index
constant_right pool interface r sound index e =
    elim (chosen (has r.flags STATIC) (option_map (λ (a : RawAttribute). index_in a.content) (named pool (codes "ConstantValue") r.attributes)) None (Some index) e) [
      | inl static ↦
          let m = mapped (λ (a : RawAttribute). index_in a.content) (named pool (codes "ConstantValue") r.attributes) index static.1 in
          let at = found_at (is_named pool (codes "ConstantValue")) r.attributes m.0 m.1 in
          let value : IsConstantValue pool r m.0.content = (sound.constants at.0 m.0 at.1 at.2).1 in
          (static.0, subst (IsConstantAt pool r.descriptor) m.2 (value.kind static.0))
      | inr other ↦ absurd (let none = other.1 in cc)
    ]

field_right : (pool : List Constant) (interface : Bool) (r : RawMember) → IsSoundField pool interface r → IsRightField pool interface (field_of pool r)
field_right pool interface r sound = record {
  name = sound.name;
  descriptor = sound.descriptor;
  flags = sound.flags;
  constant = constant_right pool interface r sound;
  code = refl;
}

-- ---- methods

code_there : (pool : List Constant) (r : RawMember) → IsSoundMethod pool r → (found : Option RawAttribute) → named pool (codes "Code") r.attributes ≡ found → is_some (code_of_method pool r) ≡ is_some found
code_there pool r sound None e = rw e refl
code_there pool r sound (Some a) e =
    let at = found_at (is_named pool (codes "Code")) r.attributes a e in
    let code : IsSoundCode pool a.content = (sound.codes_of at.0 a at.1 at.2).1 in
    let kept : code_in pool a ≡ Some (code_attribute pool code.code) = ap (option_map (code_attribute pool)) code.spelled in
    rw (e, kept) refl

method_right : (pool : List Constant) (r : RawMember) → IsSoundMethod pool r → IsRightMethod pool (method_of pool r)
method_right pool r sound = record {
  name = sound.name;
  descriptor = sound.descriptor;
  flags = sound.flags;
  constant = refl;
  code = code_there pool r sound (named pool (codes "Code") r.attributes) refl ∙ sound.has_code;
}

-- ---- members that are the same

same_back : (pool : List Constant) (i j : ℕ) → IsSameText pool i j → IsSameText pool j i
same_back pool i j same = (same.0, same.2, same.1)

distinct_raws : (pool : List Constant) (raws : List RawMember) → IsDistinct pool raws → (i j : ℕ) (x y : RawMember) → slice_get raws i ≡ Some x → slice_get raws j ≡ Some y
    → IsSameText pool x.name y.name → IsSameText pool x.descriptor y.descriptor → i ≡ j
distinct_raws pool raws distinct i j x y there here name descriptor =
    elim (sides i j) [
      | inl before ↦ absurd (distinct j y here (i, x, before, there, (name, descriptor)))
      | inr other ↦ elim other [
        | inl behind ↦ absurd (distinct i x there (j, y, behind, here, (same_back pool x.name y.name name, same_back pool x.descriptor y.descriptor descriptor)))
        | inr same ↦ same
      ]
    ]

-- what is kept of a member has its name and its descriptor
record Keeps (keep : RawMember → Member) : Type 0 where
  name : (r : RawMember) → (keep r).name ≡ r.name
  descriptor : (r : RawMember) → (keep r).descriptor ≡ r.descriptor

distinct_kept : (pool : List Constant) (keep : RawMember → Member) (raws : List RawMember) → Keeps keep → IsDistinct pool raws → AreDistinct pool (map keep raws)
distinct_kept pool keep raws keeps distinct i j x y there here name descriptor =
    let a = raw_member keep raws i x there in
    let b = raw_member keep raws j y here in
    let x_name : x.name ≡ a.0.name = ap (λ (m : Member). m.name) (sym a.2) ∙ keeps.name a.0 in
    let y_name : y.name ≡ b.0.name = ap (λ (m : Member). m.name) (sym b.2) ∙ keeps.name b.0 in
    let x_descriptor : x.descriptor ≡ a.0.descriptor = ap (λ (m : Member). m.descriptor) (sym a.2) ∙ keeps.descriptor a.0 in
    let y_descriptor : y.descriptor ≡ b.0.descriptor = ap (λ (m : Member). m.descriptor) (sym b.2) ∙ keeps.descriptor b.0 in
    distinct_raws pool raws distinct i j a.0 b.0 a.1 b.1
    (subst (λ (n : ℕ). IsSameText pool n b.0.name) x_name (subst (IsSameText pool x.name) y_name name))
    (subst (λ (n : ℕ). IsSameText pool n b.0.descriptor) x_descriptor (subst (IsSameText pool x.descriptor) y_descriptor descriptor))

-- ---- the file

pub entries : (file : ClassFile) → StandsForFile file → (i : ℕ) (c : Constant) → slice_get file.pool i ≡ Some c → IsRightEntry file.pool i c
entries file (bytes, are_bytes, (c, is_class, sound, is)) =
    let P : ClassFile → Type 0 = λ f. (i : ℕ) (k : Constant) → slice_get f.pool i ≡ Some k → IsRightEntry f.pool i k in
    subst P (sym is) (entry_right c.pool sound.pool)

pub fields : (file : ClassFile) → StandsForFile file → (i : ℕ) (m : Member) → slice_get file.fields i ≡ Some m → IsRightField file.pool (has file.flags INTERFACE) m
fields file (bytes, are_bytes, (c, is_class, sound, is)) =
    let P : ClassFile → Type 0 = λ f. (i : ℕ) (m : Member) → slice_get f.fields i ≡ Some m → IsRightField f.pool (has f.flags INTERFACE) m in
    subst P (sym is) (λ i m there.
    let r = raw_member (field_of c.pool) c.fields i m there in
    subst (IsRightField c.pool (has c.flags INTERFACE)) r.2 (field_right c.pool (has c.flags INTERFACE) r.0 (sound.fields i r.0 r.1)))

pub methods : (file : ClassFile) → StandsForFile file → (i : ℕ) (m : Member) → slice_get file.methods i ≡ Some m → IsRightMethod file.pool m
methods file (bytes, are_bytes, (c, is_class, sound, is)) =
    let P : ClassFile → Type 0 = λ f. (i : ℕ) (m : Member) → slice_get f.methods i ≡ Some m → IsRightMethod f.pool m in
    subst P (sym is) (λ i m there.
    let r = raw_member (method_of c.pool) c.methods i m there in
    subst (IsRightMethod c.pool) r.2 (method_right c.pool r.0 (sound.methods i r.0 r.1)))

pub distinct_fields : (file : ClassFile) → StandsForFile file → AreDistinct file.pool file.fields
distinct_fields file (bytes, are_bytes, (c, is_class, sound, is)) =
    let P : ClassFile → Type 0 = λ f. AreDistinct f.pool f.fields in
    subst P (sym is) (distinct_kept c.pool (field_of c.pool) c.fields (record { name = λ r. refl; descriptor = λ r. refl }) sound.distinct_fields)

pub distinct_methods : (file : ClassFile) → StandsForFile file → AreDistinct file.pool file.methods
distinct_methods file (bytes, are_bytes, (c, is_class, sound, is)) =
    let P : ClassFile → Type 0 = λ f. AreDistinct f.pool f.methods in
    subst P (sym is) (distinct_kept c.pool (method_of c.pool) c.methods (record { name = λ r. refl; descriptor = λ r. refl }) sound.distinct_methods)

pub header : (file : ClassFile) → StandsForFile file → HasRightHeader file
header file (bytes, are_bytes, (c, is_class, sound, is)) =
    subst HasRightHeader (sym is) (record { this_class = sound.this_class; super_class = sound.super_class; interfaces = sound.interfaces; flags = sound.flags })

pub small : (file : ClassFile) → StandsForFile file → IsSmall file
small file (bytes, are_bytes, (c, is_class, sound, is)) =
    let fields_kept = length-map c.fields (field_of c.pool) in
    let methods_kept = length-map c.methods (method_of c.pool) in
    let few_fields : length c.fields < 2 ^ 16 = is_class.holds.fields.0 in
    let few_methods : length c.methods < 2 ^ 16 = is_class.holds.methods.0 in
    subst IsSmall (sym is) (record {
      some = is_class.holds.pool.above;
      pool = is_class.holds.pool.count;
      interfaces = is_class.holds.interfaces.0;
      fields = omega arith;
      methods = omega arith;
    })

-- what instructions name
pub uses : (file : ClassFile) → StandsForFile file → (code : List ℕ) (steps : List (Instr Target)) → IsCodeArray file.pool code steps
    → (k : ℕ) (i : Instr Target) → slice_get steps k ≡ Some i → UsesRightly file.pool i.what
uses file (bytes, are_bytes, (c, is_class, sound, is)) =
    let P : ClassFile → Type 0 = λ f. (code : List ℕ) (steps : List (Instr Target)) → IsCodeArray f.pool code steps → (k : ℕ) (i : Instr Target) → slice_get steps k ≡ Some i → UsesRightly f.pool i.what in
    subst P (sym is) (λ code steps array k i there. uses_right c.pool sound.pool i.what (operands c.pool code steps array k i there).names)
