-- The bytes of the class, and that they are read as it.
use Rattle.std.proofs.Common.{◌≡◌, ◌≢◌, ◌⊎◌, inl, inr, ◌<◌, ◌+◌, ℕ, zero, suc, true, nat_lt, Option, None, Some, List, [], ◌∷◌, codes, map, slice_get, refl, sym, ap, subst, ◌∙◌, arith}
use Rattle.std.specs.Prelude.{option_map, slice_index}
use Rattle.std.specs.List.{AllByRecursion, concat, list_all}
use Rattle.std.proofs.lemmas.Bool.{and_parts, ltb-true}
use Rattle.std.proofs.lemmas.Option.{none-some, same_Some}
use Rattle.access_flags.specs.declared.TheConstants.{PUBLIC, STATIC}
use Rattle.class_names.specs.declared.kind.BaseKind.TheVariants as bases
use Rattle.class_names.specs.declared.kind.Kind.TheVariants as kinds
use Rattle.class_names.specs.Descriptor.{IsMethodDescriptor}
use Rattle.class_names.specs.ModifiedUtf8.{IsForm, IsModifiedUtf8, is_single}
use Rattle.class_names.specs.Names.{IsClassName, IsMethodName}
use Rattle.class_pool.specs.declared.pool.Role.{Role}
use Rattle.class_pool.specs.declared.pool.Role.TheVariants as roles
use Rattle.class_pool.specs.PoolRules.{IsUsed, IsUsedRightly, used_as}
use Rattle.class_read.specs.AttributeRules.{code_attribute}
use Rattle.class_read.specs.ClassFile.{class_of}
use Rattle.class_read.specs.Sound.{IsSound, IsSoundEntry, IsSoundMethod}
use Rattle.class_walk.specs.declared.class.Constant.{Constant}
use Rattle.class_walk.specs.declared.class.Constant.TheVariants.{Gap, Utf8, Class}
use Rattle.class_walk.specs.declared.class.RawAttribute.{RawAttribute}
use Rattle.class_walk.specs.declared.class.RawClass.{RawClass}
use Rattle.class_walk.specs.declared.class.RawCode.{RawCode}
use Rattle.class_walk.specs.declared.class.RawMember.{RawMember}
use Rattle.class_walk.specs.Layout.{IsClassFile, spelling}
use Rattle.class_walk.specs.Reading.{code_of}
use Rattle.class_walk.proofs.CodeLaws.{content_some}
use Rattle.code_decode.specs.declared.code.Code.{Code}
use Rattle.code_decode.specs.Method.{IsCodeOf}
use Rattle.code_decode.specs.Unit.{AreCodes}
use Rattle.code_decode.specs.declared.code.ClassUnit.{ClassUnit}
use Rattle.instructions.specs.declared.form.Form.TheVariants as forms
use Rattle.instructions.specs.declared.operation.Plain.TheVariants.{Return}
use Rattle.instructions.specs.Table.{row, table}
use Rattle.link_rules.specs.Units.{AreUnits}
use Rattle.sound_examples.specs.Program.{idle_attribute, idle_code, idle_file, idle_main, idle_pool, idle_program, idle_unit}

-- ---- what the bytes hold

abbrev raw_code : RawCode
raw_code = record { max_stack = 0; max_locals = 1; bytes = 177 ∷ []; handlers = []; attributes = [] }

-- no room, one local, one byte of code, no handlers and no attributes
abbrev content : List ℕ
content = 0 ∷ 0 ∷ 0 ∷ 1 ∷ 0 ∷ 0 ∷ 0 ∷ 1 ∷ 177 ∷ 0 ∷ 0 ∷ 0 ∷ 0 ∷ []

abbrev code_in_file : RawAttribute
code_in_file = record { at = 101; name = 7; content = content }

abbrev raw_main : RawMember
raw_main = record { at = 93; flags = PUBLIC + STATIC; name = 5; descriptor = 6; attributes = code_in_file ∷ [] }

abbrev raw : RawClass
raw = record {
  minor = 0;
  major = 52;
  pool = idle_pool;
  flags = PUBLIC;
  this_class = 2;
  super_class = 4;
  interfaces = [];
  fields = [];
  methods = raw_main ∷ [];
  attributes = [];
}

code_read : code_of content ≡ Some raw_code
code_read = content_some content raw_code (record {
  holds = record { max_stack = omega arith; max_locals = omega arith; size = omega arith; handlers = (omega arith, tt); attributes = (omega arith, tt) };
  spelled = refl;
  size = omega arith;
})

file_is : IsClassFile (spelling raw) raw
file_is = record {
  holds = record {
    minor = omega arith;
    oldest = omega arith;
    newest = omega arith;
    pool = record {
      above = omega arith;
      count = omega arith;
      gaps = (refl, tt, (refl, omega arith, (refl, omega arith, (refl, omega arith, (refl, omega arith, (refl, omega arith, (refl, omega arith, (refl, omega arith, tt))))))));
    };
    flags = omega arith;
    this_class = omega arith;
    super_class = omega arith;
    interfaces = (omega arith, tt);
    fields = (omega arith, tt);
    methods = (
      omega arith,
      (
        record {
          place = refl;
          flags = omega arith;
          name = omega arith;
          descriptor = omega arith;
          attributes = (omega arith, (record { place = refl; name = omega arith; size = omega arith }, tt));
        },
        tt,
      ),
    );
    attributes = (omega arith, tt);
  };
  spelled = refl;
  size = omega arith;
}

below_all : (xs : List ℕ) (i : ℕ) → list_all (λ b. nat_lt b 256) xs ≡ true → slice_index xs i < 256
below_all [] i e = omega arith
below_all (x ∷ xs) zero e = ltb-true x 256 (and_parts (nat_lt x 256) (list_all (λ b. nat_lt b 256) xs) e).0
below_all (x ∷ xs) (suc i) e = below_all xs i (and_parts (nat_lt x 256) (list_all (λ b. nat_lt b 256) xs) e).1

-- ---- texts

singles : (text : List ℕ) → list_all is_single text ≡ true → AllByRecursion IsForm (map (λ b. b ∷ []) text)
singles [] e = tt
singles (b ∷ text) e = let parts = and_parts (is_single b) (list_all is_single text) e in (parts.0, singles text parts.1)

joined : (text : List ℕ) → text ≡ concat (map (λ b. b ∷ []) text)
joined [] = refl
joined (b ∷ text) = ap (λ bs. b ∷ bs) (joined text)

plain_text : (text : List ℕ) → list_all is_single text ≡ true → IsModifiedUtf8 text
plain_text text e = (map (λ b. b ∷ []) text, record { each = singles text e; joined = joined text })

main_name : IsClassName (codes "Main")
main_name = record { first = codes "Main"; others = []; first_part = ((λ e. cc), (refl, (refl, (refl, (refl, tt))))); other_parts = tt; joined = refl }

object_name : IsClassName (codes "java/lang/Object")
object_name = record {
  first = codes "java";
  others = codes "lang" ∷ codes "Object" ∷ [];
  first_part = ((λ e. cc), (refl, (refl, (refl, (refl, tt)))));
  other_parts = (((λ e. cc), (refl, (refl, (refl, (refl, tt))))), (((λ e. cc), (refl, (refl, (refl, (refl, (refl, (refl, tt))))))), tt));
  joined = refl;
}

string_name : IsClassName (codes "java/lang/String")
string_name = record {
  first = codes "java";
  others = codes "lang" ∷ codes "String" ∷ [];
  first_part = ((λ e. cc), (refl, (refl, (refl, (refl, tt)))));
  other_parts = (((λ e. cc), (refl, (refl, (refl, (refl, tt))))), (((λ e. cc), (refl, (refl, (refl, (refl, (refl, (refl, tt))))))), tt));
  joined = refl;
}

main_descriptor : IsMethodDescriptor (codes "([Ljava/lang/String;)V") (kinds.Array 1 (bases.Class (codes "java/lang/String")) ∷ []) None
main_descriptor = record { good = record { each = ((omega arith, omega arith, string_name), tt); words = omega arith; result = tt }; spelled = refl }

-- ---- the constant pool

entry_is : (P : Constant → Type 0) (pool : List Constant) → AllByRecursion P pool → (j : ℕ) (c : Constant) → slice_get pool j ≡ Some c → P c
entry_is P [] all j c at = absurd (none-some c at)
entry_is P (x ∷ xs) all zero c at = subst P (same_Some x c at) all.0
entry_is P (x ∷ xs) all (suc j) c at = entry_is P xs all.1 j c at

unused : (role : Role) → AllByRecursion (λ c. used_as role c ≡ None) idle_pool → (index : ℕ) → IsUsed idle_pool role index → ⊥
unused role all index (j, c, at, used) = none-some index (sym (entry_is (λ x. used_as role x ≡ None) idle_pool all j c at) ∙ used)

no_name : (index : ℕ) → IsUsed idle_pool roles.MemberName index → ⊥
no_name = unused roles.MemberName (refl, (refl, (refl, (refl, (refl, (refl, (refl, (refl, tt))))))))

no_descriptor : (index : ℕ) → IsUsed idle_pool roles.Descriptor index → ⊥
no_descriptor = unused roles.Descriptor (refl, (refl, (refl, (refl, (refl, (refl, (refl, (refl, tt))))))))

IsNamed : Constant → Type 0
IsNamed c = (index : ℕ) → used_as roles.ClassName c ≡ Some index → (index ≡ 1) ⊎ (index ≡ 3)

class_names : (index : ℕ) → IsUsed idle_pool roles.ClassName index → (index ≡ 1) ⊎ (index ≡ 3)
unfolding IsNamed
class_names index (j, c, at, used) =
    entry_is (λ x. (i : ℕ) → used_as roles.ClassName x ≡ Some i → (i ≡ 1) ⊎ (i ≡ 3)) idle_pool
    ((λ i e. absurd (none-some i e)), ((λ i e. absurd (none-some i e)), ((λ i e. inl (sym (same_Some 1 i e))), ((λ i e. absurd (none-some i e)), ((λ i e. inr (sym (same_Some 3 i e))), ((λ i e. absurd (none-some i e)), ((λ i e. absurd (none-some i e)), ((λ i e. absurd (none-some i e)), tt))))))))
    j c at index used

-- a text that no class is named by
no_class : (index : ℕ) (text : List ℕ) → index ≢ 1 → index ≢ 3 → IsUsedRightly idle_pool index text
no_class index text one three = record {
  class = λ u. elim (class_names index u) [ inl e ↦ absurd (one e) | inr e ↦ absurd (three e) ];
  name = λ u. absurd (no_name index u);
  descriptor = λ u. absurd (no_descriptor index u);
}

a_class : (index : ℕ) (text : List ℕ) → IsClassName text → IsUsedRightly idle_pool index text
a_class index text is = record { class = λ u. inl is; name = λ u. absurd (no_name index u); descriptor = λ u. absurd (no_descriptor index u) }

pool_sound : (i : ℕ) (c : Constant) → slice_get idle_pool i ≡ Some c → IsSoundEntry idle_pool i c
pool_sound zero c at = subst (IsSoundEntry idle_pool 0) (same_Some Gap c at) tt
pool_sound (suc zero) c at = subst (IsSoundEntry idle_pool 1) (same_Some (Utf8 (codes "Main")) c at) (plain_text (codes "Main") refl, a_class 1 (codes "Main") main_name)
pool_sound (suc (suc zero)) c at = subst (IsSoundEntry idle_pool 2) (same_Some (Class 1) c at) (codes "Main", refl)
pool_sound (suc (suc (suc zero))) c at = subst (IsSoundEntry idle_pool 3) (same_Some (Utf8 (codes "java/lang/Object")) c at) (plain_text (codes "java/lang/Object") refl, a_class 3 (codes "java/lang/Object") object_name)
pool_sound (suc (suc (suc (suc zero)))) c at = subst (IsSoundEntry idle_pool 4) (same_Some (Class 3) c at) (codes "java/lang/Object", refl)
pool_sound (suc (suc (suc (suc (suc zero))))) c at =
    subst (IsSoundEntry idle_pool 5) (same_Some (Utf8 (codes "main")) c at) (plain_text (codes "main") refl, no_class 5 (codes "main") (λ e. omega (arith, e)) (λ e. omega (arith, e)))
pool_sound (suc (suc (suc (suc (suc (suc zero)))))) c at =
    subst (IsSoundEntry idle_pool 6) (same_Some (Utf8 (codes "([Ljava/lang/String;)V")) c at) (plain_text (codes "([Ljava/lang/String;)V") refl, no_class 6 (codes "([Ljava/lang/String;)V") (λ e. omega (arith, e)) (λ e. omega (arith, e)))
pool_sound (suc (suc (suc (suc (suc (suc (suc zero))))))) c at =
    subst (IsSoundEntry idle_pool 7) (same_Some (Utf8 (codes "Code")) c at) (plain_text (codes "Code") refl, no_class 7 (codes "Code") (λ e. omega (arith, e)) (λ e. omega (arith, e)))
pool_sound (suc (suc (suc (suc (suc (suc (suc (suc i)))))))) c at = absurd (none-some c at)

-- ---- the method

main_method_name : IsMethodName (codes "main")
main_method_name = inr (inr (((λ e. cc), (refl, (refl, (refl, (refl, tt))))), (refl, (refl, (refl, (refl, tt))))))

main_sound : IsSoundMethod idle_pool raw_main
main_sound = record {
  name = (codes "main", refl, main_method_name);
  descriptor = (codes "([Ljava/lang/String;)V", refl, (kinds.Array 1 (bases.Class (codes "java/lang/String")) ∷ [], None, main_descriptor, omega arith));
  flags = refl;
  names = attribute_names;
  codes_of = attribute_codes;
  has_code = refl;
}
  where
    attribute_names : (i : ℕ) (a : RawAttribute) → slice_get (code_in_file ∷ []) i ≡ Some a → (text : List ℕ) × (slice_get idle_pool a.name ≡ Some (Utf8 text))
    attribute_names zero a at = subst (λ (x : RawAttribute). (text : List ℕ) × (slice_get idle_pool x.name ≡ Some (Utf8 text))) (same_Some code_in_file a at) (codes "Code", refl)
    attribute_names (suc i) a at = absurd (none-some a at)

    attribute_codes : Rattle.class_read.specs.Sound.Each (Rattle.class_read.specs.Sound.IsOnlyOne idle_pool (codes "Code") (λ a. Rattle.class_read.specs.Sound.IsSoundCode idle_pool a.content) (code_in_file ∷ [])) (code_in_file ∷ [])
    attribute_codes zero a at = subst (λ (x : RawAttribute). Rattle.class_read.specs.Sound.IsOnlyOne idle_pool (codes "Code") (λ y. Rattle.class_read.specs.Sound.IsSoundCode idle_pool y.content) (code_in_file ∷ []) 0 x) (same_Some code_in_file a at)
        (λ named. (refl, record { code = raw_code; spelled = code_read; names = λ i x there. absurd (none-some x there); maps = λ i x there. absurd (none-some x there) }))
    attribute_codes (suc i) a at = absurd (none-some a at)

raw_sound : IsSound raw
raw_sound = record {
  pool = pool_sound;
  this_class = (codes "Main", (1, refl, refl), main_name);
  super_class = inl (codes "java/lang/Object", (3, refl, refl), object_name);
  interfaces = λ i x at. absurd (none-some x at);
  flags = refl;
  fields = λ i x at. absurd (none-some x at);
  methods = one_method;
  distinct_fields = λ i x at. absurd (none-some x at);
  distinct_methods = one_alone;
  attributes = λ i x at. absurd (none-some x at);
}
  where
    one_method : (i : ℕ) (m : RawMember) → slice_get (raw_main ∷ []) i ≡ Some m → IsSoundMethod idle_pool m
    one_method zero m at = subst (IsSoundMethod idle_pool) (same_Some raw_main m at) main_sound
    one_method (suc i) m at = absurd (none-some m at)

    one_alone : (i : ℕ) (m : RawMember) → slice_get (raw_main ∷ []) i ≡ Some m → ¬ Rattle.class_read.specs.Repeats.IsRepeated idle_pool (raw_main ∷ []) i m
    one_alone zero m at (j, y, less, there, same) = omega (arith, less)
    one_alone (suc i) m at repeated = none-some m at

file_read : idle_file ≡ class_of raw
file_read = ap (λ (o : Option RawCode). record { major = 52; flags = PUBLIC; this_class = 2; super_class = 4; interfaces = []; pool = idle_pool; fields = []; methods = record { flags = PUBLIC + STATIC; name = 5; descriptor = 6; constant = None; code = option_map (code_attribute idle_pool) o } ∷ [] }) (sym code_read)

-- ---- the code

codes_read : AreCodes idle_file (Some idle_code ∷ [])
unfolding table
codes_read = record { count = refl; each = each_code }
  where
    main_code : IsCodeOf idle_file 0 idle_code
    main_code = (
      idle_main,
      idle_attribute,
      (refl, refl),
      (
        1,
        (codes "([Ljava/lang/String;)V", kinds.Array 1 (bases.Class (codes "java/lang/String")) ∷ [], None, refl, main_descriptor, refl),
        record {
          max_stack = refl;
          max_locals = refl;
          steps = record {
            some = omega arith;
            most = omega arith;
            laid = (refl, record { number = 177; row = row 177 "return" (forms.Plain (Return None)); operands = []; numbered = refl; right = (refl, refl); spelled = refl; ends = refl }, refl);
            targets = (tt, tt);
          };
          handlers = record { count = refl; each = λ k x h at there. absurd (none-some x at) };
          frames = inl (refl, refl);
        },
      ),
    )

    each_code : (i : ℕ) (o : Option Code) → slice_get (Some idle_code ∷ []) i ≡ Some o → Rattle.code_decode.specs.Unit.IsCodeEntry idle_file i o
    each_code zero o at = subst (λ x. Rattle.code_decode.specs.Unit.IsCodeEntry idle_file 0 x) (same_Some (Some idle_code) o at) main_code
    each_code (suc i) o at = absurd (none-some o at)

pub decoded : AreUnits idle_program
decoded zero u at = subst (λ (x : ClassUnit). Rattle.link_rules.specs.Units.IsDecoded x) (same_Some idle_unit u at) (record {
  file = (spelling raw, (λ i. below_all (spelling raw) i refl), (raw, file_is, raw_sound, file_read));
  codes = codes_read;
})
decoded (suc k) u at = absurd (none-some u at)
