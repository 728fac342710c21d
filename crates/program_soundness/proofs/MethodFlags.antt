-- Which flags methods of a program have together, and what executes those of the built-in classes.
use Rattle.std.proofs.Common.{◌≡◌, ◌≢◌, ◌<◌, ◌≤◌, ◌+◌, ◌==◌, ◌&&◌, ◌||◌, ℕ, zero, suc, Bool, true, false, not, Option, None, Some, List, [], ◌∷◌, ◌++◌, length, map, slice_get, bytes_eq, codes, refl, sym, ap, subst, ◌∙◌, arith, inl, inr}
use Rattle.std.specs.Prelude.{option_map, option_and_then}
use Rattle.std.specs.List.{list_all, range_with_len}
use Rattle.std.specs.Option.{option_map_or}
use Rattle.std.proofs.lemmas.Bool.{cases_lt, and_parts, not-true, true≢false}
use Rattle.std.proofs.lemmas.Option.{same_Some, none-some, slice_get_within, slice_get_past}
use Rattle.access_flags.specs.declared.TheConstants.{ABSTRACT, STATIC, PRIVATE, FINAL, NATIVE}
use Rattle.access_flags.specs.Flags.{has}
use Rattle.builtin_world.specs.Library.{library}
use Rattle.builtin_world.specs.Library.{Class as LibraryClass, Method as LibraryMethod}
use Rattle.builtin_world.specs.declared.Native.{Native}
use Rattle.builtin_world.specs.declared.Native.TheVariants as natives
use Rattle.builtin_world.specs.declared.number.TheConstants.{PRINT_STREAM}
use Rattle.class_read.specs.declared.class_file.Member.{Member}
use Rattle.class_read.specs.MemberRules.{is_unlike_abstract, has_two_accesses}
use Rattle.code_decode.specs.declared.code.ClassUnit.{ClassUnit}
use Rattle.code_laws.proofs.FileLaws.{methods}
use Rattle.link_types.specs.declared.methods.MethodBody.TheVariants as bodies
use Rattle.link_types.specs.declared.operands.MethodId.{MethodId}
use Rattle.link_rules.specs.Classes.{NamedClass, NamedMember, classes_of, class_of_unit, library_class, library_method, class_numbered, methods_of, member_of_file, number_of_file}
use Rattle.link_rules.specs.Methods.{method_named, native_of, library_numbered, body_of_member}
use Rattle.link_rules.specs.Names.{program_names, is_class_number}
use Rattle.link_rules.specs.Units.{AreUnits}
use Rattle.link_rules.proofs.Named.{class_within}
use Rattle.link_rules.proofs.Numbers.{in_library, is_file}
use Rattle.java_rows.specs.Program.{body_of}
use Rattle.row_soundness.specs.Natives.{IsNative, IsNativeConstructor}
use Rattle.program_soundness.proofs.ClassNumbers.{class_is_numbered}
use Rattle.program_soundness.proofs.Methods.{from_map, methods_of_file}

-- ---- the built-in classes

is_concrete : NamedMember → Bool
is_concrete m = not (has m.flags ABSTRACT)

goes_together : NamedMember → Bool
goes_together m = not (has m.flags ABSTRACT && is_unlike_abstract m.flags)

library_flags : (us : List ClassUnit) → map (λ c. list_all goes_together (methods_of (classes_of us) c)) (range_with_len 0 29) ≡ map (λ _. true) (range_with_len 0 29)
unfolding library goes_together
library_flags us = refl

print_stream_methods : (us : List ClassUnit) → list_all is_concrete (methods_of (classes_of us) PRINT_STREAM) ≡ true
unfolding library is_concrete
print_stream_methods us = refl

all_at : {X : Type 0} (test : X → Bool) (xs : List X) (i : ℕ) (x : X) → list_all test xs ≡ true → slice_get xs i ≡ Some x → test x ≡ true
all_at test [] i x all e = absurd (none-some x e)
all_at test (y ∷ xs) zero x all e = subst (λ z. test z ≡ true) (same_Some y x e) (and_parts (test y) (list_all test xs) all).0
all_at test (y ∷ xs) (suc i) x all e = all_at test xs i x (and_parts (test y) (list_all test xs) all).1 e

not_both : (a b : Bool) → not (a && b) ≡ true → b ≡ true → a ≡ false
not_both true b e f = absurd (true≢false (sym f ∙ not-true b e))
not_both false b e f = refl

-- ---- methods of the program

module _ (us : List ClassUnit) where
  -- a method is one of a class
  pub method_class : (id : MethodId) (m : NamedMember) → method_named (classes_of us) id ≡ Some m → (id.class ≢ 0) × (id.class ≤ length (classes_of us))
  method_class id m e = by_class (class_numbered (classes_of us) id.class) refl e
    where
      by_class : (o : Option NamedClass) → class_numbered (classes_of us) id.class ≡ o → slice_get (option_map_or (λ (c : NamedClass). c.methods) o []) id.method ≡ Some m → (id.class ≢ 0) × (id.class ≤ length (classes_of us))
      by_class None same is = absurd (none-some m is)
      by_class (Some k) same is = class_within (classes_of us) id.class k same

  pub method_class_numbered : (id : MethodId) (m : NamedMember) → method_named (classes_of us) id ≡ Some m → is_class_number (program_names us) id.class ≡ true
  method_class_numbered id m e = let (some, within) = method_class id m e in class_is_numbered (program_names us) id.class some within

  -- of a class of a file it is that of the file
  pub record IsFileMethod (id : MethodId) (m : NamedMember) : Type 0 where
    pub file : ℕ
    pub unit : ClassUnit
    pub there : slice_get us file ≡ Some unit
    pub class : id.class ≡ number_of_file file
    pub member : Member
    pub listed : slice_get unit.file.methods id.method ≡ Some member
    pub same : member_of_file unit.file.pool member ≡ m

  pub file_method : (id : MethodId) (m : NamedMember) → method_named (classes_of us) id ≡ Some m → 28 < id.class → IsFileMethod id m
  file_method id m e above =
      let (some, within) = method_class id m e in
      let (k, u, at, class) = is_file us id.class above within in
      let named : slice_get (map (member_of_file u.file.pool) u.file.methods) id.method ≡ Some m =
      ap (λ ms. slice_get ms id.method) (sym (methods_of_file us k u at)) ∙ (ap (λ d. slice_get (methods_of (classes_of us) d) id.method) (sym class) ∙ e) in
      let (member, listed, same) = from_map (member_of_file u.file.pool) (slice_get u.file.methods id.method) m (sym (Rattle.std.proofs.lemmas.Option.slice_get-map (member_of_file u.file.pool) u.file.methods id.method) ∙ named) in
      record { file = k; unit = u; there = at; class = class; member = member; listed = listed; same = same }

  -- an abstract method is neither private nor static nor final
  together : AreUnits us → (id : MethodId) (m : NamedMember) → method_named (classes_of us) id ≡ Some m → goes_together m ≡ true
  unfolding goes_together
  together units id m e =
      elim (cases_lt 28 id.class) [
        | inr low ↦ all_at goes_together (methods_of (classes_of us) id.class) id.method m (in_library 0 29 (λ c. list_all goes_together (methods_of (classes_of us) c)) (λ _. true) (library_flags us) id.class (omega arith) (omega (arith, low))) e
        | inl above ↦ by_file (file_method id m e above)
      ]
    where
      by_file : IsFileMethod id m → goes_together m ≡ true
      by_file of =
          let right = methods of.unit.file (units of.file of.unit of.there).file id.method of.member of.listed in
          subst (λ (x : NamedMember). goes_together x ≡ true) of.same (and_parts (not (has_two_accesses of.member.flags)) (not (has of.member.flags ABSTRACT && is_unlike_abstract of.member.flags)) right.flags).1

  module _ (units : AreUnits us) (id : MethodId) (m : NamedMember) (e : method_named (classes_of us) id ≡ Some m) where
    unlike_concrete : is_unlike_abstract m.flags ≡ true → has m.flags ABSTRACT ≡ false
    unfolding goes_together
    unlike_concrete is = not_both (has m.flags ABSTRACT) (is_unlike_abstract m.flags) (together units id m e) is

    pub private_concrete : has m.flags PRIVATE ≡ true → has m.flags ABSTRACT ≡ false
    private_concrete is = unlike_concrete (ap (λ b. b || (has m.flags STATIC || (has m.flags FINAL || (has m.flags Rattle.access_flags.specs.declared.TheConstants.SYNCHRONIZED || has m.flags NATIVE)))) is)

    pub static_concrete : has m.flags STATIC ≡ true → has m.flags ABSTRACT ≡ false
    static_concrete is = unlike_concrete (by_flags (has m.flags PRIVATE) (has m.flags STATIC) _ is)
      where
        by_flags : (a b c : Bool) → b ≡ true → (a || (b || c)) ≡ true
        by_flags true b c f = refl
        by_flags false true c f = refl
        by_flags false false c f = cc

    pub final_concrete : has m.flags FINAL ≡ true → has m.flags ABSTRACT ≡ false
    final_concrete is = unlike_concrete (by_flags (has m.flags PRIVATE) (has m.flags STATIC) (has m.flags FINAL) _ is)
      where
        by_flags : (a b c d : Bool) → c ≡ true → (a || (b || (c || d))) ≡ true
        by_flags true b c d f = refl
        by_flags false true c d f = refl
        by_flags false false true d f = refl
        by_flags false false false d f = cc

    pub print_stream_concrete : id.class ≡ PRINT_STREAM → has m.flags ABSTRACT ≡ false
    unfolding is_concrete
    print_stream_concrete same =
        not-true (has m.flags ABSTRACT) (all_at is_concrete (methods_of (classes_of us) PRINT_STREAM) id.method m (print_stream_methods us) (ap (λ c. slice_get (methods_of (classes_of us) c) id.method) (sym same) ∙ e))

-- ---- natives

-- the method of a built-in class
pub record IsBuiltIn (id : MethodId) (n : Native) : Type 0 where
  pub place : ℕ
  pub class : LibraryClass
  pub method : LibraryMethod
  pub number : id.class ≡ suc place
  pub class_there : slice_get library place ≡ Some class
  pub method_there : slice_get class.methods id.method ≡ Some method
  pub native : method.native ≡ n

native_found : (id : MethodId) (c : ℕ) (n : Native) → id.class ≡ c → option_and_then (λ (k : LibraryClass). option_map (λ (m : LibraryMethod). m.native) (slice_get k.methods id.method)) (library_numbered c) ≡ Some n → IsBuiltIn id n
native_found id zero n same e = absurd (none-some n e)
native_found id (suc i) n same e = by_class (slice_get library i) refl e
  where
    by_class : (o : Option LibraryClass) → slice_get library i ≡ o → option_and_then (λ (k : LibraryClass). option_map (λ (m : LibraryMethod). m.native) (slice_get k.methods id.method)) o ≡ Some n → IsBuiltIn id n
    by_class None at is = absurd (none-some n is)
    by_class (Some k) at is =
        let (m, there, native) = from_map (λ (m : LibraryMethod). m.native) (slice_get k.methods id.method) n is in
        record { place = i; class = k; method = m; number = same; class_there = at; method_there = there; native = native }

pub is_native_constructor : Native → Bool
is_native_constructor natives.ObjectInit = true
is_native_constructor natives.ThreadInit = true
is_native_constructor natives.ThreadInitTarget = true
is_native_constructor natives.ThrowableInit = true
is_native_constructor natives.ThrowableInitMessage = true
is_native_constructor natives.BuilderInit = true
is_native_constructor natives.BuilderInitText = true
is_native_constructor _ = false

constructs_right : LibraryMethod → Bool
constructs_right m = not (bytes_eq m.name (codes "<init>")) || is_native_constructor m.native

library_constructors : list_all (λ (k : LibraryClass). list_all constructs_right k.methods) library ≡ true
unfolding library constructs_right is_native_constructor
library_constructors = refl

library_there : map (λ x. Rattle.std.proofs.Common.is_some (slice_get library x)) (range_with_len 0 28) ≡ map (λ _. true) (range_with_len 0 28)
unfolding library
library_there = refl

is_constructor_type : (n : Native) → is_native_constructor n ≡ true → IsNativeConstructor n
unfolding is_native_constructor
is_constructor_type natives.ObjectInit e = tt
is_constructor_type natives.ThreadInit e = tt
is_constructor_type natives.ThreadInitTarget e = tt
is_constructor_type natives.ThrowableInit e = tt
is_constructor_type natives.ThrowableInitMessage e = tt
is_constructor_type natives.BuilderInit e = tt
is_constructor_type natives.BuilderInitText e = tt
is_constructor_type n e = cc

first_of : {X Y : Type 0} (f : X → Y) (xs : List X) (ys : List Y) (i : ℕ) (x : X) → slice_get xs i ≡ Some x → slice_get (map f xs ++ ys) i ≡ Some (f x)
first_of f [] ys i x e = absurd (none-some x e)
first_of f (y ∷ xs) ys zero x e = ap (λ z. Some (f z)) (same_Some y x e)
first_of f (y ∷ xs) ys (suc i) x e = first_of f xs ys i x e

some_class : (i : ℕ) → suc i ≤ 28 → Rattle.std.proofs.Common.is_some (slice_get library i) ≡ false → ⊥
some_class i low missing = true≢false (sym (in_library 0 28 (λ x. Rattle.std.proofs.Common.is_some (slice_get library x)) (λ _. true) library_there i (omega arith) (omega (arith, low))) ∙ missing)

module _ (us : List ClassUnit) where
  -- the method of the built-in class is the one that is named
  pub built_in_named : (id : MethodId) (n : Native) (b : IsBuiltIn id n) → method_named (classes_of us) id ≡ Some (library_method b.method)
  built_in_named id n b =
      ap (λ c. slice_get (methods_of (classes_of us) c) id.method) b.number
      ∙ (ap (λ (o : Option NamedClass). slice_get (option_map_or (λ (c : NamedClass). c.methods) o []) id.method) (first_of library_class library (map class_of_unit us) b.place b.class b.class_there)
      ∙ (Rattle.std.proofs.lemmas.Option.slice_get-map library_method b.class.methods id.method ∙ ap (λ o. option_map library_method o) b.method_there))

  by_flag : (abstract : Bool) (o : Option Native) (n : Native) → Rattle.std.proofs.Common.cond abstract bodies.Abstract (option_map_or (λ x. bodies.Native x) o bodies.Code) ≡ bodies.Native n → o ≡ Some n
  by_flag true o n e = cc
  by_flag false None n e = cc
  by_flag false (Some x) n e = cc

  pub native_is : (id : MethodId) (n : Native) → IsNative us id n → IsBuiltIn id n
  native_is id n is =
      let (m, named, body) = from_map (body_of_member id) (method_named (classes_of us) id) (bodies.Native n) is in
      native_found id id.class n refl (by_flag (has m.flags ABSTRACT) (native_of id) n body)

  -- a constructor of a built-in class executes one
  pub native_constructor : (id : MethodId) (n : Native) (m : NamedMember) → IsNative us id n → method_named (classes_of us) id ≡ Some m → bytes_eq m.name (codes "<init>") ≡ true → IsNativeConstructor n
  unfolding constructs_right
  native_constructor id n m is named init =
      let b = native_is id n is in
      let same : library_method b.method ≡ m = same_Some (library_method b.method) m (sym (built_in_named id n b) ∙ named) in
      let right : constructs_right b.method ≡ true =
      all_at constructs_right b.class.methods id.method b.method (all_at (λ (k : LibraryClass). list_all constructs_right k.methods) library b.place b.class library_constructors b.class_there) b.method_there in
      let name : bytes_eq b.method.name (codes "<init>") ≡ true = subst (λ (x : NamedMember). bytes_eq x.name (codes "<init>") ≡ true) (sym same) init in
      subst (λ x. IsNativeConstructor x) b.native (is_constructor_type b.method.native (ap (λ t. not t || is_native_constructor b.method.native) (sym name) ∙ right))

  -- a method of a built-in class that isn't abstract is native
  pub built_in_body : (id : MethodId) (m : NamedMember) → method_named (classes_of us) id ≡ Some m → id.class ≤ 28 → has m.flags ABSTRACT ≡ false → (n : Native) × (body_of us id ≡ Some (bodies.Native n))
  built_in_body id m named low concrete = by_native (native_of id) refl
    where
      none : native_of id ≡ None → ⊥
      none missing = true≢false (sym (all_natives id.class id.method m named low) ∙ ap Rattle.std.proofs.Common.is_some missing)
        where
          all_natives : (c j : ℕ) (m : NamedMember) → method_named (classes_of us) (record { class = c; method = j }) ≡ Some m → c ≤ 28 → Rattle.std.proofs.Common.is_some (native_of (record { class = c; method = j })) ≡ true
          all_natives zero j m e low = absurd (none-some m e)
          all_natives (suc i) j m e low = by_class (slice_get library i) refl
            where
              by_class : (o : Option LibraryClass) → slice_get library i ≡ o → Rattle.std.proofs.Common.is_some (option_and_then (λ (k : LibraryClass). option_map (λ (m : LibraryMethod). m.native) (slice_get k.methods j)) (slice_get library i)) ≡ true
              by_class (Some k) at =
                  let listed : slice_get (map library_method k.methods) j ≡ Some m =
                  ap (λ (o : Option NamedClass). slice_get (option_map_or (λ (c : NamedClass). c.methods) o []) j) (sym (first_of library_class library (map class_of_unit us) i k at)) ∙ e in
                  let (lm, there, same) = from_map library_method (slice_get k.methods j) m (sym (Rattle.std.proofs.lemmas.Option.slice_get-map library_method k.methods j) ∙ listed) in
                  ap (λ o. Rattle.std.proofs.Common.is_some (option_and_then (λ (k : LibraryClass). option_map (λ (m : LibraryMethod). m.native) (slice_get k.methods j)) o)) at
                  ∙ ap (λ o. Rattle.std.proofs.Common.is_some (option_map (λ (m : LibraryMethod). m.native) o)) there
              by_class None at = absurd (some_class i low (ap Rattle.std.proofs.Common.is_some at))

      by_native : (o : Option Native) → native_of id ≡ o → (n : Native) × (body_of us id ≡ Some (bodies.Native n))
      by_native None same = absurd (none same)
      by_native (Some n) same =
          (n, ap (λ o. option_map (body_of_member id) o) named ∙ (ap (λ b. Some (Rattle.std.proofs.Common.cond b bodies.Abstract (option_map_or (λ x. bodies.Native x) (native_of id) bodies.Code))) concrete ∙ ap (λ o. Some (option_map_or (λ x. bodies.Native x) o bodies.Code)) same))
