-- The laws, from the table.
use Rattle.std.proofs.Common.{◌≡◌, ◌+◌, ◌&&◌, ℕ, zero, suc, Bool, true, false, Option, None, Some, List, [], ◌∷◌, ◌++◌, length, map, slice_get, refl, sym, ap, subst, ◌∙◌, arith, nat_le, if◌then◌else◌}
use Rattle.std.specs.Option.{option_map, option_map_or, option_and_then}
use Rattle.std.specs.List.{AllByRecursion}
use Rattle.std.proofs.lemmas.Bool.{le-leb}
use Rattle.std.proofs.lemmas.Option.{same_Some, none-some}
use Rattle.access_flags.specs.declared.TheConstants.{STATIC, ABSTRACT}
use Rattle.access_flags.specs.Flags.{has}
use Rattle.builtin_world.specs.Library.{library}
use Rattle.builtin_world.specs.Library.{Class as LibraryClass, Method as LibraryMethod}
use Rattle.builtin_world.specs.declared.Native.{Native}
use Rattle.class_names.specs.Reading.{spells_class_name, split_at_semicolon, base_at, kind_at}
use Rattle.class_names.specs.Kinds.{kinds_within}
use Rattle.code_decode.specs.declared.code.ClassUnit.{ClassUnit}
use Rattle.link_types.specs.declared.methods.MethodBody.{MethodBody}
use Rattle.link_types.specs.declared.methods.MethodBody.TheVariants as bodies
use Rattle.link_types.specs.declared.operands.MethodId.{MethodId}
use Rattle.link_rules.specs.Classes.{NamedClass, NamedMember, library_class, library_method, class_of_unit, classes_of}
use Rattle.link_rules.specs.Methods.{method_named, parameter_types, result_type, body_of_member}
use Rattle.link_rules.specs.Names.{program_names, class_count}
use Rattle.link_rules.proofs.Numbers.{class_count_is}
use Rattle.java_rows.specs.Program.{body_of}
use Rattle.row_soundness.specs.Natives.{native_takes, native_gives, native_static}
use Rattle.builtin_facts.specs.Facts.{BuiltInClassesHaveNumbers, NativesFitTheirTable, RunsTakeNothing, FitsTable, IsDeclaredBy}
use Rattle.builtin_facts.proofs.Table.{IsInTable, AreInTable, library_is_in_table}

pub numbers : BuiltInClassesHaveNumbers
numbers us c low high =
    let count : length (classes_of us) ≡ 28 + length us = class_count_is us in
    both (nat_le 1 c) (nat_le c (class_count (program_names us))) (le-leb 1 c low) (le-leb c (class_count (program_names us)) (omega (arith, count, high)))
  where
    both : (a b : Bool) → a ≡ true → b ≡ true → (a && b) ≡ true
    both true b first second = second
    both false b first second = cc

pub runs : (us : List ClassUnit) → RunsTakeNothing us
unfolding library spells_class_name split_at_semicolon base_at kind_at kinds_within
runs us = record { thread = refl; target = refl; void = refl }

-- ---- places in lists

first_of : {X Y : Type 0} (f : X → Y) (xs : List X) (ys : List Y) (i : ℕ) (x : X) → slice_get xs i ≡ Some x → slice_get (map f xs ++ ys) i ≡ Some (f x)
first_of f [] ys i x e = absurd (none-some x e)
first_of f (y ∷ xs) ys zero x e = ap (λ z. Some (f z)) (same_Some y x e)
first_of f (y ∷ xs) ys (suc i) x e = first_of f xs ys i x e

mapped : {X Y : Type 0} (f : X → Y) (xs : List X) (i : ℕ) → slice_get (map f xs) i ≡ option_map f (slice_get xs i)
mapped f [] i = refl
mapped f (x ∷ xs) zero = refl
mapped f (x ∷ xs) (suc i) = mapped f xs i

one_of : {X : Type 0} (Q : X → Type 0) (xs : List X) (i : ℕ) (x : X) → AllByRecursion Q xs → slice_get xs i ≡ Some x → Q x
one_of Q [] i x all e = absurd (none-some x e)
one_of Q (y ∷ xs) zero x all e = subst Q (same_Some y x e) all.0
one_of Q (y ∷ xs) (suc i) x all e = one_of Q xs i x all.1 e

class_in : (us : List ClassUnit) (c d : ℕ) (ks : List LibraryClass) (i : ℕ) (k : LibraryClass) → AreInTable us c ks → slice_get ks i ≡ Some k → i + c ≡ d → AllByRecursion (λ m. IsInTable us d m) k.methods
class_in us c d [] i k all e sum = absurd (none-some k e)
class_in us c d (y ∷ ks) zero k all e sum =
    let same : c ≡ d = omega (arith, sum) in
    subst (λ n. AllByRecursion (λ m. IsInTable us n m) k.methods) same (subst (λ (z : LibraryClass). AllByRecursion (λ m. IsInTable us c m) z.methods) (same_Some y k e) all.0)
class_in us c d (y ∷ ks) (suc i) k all e sum = class_in us (suc c) d ks i k all.1 e (omega (arith, sum))

-- ---- natives

-- what a method that has a native executes
module _ (us : List ClassUnit) where
  at_method : (i j : ℕ) (k : LibraryClass) (m : LibraryMethod) → slice_get library i ≡ Some k → slice_get k.methods j ≡ Some m
      → method_named (classes_of us) (record { class = suc i; method = j }) ≡ Some (library_method m)
  at_method i j k m class method =
      ap (λ (o : Option NamedClass). slice_get (option_map_or (λ (c : NamedClass). c.methods) o []) j) (first_of library_class library (map class_of_unit us) i k class)
      ∙ mapped library_method k.methods j ∙ ap (λ o. option_map library_method o) method

  no_native : (o : Option NamedMember) (f : NamedMember → MethodBody) (n : Native) → ((m : NamedMember) → f m ≡ bodies.Native n → ⊥) → option_map f o ≡ Some (bodies.Native n) → ⊥
  no_native None f n never e = cc
  no_native (Some m) f n never e = never m (same_Some (f m) (bodies.Native n) e)

  by_flag : (abstract : Bool) (o : Option Native) (n : Native) → (if abstract then bodies.Abstract else option_map_or (λ x. bodies.Native x) o bodies.Code) ≡ bodies.Native n → (abstract ≡ false) × (o ≡ Some n)
  by_flag true o n e = cc
  by_flag false None n e = cc
  by_flag false (Some x) n e = (refl, cc)

  natives_of : (i j : ℕ) (n : Native) → body_of us (record { class = suc i; method = j }) ≡ Some (bodies.Native n) → FitsTable us n (record { class = suc i; method = j })
  natives_of i j n e = by_class (slice_get library i) refl
    where
      id : MethodId
      id = record { class = suc i; method = j }

      natives_are : (o : Option LibraryClass) → slice_get library i ≡ o
          → Rattle.link_rules.specs.Methods.native_of (record { class = suc i; method = j }) ≡ option_and_then (λ (c : LibraryClass). option_map (λ (m : LibraryMethod). m.native) (slice_get c.methods j)) o
      natives_are o same = ap (λ x. option_and_then (λ (c : LibraryClass). option_map (λ (m : LibraryMethod). m.native) (slice_get c.methods j)) x) same

      none : (o : Option Native) → Rattle.link_rules.specs.Methods.native_of (record { class = suc i; method = j }) ≡ o → o ≡ None → ⊥
      none o same missing =
          no_native (method_named (classes_of us) (record { class = suc i; method = j })) (body_of_member (record { class = suc i; method = j })) n
          (λ m is. let found = by_flag (has m.flags ABSTRACT) (Rattle.link_rules.specs.Methods.native_of (record { class = suc i; method = j })) n is in none-some n (sym missing ∙ sym same ∙ found.1)) e

      by_class : (o : Option LibraryClass) → slice_get library i ≡ o → FitsTable us n (record { class = suc i; method = j })
      by_class None same = absurd (none None (natives_are None same) refl)
      by_class (Some k) same = by_method (slice_get k.methods j) refl
        where
          by_method : (o : Option LibraryMethod) → slice_get k.methods j ≡ o → FitsTable us n (record { class = suc i; method = j })
          by_method None at = absurd (none (option_map (λ (m : LibraryMethod). m.native) (slice_get k.methods j)) (natives_are (Some k) same) (ap (λ x. option_map (λ (m : LibraryMethod). m.native) x) at))
          by_method (Some m) at =
              let named : method_named (classes_of us) (record { class = suc i; method = j }) ≡ Some (library_method m) = at_method i j k m same at in
              let native : Rattle.link_rules.specs.Methods.native_of (record { class = suc i; method = j }) ≡ Some m.native = natives_are (Some k) same ∙ ap (λ x. option_map (λ (y : LibraryMethod). y.native) x) at in
              let body : body_of_member (record { class = suc i; method = j }) (library_method m) ≡ bodies.Native n =
              same_Some _ _ (sym (ap (λ o. option_map (body_of_member (record { class = suc i; method = j })) o) named) ∙ e) in
              let found = by_flag (has m.flags ABSTRACT) (Rattle.link_rules.specs.Methods.native_of (record { class = suc i; method = j })) n body in
              let same_native : m.native ≡ n = same_Some m.native n (sym native ∙ found.1) in
              let row : IsInTable us (suc i) m = one_of (λ x. IsInTable us (suc i) x) k.methods j m (class_in us 1 (suc i) library i k (library_is_in_table us) same (omega arith)) at in
              record {
                takes = ap (λ (o : Option NamedMember). option_map_or (λ (x : NamedMember). parameter_types (program_names us) x.descriptor) o []) named ∙ row.takes ∙ ap native_takes same_native;
                gives = ap (λ (o : Option NamedMember). option_and_then (λ (x : NamedMember). result_type (program_names us) x.descriptor) o) named ∙ row.gives ∙ ap native_gives same_native;
                static = ap (λ (o : Option NamedMember). option_map_or (λ (x : NamedMember). has x.flags STATIC) o false) named ∙ row.static ∙ ap native_static same_native;
                declared = subst (λ x. IsDeclaredBy us x (suc i)) same_native (row.declared found.0);
              }

pub natives : NativesFitTheirTable
natives us id n e = by_number id.class id.method e
  where
    by_number : (c j : ℕ) → body_of us (record { class = c; method = j }) ≡ Some (bodies.Native n) → FitsTable us n (record { class = c; method = j })
    by_number zero j e = absurd (no_native us (method_named (classes_of us) (record { class = 0; method = j })) (body_of_member (record { class = 0; method = j })) n (λ m is. let found = by_flag us (has m.flags ABSTRACT) None n is in none-some n found.1) e)
    by_number (suc i) j e = natives_of us i j n e
