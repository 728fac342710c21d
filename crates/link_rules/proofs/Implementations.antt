-- Objects have the methods that are abstract above their class.
use Rattle.std.proofs.Common.{◌≡◌, ℕ, suc, ◌+◌, ◌-◌, ◌<◌, ◌&&◌, ◌||◌, Bool, true, false, cond, nat_le, bytes_eq, List, [], ◌∷◌, length, flat_map, Contains, Option, None, Some, IsSomeAnd, slice_get, option_map, option_and_then, inl, inr, refl, sym, ap, ap₂, subst, ◌∙◌, arith}
use Rattle.std.specs.Option.{option_map_or}
use Rattle.std.specs.List.{All, position_from}
use Rattle.std.proofs.lemmas.Bool.{le-leb, and_from, or_parts, not-true}
use Rattle.std.proofs.lemmas.List.Elements.{All-contains, Contains-append_left}
use Rattle.std.proofs.lemmas.Slice.Eq.{bytes_eq-Decides}
use Rattle.std.proofs.lemmas.Option.{slice_get_within, none-some}
use Rattle.class_read.proofs.SignatureLaws.{has_place}
use Rattle.class_pool.specs.Pool.{reference_of}
use Rattle.code_decode.specs.declared.code.ClassUnit.{ClassUnit}
use Rattle.link_types.specs.declared.operands.MethodId.{MethodId}
use Rattle.access_flags.specs.declared.TheConstants.{PRIVATE, STATIC, ABSTRACT}
use Rattle.access_flags.specs.Flags.{has}
use Rattle.link_rules.specs.Classes.{NamedClass, NamedMember, classes_of, methods_of, number_of_file}
use Rattle.link_rules.specs.Supers.{superclasses, superinterfaces, method_order}
use Rattle.link_rules.specs.Members.{Declared, declared, declared_at, first_some, or_first, is_member, is_virtual, selected, signature_of, method_id}
use Rattle.link_rules.specs.Methods.{method_named, implemented, selection_start, select_member, select_virtual}
use Rattle.link_rules.specs.Names.{ProgramNames, program_names}
use Rattle.link_rules.specs.LinkRules.{link_rules, abstract_methods, IsImplemented}
use Rattle.link_rules.specs.Laws.{IsSelected, Implements, ObjectsHaveMethods, ObjectsSelectMethods}
use Rattle.link_rules.proofs.Lists.{Found, found_at, contains_none, contains_cases, contains_filter, contains_flat_map, contains_at}
use Rattle.link_rules.proofs.Looked.{selected_fits}
use Rattle.link_rules.proofs.Numbers.{class_count_is}

-- ---- what is declared is found

declared_there : (members : ℕ → List NamedMember) (test : NamedMember → Bool) (c i : ℕ) (m : NamedMember) → slice_get (members c) i ≡ Some m → test m ≡ true → (d : Declared) × (declared members test c ≡ Some d)
declared_there members test c i m at passes =
    let p : (j : ℕ) × (position_from test 0 (members c) ≡ Some j) = has_place test 0 (members c) i m at passes in
    let f : Found test (members c) p.0 = found_at test (members c) p.0 p.1 in (
      record { class = c; place = p.0; member = f.item },
      ap (option_and_then (declared_at (members c) c)) p.1 ∙ ap (option_map (λ n. record { class = c; place = p.0; member = n })) f.there,
    )

first_some_there : {A B : Type 0} (f : A → Option B) (xs : List A) (x : A) (y : B) → Contains xs x → f x ≡ Some y → (z : B) × (first_some f xs ≡ Some z)
first_some_there f [] x y h e = absurd (contains_none x h)
first_some_there {A} {B} f (w ∷ xs) x y h e = go (f w) refl (first_some_there f xs x y)
  where
    go : (o : Option B) → f w ≡ o → (Contains xs x → f x ≡ Some y → (z : B) × (first_some f xs ≡ Some z)) → (z : B) × (or_first o (first_some f xs) ≡ Some z)
    go (Some z) is later = (z, refl)
    go None is later = elim (contains_cases w xs x h) [
      | inl same ↦ absurd (none-some y (sym is ∙ ap f same ∙ e))
      | inr c ↦ later c e
    ]

selected_there : (cs : List NamedClass) (c : ℕ) (id : MethodId) (m : NamedMember) → Contains (superclasses cs c) id.class → method_named cs id ≡ Some m → is_virtual m ≡ true → (d : Declared) × (selected cs c (signature_of m) ≡ Some d)
selected_there cs c id m above there virtual =
    let test : NamedMember → Bool = λ n. is_member (signature_of m) n && is_virtual n in
    let itself : (text : List ℕ) → bytes_eq text text ≡ true = λ text. (bytes_eq-Decides text text).1 refl in
    let passes : test m ≡ true =
    and_from (is_member (signature_of m) m) (is_virtual m) (and_from (bytes_eq m.name m.name) (bytes_eq m.descriptor m.descriptor) (itself m.name) (itself m.descriptor)) virtual in
    let g : (d : Declared) × (declared (methods_of cs) test id.class ≡ Some d) = declared_there (methods_of cs) test id.class id.method m there passes in
    first_some_there (declared (methods_of cs) test) (superclasses cs c) id.class g.0 above g.1

module _ (us : List ClassUnit) (hold : (link_rules us).Hold) where
  -- selection in a class of a file begins at the class
  starts : (k : ℕ) (u : ClassUnit) → slice_get us k ≡ Some u → selection_start (program_names us) (number_of_file k) ≡ number_of_file k
  starts k u at =
      let count : length (classes_of us) ≡ 28 + length us = class_count_is us in
      let lt : k < length us = slice_get_within us k u at in
      let low : nat_le (number_of_file k) (length (classes_of us)) ≡ true = le-leb (number_of_file k) (length (classes_of us)) (omega arith) in
      let c : ℕ = number_of_file k in
      ap (λ b. option_map_or (λ _. 1) (cond b None (slice_get (program_names us).arrays (c - suc (length (classes_of us))))) c) low

  -- the selected method isn't abstract
  is_implemented : (k : ℕ) (u : ClassUnit) → slice_get us k ≡ Some u → has u.file.flags ABSTRACT ≡ false → (m : NamedMember)
      → Contains (flat_map (methods_of (classes_of us)) (method_order (classes_of us) (number_of_file k))) m → has m.flags ABSTRACT ≡ true
      → IsSomeAnd (selected (classes_of us) (number_of_file k) (signature_of m)) (λ d. has d.member.flags ABSTRACT ≡ false)
  is_implemented k u at concrete m there is_abstract =
      let all : All (IsImplemented (classes_of us) k) (abstract_methods (classes_of us) k (method_order (classes_of us) (number_of_file k))) =
      (hold.1.1.1.1.0 k u at).0 concrete in
      All-contains (IsImplemented (classes_of us) k) (abstract_methods (classes_of us) k (method_order (classes_of us) (number_of_file k))) m all
      (contains_filter (λ (n : NamedMember). has n.flags ABSTRACT) (flat_map (methods_of (classes_of us)) (method_order (classes_of us) (number_of_file k))) m there is_abstract)

  answers : (c : ℕ) (m : NamedMember) (o : Option Declared) → selected (classes_of us) c (signature_of m) ≡ o → IsSomeAnd o (λ d. has d.member.flags ABSTRACT ≡ false)
      → IsSomeAnd (option_map method_id (implemented o)) (Implements (classes_of us) m)
  answers c m None e h = absurd h
  answers c m (Some d) e h =
      let f : IsSelected (classes_of us) c (signature_of m) d = selected_fits (classes_of us) c (signature_of m) d e in
      let mine : Implements (classes_of us) m (method_id d) =
      subst (λ o. IsSomeAnd o (λ n. (has n.flags ABSTRACT ≡ false) × (n.name ≡ m.name) × (n.descriptor ≡ m.descriptor))) (sym f.there) (h, f.name, f.descriptor) in
      subst (λ b. IsSomeAnd (option_map method_id (cond b None (Some d))) (Implements (classes_of us) m)) (sym h) mine

  -- a call of a method that isn't private executes what is selected
  selects : (k : ℕ) (u : ClassUnit) (id : MethodId) (m : NamedMember) → slice_get us k ≡ Some u → method_named (classes_of us) id ≡ Some m → has m.flags PRIVATE ≡ false
      → IsSomeAnd (selected (classes_of us) (number_of_file k) (signature_of m)) (λ d. has d.member.flags ABSTRACT ≡ false)
      → IsSomeAnd (select_virtual (program_names us) (number_of_file k) id) (Implements (classes_of us) m)
  selects k u id m at there not_private found =
      let cs : List NamedClass = classes_of us in
      let p : ProgramNames = program_names us in
      let c : ℕ = number_of_file k in
      let answer : IsSomeAnd (option_map method_id (implemented (selected cs c (signature_of m)))) (Implements cs m) = answers c m (selected cs c (signature_of m)) refl found in
      let from_start : IsSomeAnd (option_map method_id (implemented (selected cs (selection_start p c) (signature_of m)))) (Implements cs m) =
      subst (λ s. IsSomeAnd (option_map method_id (implemented (selected cs s (signature_of m)))) (Implements cs m)) (sym (starts k u at)) answer in
      let by_member : IsSomeAnd (select_member p c id m) (Implements cs m) =
      subst (λ b. IsSomeAnd (cond b (Some id) (option_map method_id (implemented (selected cs (selection_start p c) (signature_of m))))) (Implements cs m)) (sym not_private) from_start in
      subst (λ o. IsSomeAnd (option_and_then (select_member p c id) o) (Implements cs m)) (sym there) by_member

  -- a method that isn't abstract is found where one is declared that is neither static nor private
  is_selected : (k : ℕ) (u : ClassUnit) (id : MethodId) (m : NamedMember) → slice_get us k ≡ Some u → has u.file.flags ABSTRACT ≡ false
      → Contains (superclasses (classes_of us) (number_of_file k)) id.class → method_named (classes_of us) id ≡ Some m → is_virtual m ≡ true
      → IsSomeAnd (selected (classes_of us) (number_of_file k) (signature_of m)) (λ d. has d.member.flags ABSTRACT ≡ false)
  is_selected k u id m at concrete above there virtual = go (selected_there (classes_of us) (number_of_file k) id m above there virtual)
    where
      go : (d : Declared) × (selected (classes_of us) (number_of_file k) (signature_of m) ≡ Some d) → IsSomeAnd (selected (classes_of us) (number_of_file k) (signature_of m)) (λ d. has d.member.flags ABSTRACT ≡ false)
      go g = by_flag (has g.0.member.flags ABSTRACT) refl
        where
          f : IsSelected (classes_of us) (number_of_file k) (signature_of m) g.0
          f = selected_fits (classes_of us) (number_of_file k) (signature_of m) g.0 g.1

          by_flag : (b : Bool) → has g.0.member.flags ABSTRACT ≡ b → IsSomeAnd (selected (classes_of us) (number_of_file k) (signature_of m)) (λ d. has d.member.flags ABSTRACT ≡ false)
          by_flag false e = subst (λ o. IsSomeAnd o (λ d. has d.member.flags ABSTRACT ≡ false)) (sym g.1) e
          by_flag true e =
              let listed : Contains (method_order (classes_of us) (number_of_file k)) g.0.class =
              Contains-append_left (superclasses (classes_of us) (number_of_file k)) (flat_map (superinterfaces (classes_of us)) (superclasses (classes_of us) (number_of_file k))) g.0.class f.above in
              let member : Contains (flat_map (methods_of (classes_of us)) (method_order (classes_of us) (number_of_file k))) g.0.member =
              contains_flat_map (methods_of (classes_of us)) (method_order (classes_of us) (number_of_file k)) g.0.class g.0.member listed (contains_at (methods_of (classes_of us) g.0.class) g.0.place g.0.member f.there) in
              let found : IsSomeAnd (selected (classes_of us) (number_of_file k) (signature_of g.0.member)) (λ d. has d.member.flags ABSTRACT ≡ false) =
              is_implemented k u at concrete g.0.member member e in
              let same : signature_of g.0.member ≡ signature_of m = ap₂ (reference_of []) f.name f.descriptor in
              subst (λ r. IsSomeAnd (selected (classes_of us) (number_of_file k) r) (λ d. has d.member.flags ABSTRACT ≡ false)) same found

pub have_methods : (us : List ClassUnit) → (link_rules us).Hold → ObjectsHaveMethods us
have_methods us hold k u id m at concrete above there is_abstract not_private =
    let cs : List NamedClass = classes_of us in
    let c : ℕ = number_of_file k in
    let member : Contains (flat_map (methods_of cs) (method_order cs c)) m =
    contains_flat_map (methods_of cs) (method_order cs c) id.class m above (contains_at (methods_of cs id.class) id.method m there) in
    selects us hold k u id m at there not_private (is_implemented us hold k u at concrete m member is_abstract)

pub select_methods : (us : List ClassUnit) → (link_rules us).Hold → ObjectsSelectMethods us
select_methods us hold k u id m at concrete above there virtual =
    selects us hold k u id m at there (or_parts (has m.flags STATIC) (has m.flags PRIVATE) (not-true (has m.flags STATIC || has m.flags PRIVATE) virtual)).1
    (is_selected us hold k u id m at concrete above there virtual)
