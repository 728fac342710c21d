-- Signatures of methods have numbers of their own.
use Rattle.std.proofs.Common.{◌≡◌, ◌≢◌, ◌⊎◌, ℕ, zero, suc, ◌+◌, ◌-◌, ◌<◌, ◌≤◌, ◌==◌, ◌&&◌, Bool, true, false, cond, List, [], ◌∷◌, length, flat_map, slice_get, Contains, Option, None, Some, inl, inr, refl, sym, ◌∙◌, ap, ap₂, subst, arith}
use Rattle.std.specs.List.{find, range_with_len}
use Rattle.std.specs.Option.{option_map, option_map_or}
use borrow.Author.Tests.{eqb-true, eq-eqb, ne_eqb}
use Rattle.std.proofs.lemmas.Bool.{cases_Bool, cases_lt, true≢false, and_parts, and_from}
use Rattle.std.proofs.lemmas.List.Elements.{Contains-append_cases}
use Rattle.std.proofs.lemmas.List.FromFn.{length-range_with_len, get_or-range_with_len}
use Rattle.std.proofs.lemmas.Option.{same_Some, none-some, slice_get-get_or}
use Rattle.class_texts.specs.Texts.{ProgramTexts}
use Rattle.link_types.specs.declared.operands.MethodId.{MethodId}
use Rattle.link_rules.specs.Classes.{NamedMember, classes_of, methods_of}
use Rattle.link_rules.proofs.Lists.{contains_none, contains_cases, contains_head, contains_tail, contains_at, contains_flat_map}
use Rattle.member_table.specs.declared.table.MemberRow.{MemberRow}
use Rattle.member_table.specs.Members.{has_signature}
use Rattle.member_lookup.specs.Found.{first_virtual}
use Rattle.member_lookup.specs.Rows.{row_of, rows_from, rows_of_classes, is_virtual_row, id_of_row}
use Rattle.member_lookup.proofs.FoundLaws.{no_methods}
use Rattle.member_lookup.proofs.PlaceLaws.{row_at}
use Rattle.method_selection.specs.Entries.{number_of_row, signature_number}
use Rattle.method_selection.specs.Numbers.{id_numbered, AreMethodNumbers, rows_of_class}

-- ---- what is found in lists

find_there : {X : Type 0} (q : X → Bool) (xs : List X) (x : X) → Contains xs x → q x ≡ true → (y : X) × (find q xs ≡ Some y)
find_there q [] x h passes = absurd (contains_none x h)
find_there {X} q (z ∷ xs) x h passes = go (q z) refl (contains_cases z xs x h) (find_there q xs x)
  where
    go : (b : Bool) → q z ≡ b → (z ≡ x) ⊎ Contains xs x → (Contains xs x → q x ≡ true → (y : X) × (find q xs ≡ Some y)) → (y : X) × (cond b (Some z) (find q xs) ≡ Some y)
    go true is h later = (z, refl)
    go false is h later = elim h [ inl same ↦ absurd (true≢false (sym (ap q same ∙ passes) ∙ is)) | inr behind ↦ later behind passes ]

found_there : {X : Type 0} (q : X → Bool) (xs : List X) (y : X) → find q xs ≡ Some y → Contains xs y × (q y ≡ true)
found_there q [] y e = absurd (none-some y e)
found_there {X} q (x ∷ xs) y e = go (q x) refl e (found_there q xs y)
  where
    go : (b : Bool) → q x ≡ b → cond b (Some x) (find q xs) ≡ Some y → (find q xs ≡ Some y → Contains xs y × (q y ≡ true)) → Contains (x ∷ xs) y × (q y ≡ true)
    go true is e later = (let same : x ≡ y = same_Some x y e in (subst (Contains (x ∷ xs)) same (contains_head x xs), ap q (sym same) ∙ is))
    go false is e later = (let h = later e in (contains_tail x xs y h.0, h.1))

in_one : {X : Type 0} (g : ℕ → List X) (cs : List ℕ) (y : X) → Contains (flat_map g cs) y → (c : ℕ) × Contains (g c) y
in_one g [] y h = absurd (contains_none y h)
in_one {X} g (c ∷ cs) y h = elim (Contains-append_cases (g c) (flat_map g cs) y h) [ inl here ↦ (c, here) | inr later ↦ in_one g cs y later ]

-- ---- the rows of classes are identified by class and place

pub in_place : (p : ProgramTexts) (c i : ℕ) (x : MemberRow) → slice_get (rows_of_class p c) i ≡ Some x → (x.class ≡ c) × (x.place ≡ i)
in_place p c i x at = go (slice_get (methods_of (classes_of p.units) c) i) (sym (row_at p.texts (methods_of (classes_of p.units)) c i) ∙ at)
  where
    go : (o : Option NamedMember) → option_map (row_of p.texts c i) o ≡ Some x → (x.class ≡ c) × (x.place ≡ i)
    go None e = absurd (none-some x e)
    go (Some m) e =
        let same : row_of p.texts c i m ≡ x = same_Some (row_of p.texts c i m) x e in
        (sym (ap (λ (r : MemberRow). r.class) same), sym (ap (λ (r : MemberRow). r.place) same))

-- a row is where it says
IsPlaced : ProgramTexts → MemberRow → Type 0
IsPlaced p x = slice_get (rows_of_class p x.class) x.place ≡ Some x

placed : (p : ProgramTexts) (x : MemberRow) → Contains (rows_of_classes p.texts (methods_of (classes_of p.units)) (length (classes_of p.units))) x → IsPlaced p x
unfolding IsPlaced
placed p x h =
    let one : (c : ℕ) × Contains (rows_of_class p c) x = in_one (rows_of_class p) (range_with_len 1 (length (classes_of p.units))) x h in
    let at : slice_get (rows_of_class p one.0) one.1.0 ≡ Some x = slice_get-get_or (rows_of_class p one.0) one.1.0 x one.1.1 ∙ ap (λ y. Some y) one.1.2 in
    let is : (x.class ≡ one.0) × (x.place ≡ one.1.0) = in_place p one.0 one.1.0 x at in
    ap₂ (λ c i. slice_get (rows_of_class p c) i) is.0 is.1 ∙ at

same_place : (p : ProgramTexts) (x y : MemberRow) → IsPlaced p x → IsPlaced p y → id_of_row x ≡ id_of_row y → x ≡ y
unfolding IsPlaced
same_place p x y there at same =
    same_Some x y (sym there ∙ ap (λ (id : MethodId). slice_get (rows_of_class p id.class) id.method) same ∙ at)

in_range : (n c : ℕ) → c ≢ 0 → c ≤ n → Contains (range_with_len 1 n) c
in_range n c some le =
    let lt : c - 1 < n = omega (arith, some) in
    let sum : 1 + (c - 1) ≡ c = omega (arith, some) in
    (c - 1, omega (arith, length-range_with_len 1 n), get_or-range_with_len 1 n (c - 1) c lt ∙ sum)

-- the row of a method is among those of all classes
among_all : (p : ProgramTexts) (c i : ℕ) (x : MemberRow) → slice_get (rows_of_class p c) i ≡ Some x → Contains (rows_of_classes p.texts (methods_of (classes_of p.units)) (length (classes_of p.units))) x
among_all p zero i x at = absurd (none-some x at)
among_all p (suc c) i x at = elim (cases_lt (length (classes_of p.units)) (suc c)) [
  | inl past ↦ absurd (none-some x (sym (ap (λ ms. slice_get (rows_from p.texts (suc c) 0 ms) i) (no_methods (classes_of p.units) (suc c) past)) ∙ at))
  | inr inside ↦
      contains_flat_map (rows_of_class p) (range_with_len 1 (length (classes_of p.units))) (suc c) x
      (in_range (length (classes_of p.units)) (suc c) (λ e. omega (arith, e)) inside)
      (contains_at (rows_of_class p (suc c)) i x at)
]

-- ---- signatures

pub signed : (name descriptor : ℕ) (m : MemberRow) → has_signature name descriptor m ≡ true → (m.name ≡ name) × (m.descriptor ≡ descriptor)
signed name descriptor m e =
    let parts = and_parts (m.name == name) (m.descriptor == descriptor) e in
    (eqb-true m.name name parts.0, eqb-true m.descriptor descriptor parts.1)

signs : (name descriptor : ℕ) (m : MemberRow) → m.name ≡ name → m.descriptor ≡ descriptor → has_signature name descriptor m ≡ true
signs name descriptor m is same = and_from (m.name == name) (m.descriptor == descriptor) (eq-eqb m.name name is) (eq-eqb m.descriptor descriptor same)

-- the first method of a signature
record First (p : ProgramTexts) (name descriptor : ℕ) (y : MemberRow) : Type 0 where
  found : first_virtual p name descriptor ≡ Some y
  there : IsPlaced p y
  named : y.name ≡ name
  described : y.descriptor ≡ descriptor

is_first : (p : ProgramTexts) (name descriptor : ℕ) (y : MemberRow) → first_virtual p name descriptor ≡ Some y → First p name descriptor y
is_first p name descriptor y e =
    let all = rows_of_classes p.texts (methods_of (classes_of p.units)) (length (classes_of p.units)) in
    let h = found_there (λ m. has_signature name descriptor m && is_virtual_row m) all y e in
    let parts = and_parts (has_signature name descriptor y) (is_virtual_row y) h.1 in
    let names = signed name descriptor y parts.0 in
    record { found = e; there = placed p y h.0; named = names.0; described = names.1 }

module _ (p : ProgramTexts) (numbers : List (List ℕ)) (ids : List MethodId) (are : AreMethodNumbers p numbers ids) where
  number_is : (y : MemberRow) → IsPlaced p y → id_numbered ids (number_of_row numbers y) ≡ Some (id_of_row y)
  unfolding IsPlaced
  number_is y at = are y.class y.place y at

  -- the number of a signature that a method has is that of no other one
  other_signature : (m y : MemberRow) (name descriptor : ℕ) → First p m.name m.descriptor y → signature_number p numbers name descriptor ≡ number_of_row numbers y → has_signature name descriptor m ≡ true
  other_signature m y name descriptor first same = go (first_virtual p name descriptor) refl same
    where
      go : (o : Option MemberRow) → first_virtual p name descriptor ≡ o → option_map_or (number_of_row numbers) o 0 ≡ number_of_row numbers y → has_signature name descriptor m ≡ true
      go None is e = absurd (none-some (id_of_row y) (ap (id_numbered ids) e ∙ number_is y first.there))
      go (Some z) is e =
          let its : First p name descriptor z = is_first p name descriptor z is in
          let one : id_of_row z ≡ id_of_row y = same_Some (id_of_row z) (id_of_row y) (sym (number_is z its.there) ∙ ap (id_numbered ids) e ∙ number_is y first.there) in
          let both : z ≡ y = same_place p z y its.there first.there one in
          signs name descriptor m
          (sym first.named ∙ sym (ap (λ (x : MemberRow). x.name) both) ∙ its.named)
          (sym first.described ∙ sym (ap (λ (x : MemberRow). x.descriptor) both) ∙ its.described)

  pub signature_alone : (c i : ℕ) (m : MemberRow) → slice_get (rows_of_class p c) i ≡ Some m → is_virtual_row m ≡ true → (name descriptor : ℕ)
      → (signature_number p numbers name descriptor == signature_number p numbers m.name m.descriptor) ≡ has_signature name descriptor m
  signature_alone c i m at virtual name descriptor = elim (cases_Bool (has_signature name descriptor m)) [
    | inl same ↦
        let names = signed name descriptor m same in
        eq-eqb (signature_number p numbers name descriptor) (signature_number p numbers m.name m.descriptor) (ap₂ (signature_number p numbers) (sym names.0) (sym names.1)) ∙ sym same
    | inr other ↦
        ne_eqb (signature_number p numbers name descriptor) (signature_number p numbers m.name m.descriptor)
        (λ e. true≢false (sym (other_signature m first.0 name descriptor is (e ∙ ap (λ o. option_map_or (number_of_row numbers) o 0) first.1)) ∙ other)) ∙ sym other
  ]
    where
      passes : has_signature m.name m.descriptor m && is_virtual_row m ≡ true
      passes = and_from (has_signature m.name m.descriptor m) (is_virtual_row m) (signs m.name m.descriptor m refl refl) virtual

      first : (y : MemberRow) × (first_virtual p m.name m.descriptor ≡ Some y)
      first = find_there (λ x. has_signature m.name m.descriptor x && is_virtual_row x) (rows_of_classes p.texts (methods_of (classes_of p.units)) (length (classes_of p.units))) m (among_all p c i m at) passes

      is : First p m.name m.descriptor first.0
      is = is_first p m.name m.descriptor first.0 first.1
