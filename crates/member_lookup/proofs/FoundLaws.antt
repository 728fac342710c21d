-- What look-up finds among the rows is what it finds among the classes.
use Rattle.std.proofs.Common.{◌≡◌, ◌≢◌, ℕ, ◌<◌, ◌==◌, ◌&&◌, ◌||◌, Bool, true, false, not, cond, List, [], ◌∷◌, length, filter, slice_get, codes, bytes_eq, Option, None, Some, inl, inr, refl, sym, ◌∙◌, ap}
use Rattle.std.specs.Option.{option_map, option_map_or}
use Rattle.std.proofs.lemmas.Bool.{cases_Bool, true≢false}
use Rattle.std.proofs.lemmas.Slice.Eq.{bytes_eq-Decides}
use Rattle.access_flags.specs.Flags.{has}
use Rattle.class_pool.specs.Pool.{Reference}
use Rattle.code_decode.specs.declared.code.ClassUnit.{ClassUnit}
use Rattle.class_texts.specs.Texts.{ProgramTexts}
use Rattle.text_numbers.specs.Numbers.{number_of}
use Rattle.text_numbers.proofs.NumberLaws.{number_alone}
use Rattle.link_rules.specs.Classes.{NamedClass, NamedMember, classes_of, superclass_of, fields_of, methods_of}
use Rattle.link_rules.specs.Supers.{superclasses, field_order, method_order}
use Rattle.link_rules.specs.Members.{Declared, declared, first_some, is_member, is_virtual, is_initializer, holder, found_field, found_method, selected, special}
use Rattle.link_rules.proofs.Numbers.{past_all}
use Rattle.search_orders.specs.Orders.{without_repeats, has_number, rank}
use Rattle.search_orders.proofs.OrderLaws.{has_put_all, ranked, unranked}
use Rattle.std.specs.List.{find, list_any}
use borrow.Author.Tests.{eq-eqb, ne_eqb}
use Rattle.member_table.specs.declared.table.MemberRow.{MemberRow}
use Rattle.member_table.specs.Members.{has_signature}
use Rattle.member_table.specs.Search.{first_found, of_class}
use Rattle.member_lookup.specs.declared.found.Found.{Found}
use Rattle.member_lookup.specs.declared.found.ReferenceNumbers.{ReferenceNumbers}
use Rattle.member_lookup.specs.declared.tables.Tables.{Tables}
use Rattle.member_lookup.specs.Rows.{row_of, is_virtual_row, rows_of_classes}
use Rattle.member_lookup.specs.Found.{found_of, found_row, AreNumbers, HaveNumbers, IsLookup, first_virtual, virtuals_of}
use Rattle.member_lookup.proofs.RowLaws.{row_declared, same_number, signature_is, first_is, one_is}

no_fields : (cs : List NamedClass) (c : ℕ) → length cs < c → fields_of cs c ≡ []
no_fields cs c lt = ap (λ o. option_map_or (λ (k : NamedClass). k.fields) o []) (past_all cs c lt)

pub no_methods : (cs : List NamedClass) (c : ℕ) → length cs < c → methods_of cs c ≡ []
no_methods cs c lt = ap (λ o. option_map_or (λ (k : NamedClass). k.methods) o []) (past_all cs c lt)

read : (ts : List (List ℕ)) (o : Option Declared) → option_map found_row (option_map (row_declared ts) o) ≡ option_map found_of o
read ts None = refl
read ts (Some d) = refl

pub both_filters : (p q : MemberRow → Bool) (xs : List MemberRow) → filter p (filter q xs) ≡ filter (λ x. p x && q x) xs
both_filters p q [] = refl
both_filters p q (x ∷ xs) = go (q x) (p x) (both_filters p q xs)
  where
    go : (b a : Bool) → filter p (filter q xs) ≡ filter (λ x. p x && q x) xs → filter p (cond b (x ∷ filter q xs) (filter q xs)) ≡ cond (p x && b) (x ∷ filter (λ x. p x && q x) xs) (filter (λ x. p x && q x) xs)
    go true a later = elim (p x) as (λ d. cond d (x ∷ filter p (filter q xs)) (filter p (filter q xs)) ≡ cond (d && true) (x ∷ filter (λ x. p x && q x) xs) (filter (λ x. p x && q x) xs)) [
      | true ↦ ap (λ ys. x ∷ ys) later
      | false ↦ later
    ]
    go false a later = elim (p x) as (λ d. filter p (filter q xs) ≡ cond (d && false) (x ∷ filter (λ x. p x && q x) xs) (filter (λ x. p x && q x) xs)) [ true ↦ later | false ↦ later ]

-- what invokespecial calls
module _ (cs : List NamedClass) (this : ℕ) (r : Reference) (d : Declared) (superclass : ℕ) (f : Found) (selects : Bool) where
  chooses : superclass ≡ superclass_of cs this → f ≡ found_of d
      → selects ≡ (not (is_initializer r) && (not (has f.flags 8 || has f.flags 2) && list_any (λ e. e == holder cs r) (superclasses cs superclass)))
      → cond selects (selected cs (superclass_of cs this) r) (Some d) ≡ special cs this r d
  chooses up is e =
      ap (λ b. cond b (selected cs (superclass_of cs this) r) (Some d))
      (e
      ∙ ap (λ (x : Found). not (is_initializer r) && (not (has x.flags 8 || has x.flags 2) && list_any (λ e. e == holder cs r) (superclasses cs superclass))) is
      ∙ ap (λ s. not (is_initializer r) && (is_virtual d.member && list_any (λ e. e == holder cs r) (superclasses cs s))) up)

  pub special_selects : (o : Option Found) → superclass ≡ superclass_of cs this → f ≡ found_of d
      → selects ≡ (not (is_initializer r) && (not (has f.flags 8 || has f.flags 2) && list_any (λ e. e == holder cs r) (superclasses cs superclass)))
      → selects ≡ true → o ≡ option_map found_of (selected cs superclass r) → o ≡ option_map found_of (special cs this r d)
  special_selects o up is e chosen its =
      its ∙ ap (λ s. option_map found_of (selected cs s r)) up
      ∙ ap (option_map found_of) (sym (ap (λ b. cond b (selected cs (superclass_of cs this) r) (Some d)) chosen) ∙ chooses up is e)

  pub special_stays : superclass ≡ superclass_of cs this → f ≡ found_of d
      → selects ≡ (not (is_initializer r) && (not (has f.flags 8 || has f.flags 2) && list_any (λ e. e == holder cs r) (superclasses cs superclass)))
      → selects ≡ false → Some f ≡ option_map found_of (special cs this r d)
  special_stays up is e stays =
      ap (λ x. Some x) is ∙ ap (option_map found_of) (sym (ap (λ b. cond b (selected cs (superclass_of cs this) r) (Some d)) stays) ∙ chooses up is e)

module _ (us : List ClassUnit) (p : ProgramTexts) (hs : List ℕ) (init : ℕ) (t : Tables) (n : ReferenceNumbers) (r : Reference)
    (is : IsLookup us p hs init t) (are : AreNumbers p n r) where
  its_holder : n.holder ≡ holder (classes_of us) r
  its_holder = ap (λ (x : ReferenceNumbers). x.holder) are.are ∙ ap (λ u. holder (classes_of u) r) is.units

  signed : (c i : ℕ) (m : NamedMember) → has_signature n.name n.descriptor (row_of p.texts c i m) ≡ is_member r m
  signed c i m =
      ap (λ (x : ReferenceNumbers). has_signature x.name x.descriptor (row_of p.texts c i m)) are.are ∙ signature_is p.texts r c i m are.name are.descriptor

  same_bytes : (xs ys : List ℕ) → bytes_eq xs ys ≡ bytes_eq ys xs
  same_bytes xs ys = elim (cases_Bool (bytes_eq ys xs)) [
    | inl same ↦ (bytes_eq-Decides xs ys).1 (sym ((bytes_eq-Decides ys xs).0 same)) ∙ sym same
    | inr other ↦ elim (cases_Bool (bytes_eq xs ys)) [
      | inl same ↦ absurd (true≢false (sym ((bytes_eq-Decides ys xs).1 (sym ((bytes_eq-Decides xs ys).0 same))) ∙ other))
      | inr apart ↦ apart ∙ sym other
    ]
  ]

  pub constructs_is : (init == n.name) ≡ is_initializer r
  constructs_is =
      ap (λ (x : ReferenceNumbers). init == x.name) are.are ∙ ap (λ k. k == number_of p.texts r.name) is.initializer_is
      ∙ same_number p.texts (codes "<init>") r.name are.name ∙ same_bytes (codes "<init>") r.name

  -- whether a class and its superclasses are named
  pub named_is : (c : ℕ) (order : List ℕ) → order ≡ without_repeats (superclasses (classes_of us) c)
      → not (rank order n.holder == 0) ≡ list_any (λ d. d == holder (classes_of p.units) r) (superclasses (classes_of p.units) c)
  named_is c order through =
      ranked_is order n.holder
      ∙ ap (λ xs. has_number xs n.holder) through
      ∙ has_put_all [] (superclasses (classes_of us) c) n.holder
      ∙ ap (has_number (superclasses (classes_of us) c)) its_holder
      ∙ ap (λ u. has_number (superclasses (classes_of u) c) (holder (classes_of u) r)) (sym is.units)
    where
      ranked_is : (xs : List ℕ) (x : ℕ) → not (rank xs x == 0) ≡ has_number xs x
      ranked_is xs x = elim (cases_Bool (has_number xs x)) [
        | inl there ↦ ap not (ne_eqb (rank xs x) 0 (ranked xs x there)) ∙ sym there
        | inr none ↦ ap not (eq-eqb (rank xs x) 0 (unranked xs x none)) ∙ sym none
      ]

  module _ (f : Option Found) (o : Option MemberRow) (members : List MemberRow) (its : f ≡ option_map found_row o) where
    pub field_is : (order : List ℕ) → o ≡ first_found (of_class members) order → members ≡ filter (has_signature n.name n.descriptor) t.fields
        → order ≡ without_repeats (field_order (classes_of us) n.holder) → f ≡ option_map found_of (found_field (classes_of p.units) r)
    field_is order found mine through =
        its
        ∙ ap (option_map found_row) (found
        ∙ ap (λ ms. first_found (of_class ms) order) (mine ∙ ap (filter (has_signature n.name n.descriptor)) is.tables.fields_are)
        ∙ ap (first_found (of_class (filter (has_signature n.name n.descriptor) (rows_of_classes p.texts (fields_of (classes_of us)) (length (classes_of us)))))) through
        ∙ first_is p.texts (fields_of (classes_of us)) (length (classes_of us)) (has_signature n.name n.descriptor) (is_member r) (field_order (classes_of us) n.holder) refl (no_fields (classes_of us)) signed)
        ∙ read p.texts (first_some (declared (fields_of (classes_of us)) (is_member r)) (field_order (classes_of us) n.holder))
        ∙ ap (λ h. option_map found_of (first_some (declared (fields_of (classes_of us)) (is_member r)) (field_order (classes_of us) h))) its_holder
        ∙ ap (λ u. option_map found_of (found_field (classes_of u) r)) (sym is.units)

    -- a constructor
    pub constructor_is : init ≡ n.name → o ≡ of_class members n.holder → members ≡ filter (has_signature n.name n.descriptor) t.methods
        → f ≡ option_map found_of (found_method (classes_of p.units) r)
    constructor_is constructs found mine =
        its
        ∙ ap (option_map found_row) (found
        ∙ ap (λ ms. of_class ms n.holder) (mine ∙ ap (filter (has_signature n.name n.descriptor)) is.tables.methods_are)
        ∙ one_is p.texts (methods_of (classes_of us)) (length (classes_of us)) (has_signature n.name n.descriptor) (is_member r) n.holder refl (no_methods (classes_of us)) signed)
        ∙ read p.texts (declared (methods_of (classes_of us)) (is_member r) n.holder)
        ∙ ap (λ h. option_map found_of (declared (methods_of (classes_of us)) (is_member r) h)) its_holder
        ∙ sym (ap (λ b. option_map found_of (cond b (declared (methods_of (classes_of us)) (is_member r) (holder (classes_of us) r)) (first_some (declared (methods_of (classes_of us)) (is_member r)) (method_order (classes_of us) (holder (classes_of us) r))))) named)
        ∙ ap (λ u. option_map found_of (found_method (classes_of u) r)) (sym is.units)
      where
        named : is_initializer r ≡ true
        named =
            let same : number_of p.texts (codes "<init>") ≡ number_of p.texts r.name = sym is.initializer_is ∙ constructs ∙ ap (λ (x : ReferenceNumbers). x.name) are.are in
            (bytes_eq-Decides r.name (codes "<init>")).1 (sym (number_alone p.texts r.name (codes "<init>") are.name same))

    pub method_is : (order : List ℕ) → init ≢ n.name → o ≡ first_found (of_class members) order → members ≡ filter (has_signature n.name n.descriptor) t.methods
        → order ≡ without_repeats (method_order (classes_of us) n.holder) → f ≡ option_map found_of (found_method (classes_of p.units) r)
    method_is order plain found mine through =
        its
        ∙ ap (option_map found_row) (found
        ∙ ap (λ ms. first_found (of_class ms) order) (mine ∙ ap (filter (has_signature n.name n.descriptor)) is.tables.methods_are)
        ∙ ap (first_found (of_class (filter (has_signature n.name n.descriptor) (rows_of_classes p.texts (methods_of (classes_of us)) (length (classes_of us)))))) through
        ∙ first_is p.texts (methods_of (classes_of us)) (length (classes_of us)) (has_signature n.name n.descriptor) (is_member r) (method_order (classes_of us) n.holder) refl (no_methods (classes_of us)) signed)
        ∙ read p.texts (first_some (declared (methods_of (classes_of us)) (is_member r)) (method_order (classes_of us) n.holder))
        ∙ ap (λ h. option_map found_of (first_some (declared (methods_of (classes_of us)) (is_member r)) (method_order (classes_of us) h))) its_holder
        ∙ sym (ap (λ b. option_map found_of (cond b (declared (methods_of (classes_of us)) (is_member r) (holder (classes_of us) r)) (first_some (declared (methods_of (classes_of us)) (is_member r)) (method_order (classes_of us) (holder (classes_of us) r))))) named)
        ∙ ap (λ u. option_map found_of (found_method (classes_of u) r)) (sym is.units)
      where
        named : is_initializer r ≡ false
        named = elim (cases_Bool (bytes_eq r.name (codes "<init>"))) [
          | inr other ↦ other
          | inl same ↦ absurd (plain (is.initializer_is ∙ ap (number_of p.texts) (sym ((bytes_eq-Decides r.name (codes "<init>")).0 same)) ∙ sym (ap (λ (x : ReferenceNumbers). x.name) are.are)))
        ]

-- the numbers of a reference are those of its name and descriptor
pub have_numbers : (p : ProgramTexts) (n : ReferenceNumbers) (r : Reference) → AreNumbers p n r → HaveNumbers p n.name n.descriptor r
have_numbers p n r are = record {
  name_is = ap (λ (x : ReferenceNumbers). x.name) are.are;
  descriptor_is = ap (λ (x : ReferenceNumbers). x.descriptor) are.are;
  name_has = are.name;
  descriptor_has = are.descriptor;
}

module _ (us : List ClassUnit) (p : ProgramTexts) (hs : List ℕ) (init : ℕ) (t : Tables) (is : IsLookup us p hs init t)
    (name descriptor : ℕ) (r : Reference) (have : HaveNumbers p name descriptor r) where
  pub signed_by : (c i : ℕ) (m : NamedMember) → has_signature name descriptor (row_of p.texts c i m) ≡ is_member r m
  signed_by c i m =
      ap (λ k. has_signature k descriptor (row_of p.texts c i m)) have.name_is
      ∙ ap (λ k. has_signature (number_of p.texts r.name) k (row_of p.texts c i m)) have.descriptor_is
      ∙ signature_is p.texts r c i m have.name_has have.descriptor_has

  pub selected_is : (f : Option Found) (o : Option MemberRow) (members : List MemberRow) (c : ℕ) (order : List ℕ) → f ≡ option_map found_row o → o ≡ first_found (of_class members) order
      → members ≡ virtuals_of p name descriptor → order ≡ without_repeats (superclasses (classes_of us) c) → f ≡ option_map found_of (selected (classes_of p.units) c r)
  selected_is f o members c order its found mine through =
      its
      ∙ ap (option_map found_row) (found
      ∙ ap (λ ms. first_found (of_class ms) order) (mine ∙ ap (λ u. filter (λ x. has_signature name descriptor x && is_virtual_row x) (rows_of_classes p.texts (methods_of (classes_of u)) (length (classes_of u)))) is.units)
      ∙ ap (first_found (of_class (filter (λ x. has_signature name descriptor x && is_virtual_row x) (rows_of_classes p.texts (methods_of (classes_of us)) (length (classes_of us)))))) through
      ∙ first_is p.texts (methods_of (classes_of us)) (length (classes_of us)) (λ x. has_signature name descriptor x && is_virtual_row x) (λ m. is_member r m && is_virtual m) (superclasses (classes_of us) c) refl (no_methods (classes_of us))
      (λ d i m. ap (λ b. b && is_virtual m) (signed_by d i m)))
      ∙ read p.texts (first_some (declared (methods_of (classes_of us)) (λ m. is_member r m && is_virtual m)) (superclasses (classes_of us) c))
      ∙ ap (λ u. option_map found_of (selected (classes_of u) c r)) (sym is.units)

-- ---- the first of all methods

first_filtered : (q : MemberRow → Bool) (xs : List MemberRow) → slice_get (filter q xs) 0 ≡ find q xs
first_filtered q [] = refl
first_filtered q (x ∷ xs) = elim (q x) as (λ b. slice_get (cond b (x ∷ filter q xs) (filter q xs)) 0 ≡ cond b (Some x) (find q xs)) [
  | true ↦ refl
  | false ↦ first_filtered q xs
]

pub first_is_virtual : (p : ProgramTexts) (name descriptor : ℕ) → slice_get (virtuals_of p name descriptor) 0 ≡ first_virtual p name descriptor
first_is_virtual p name descriptor = first_filtered (λ x. has_signature name descriptor x && is_virtual_row x) (rows_of_classes p.texts (methods_of (classes_of p.units)) (length (classes_of p.units)))

-- the methods of a signature among those that are neither static nor private
pub virtuals_are : (us : List ClassUnit) (p : ProgramTexts) (hs : List ℕ) (init : ℕ) (t : Tables) → IsLookup us p hs init t → (name descriptor : ℕ) (members : List MemberRow)
    → members ≡ filter (has_signature name descriptor) t.virtuals → members ≡ virtuals_of p name descriptor
virtuals_are us p hs init t is name descriptor members mine =
    mine ∙ ap (filter (has_signature name descriptor)) is.tables.virtuals_are
    ∙ both_filters (has_signature name descriptor) is_virtual_row (rows_of_classes p.texts (methods_of (classes_of us)) (length (classes_of us)))
    ∙ ap (λ u. filter (λ x. has_signature name descriptor x && is_virtual_row x) (rows_of_classes p.texts (methods_of (classes_of u)) (length (classes_of u)))) (sym is.units)
