-- The rows of classes, those of superclasses first.
use Rattle.std.proofs.Common.{◌≡◌, ◌≢◌, ◌⊎◌, ℕ, zero, suc, ◌+◌, ◌-◌, ◌*◌, ◌^◌, ◌<◌, ◌≤◌, ◌==◌, ◌&&◌, Bool, true, false, cond, nat_le, List, [], ◌∷◌, length, map, find, take, slice_get, Option, None, Some, inl, inr, refl, sym, ap, subst, ◌∙◌, arith}
use Rattle.std.specs.List.{range_with_len, list_all}
use Rattle.std.specs.Option.{option_map, option_map_or}
use borrow.Author.Tests.{eqb-true}
use Rattle.std.proofs.lemmas.Bool.{cases_lt, cases_eq, leb-true, le-leb, lt-leb, and_parts}
use Rattle.std.proofs.lemmas.Option.{slice_get_past, slice_get_within, slice_get_cases, same_Some, none-some}
use Rattle.builtin_world.specs.BuiltinClass.{ClassRow as LibraryRow, rows, row_numbered as library_row, shown_class}
use Rattle.builtin_world.specs.Library.{library}
use Rattle.builtin_world.specs.declared.BuiltinClass.{BuiltinClass}
use Rattle.access_flags.specs.declared.TheConstants.{STATIC}
use Rattle.access_flags.specs.Flags.{has}
use Rattle.code_decode.specs.declared.code.ClassUnit.{ClassUnit}
use Rattle.code_laws.proofs.FileLaws.{small}
use Rattle.link_rules.specs.Classes.{NamedClass, NamedMember, classes_of, class_numbered, class_number, fields_of, superclass_of, unit_numbered, number_of_file, member_of_file}
use Rattle.link_rules.specs.Layout.{is_built_in, built_in_words, added_words, own_words, instance_words, static_words, field_place}
use Rattle.link_rules.specs.Supers.{superclasses_within, PutsSupersFirst}
use Rattle.link_rules.specs.Units.{AreUnits}
use Rattle.link_rules.proofs.Numbers.{in_library, is_file, class_count_is, past_all}
use Rattle.link_rules.proofs.Upward.{up_none}
use Rattle.link_rules.proofs.Fields.{words_of_file, library_words_are, library_stays}
use Rattle.link_rules.proofs.Objects.{fields_of_file}
use Rattle.class_layout.specs.declared.row.ClassRow.{ClassRow}
use Rattle.class_layout.specs.Row.{ArePlaced, place_among}
use Rattle.class_layout.specs.Rows.{row_numbered, instance_in, place_numbered, empty_row, IsRowOf, AreRowsOf}
use Rattle.class_layout.proofs.FieldLaws.{own_few}

-- ---- what is no class

no_fields : (cs : List NamedClass) (c : ℕ) → class_numbered cs c ≡ None → fields_of cs c ≡ []
no_fields cs c none = ap (λ o. option_map_or (λ (k : NamedClass). k.fields) o []) none

no_super : (cs : List NamedClass) (c : ℕ) → class_numbered cs c ≡ None → superclass_of cs c ≡ 0
no_super cs c none = ap (λ o. option_map_or (λ (k : NamedClass). option_map_or (class_number cs) k.super 0) o 0) none

words_on : List NamedClass → List ℕ → ℕ
words_on cs xs = option_map_or built_in_words (find is_built_in xs) 0 + Rattle.std.proofs.Common.sum_by (added_words cs) xs

nothing_on : (cs : List NamedClass) (c : ℕ) → 28 < c → fields_of cs c ≡ [] → words_on cs (c ∷ []) ≡ 0
unfolding words_on
nothing_on cs c high none =
    let file : is_built_in c ≡ false = lt-leb c 28 high in
    let found : find is_built_in (c ∷ []) ≡ None = ap (λ b. cond b (Some c) None) file in
    let added : added_words cs c ≡ 0 = ap (λ b. cond b 0 (own_words false (fields_of cs c))) file ∙ ap (own_words false) none in
    let built : option_map_or built_in_words (find is_built_in (c ∷ [])) 0 ≡ 0 = ap (λ o. option_map_or built_in_words o 0) found in
    let sum : Rattle.std.proofs.Common.sum_by (added_words cs) (c ∷ []) ≡ added_words cs c + 0 = Rattle.std.proofs.lemmas.List.Sums.sum_by-cons (added_words cs) c [] in
    omega arith

alone : (cs : List NamedClass) (n c : ℕ) → c ≢ 0 → superclass_of cs c ≡ 0 → superclasses_within cs (suc n) c ≡ c ∷ []
alone cs n zero ne e = absurd (ne refl)
alone cs n (suc i) ne e = ap (λ s. suc i ∷ superclasses_within cs n s) e ∙ ap (λ xs. suc i ∷ xs) (up_none cs n)

-- what is no class has no words
pub no_words : (us : List ClassUnit) (c : ℕ) → ((c ≡ 0) ⊎ (length (classes_of us) < c)) → instance_words (classes_of us) c ≡ 0
unfolding words_on
no_words us c h = elim h [
  | inl none ↦ ap (instance_words (classes_of us)) none ∙ ap (words_on (classes_of us)) (up_none (classes_of us) (length (classes_of us)))
  | inr past ↦
      let count : length (classes_of us) ≡ 28 + length us = class_count_is us in
      let none : class_numbered (classes_of us) c ≡ None = past_all (classes_of us) c past in
      let some : c ≢ 0 = λ e. omega arith in
      let size : length (classes_of us) ≡ suc (27 + length us) = omega arith in
      ap (λ n. words_on (classes_of us) (superclasses_within (classes_of us) n c)) size
      ∙ ap (words_on (classes_of us)) (alone (classes_of us) (27 + length us) c some (no_super (classes_of us) c none))
      ∙ nothing_on (classes_of us) c (omega arith) (no_fields (classes_of us) c none)
]

pub no_places : (cs : List NamedClass) (c i : ℕ) → class_numbered cs c ≡ None → place_numbered cs c i ≡ 0
no_places cs c i none = ap (λ (fs : List NamedMember). option_map_or (field_place cs c i) (slice_get fs i) 0) (no_fields cs c none)

pub no_statics : (cs : List NamedClass) (c : ℕ) → class_numbered cs c ≡ None → static_words cs c ≡ 0
no_statics cs c none = go (is_built_in c)
  where
    go : (b : Bool) → cond b 0 (own_words true (fields_of cs c)) ≡ 0
    go true = refl
    go false = ap (own_words true) (no_fields cs c none)

-- ---- built-in classes

library_words : map (λ c. option_map_or (λ (r : LibraryRow). r.words) (library_row c) 0 == built_in_words c && nat_le (built_in_words c) 3) (range_with_len 0 29) ≡ map (λ _. true) (range_with_len 0 29)
unfolding rows library
library_words = refl

words_of_library : (c : ℕ) → c ≤ 28 → (option_map_or (λ (r : LibraryRow). r.words) (library_row c) 0 ≡ built_in_words c) × (built_in_words c ≤ 3)
words_of_library c low =
    let both = and_parts (option_map_or (λ (r : LibraryRow). r.words) (library_row c) 0 == built_in_words c) (nat_le (built_in_words c) 3)
    (in_library 0 29 (λ c. option_map_or (λ (r : LibraryRow). r.words) (library_row c) 0 == built_in_words c && nat_le (built_in_words c) 3) (λ _. true) library_words c (omega arith) (omega arith)) in
    (eqb-true (option_map_or (λ (r : LibraryRow). r.words) (library_row c) 0) (built_in_words c) both.0, leb-true (built_in_words c) 3 both.1)

library_fields : (us : List ClassUnit) → map (λ c. nat_le (length (fields_of (classes_of us) c)) 1 && list_all (λ (f : NamedMember). has f.flags STATIC) (fields_of (classes_of us) c)) (range_with_len 0 29) ≡ map (λ _. true) (range_with_len 0 29)
unfolding library
library_fields us = refl

first_place : (cs : List NamedClass) (c i : ℕ) (fs : List NamedMember) → fields_of cs c ≡ fs → length fs ≤ 1 → list_all (λ (f : NamedMember). has f.flags STATIC) fs ≡ true → option_map_or (field_place cs c i) (slice_get fs i) 0 ≡ 0
first_place cs c i [] are few static = refl
first_place cs c zero (f ∷ fs) are few static =
    let kind : has f.flags STATIC ≡ true = (and_parts (has f.flags STATIC) (list_all (λ (f : NamedMember). has f.flags STATIC) fs) static).0 in
    ap (λ b. cond b (own_words true (take 0 (fields_of cs c))) (instance_words cs (superclass_of cs c) + own_words false (take 0 (fields_of cs c)))) kind
first_place cs c (suc i) (f ∷ fs) are few static = ap (λ o. option_map_or (field_place cs c (suc i)) o 0) (slice_get_past fs i (omega arith))

library_places : (us : List ClassUnit) (c i : ℕ) → c ≤ 28 → place_numbered (classes_of us) c i ≡ 0
library_places us c i low =
    let both = and_parts (nat_le (length (fields_of (classes_of us) c)) 1) (list_all (λ (f : NamedMember). has f.flags STATIC) (fields_of (classes_of us) c))
    (in_library 0 29 (λ c. nat_le (length (fields_of (classes_of us) c)) 1 && list_all (λ (f : NamedMember). has f.flags STATIC) (fields_of (classes_of us) c)) (λ _. true) (library_fields us) c (omega arith) (omega arith)) in
    first_place (classes_of us) c i (fields_of (classes_of us) c) refl (leb-true (length (fields_of (classes_of us) c)) 1 both.0) both.1

module _ (us : List ClassUnit) (order : List ℕ) (first : PutsSupersFirst (classes_of us) order) where
  library_instances : (c : ℕ) → c ≢ 0 → c ≤ 28 → instance_words (classes_of us) c ≡ built_in_words c
  library_instances c some low =
      library_words_are (classes_of us) order first (library_stays us) c some (let count = class_count_is us in omega arith) low

  pub library_class_row : (c : ℕ) (b : BuiltinClass) (row : ClassRow) → (0 < c) × (c ≤ 28) → Some (shown_class b) ≡ library_row c
      → row ≡ record { places = []; static_words = 0; instance_words = b.words } → IsRowOf (classes_of us) c row
  library_class_row c b row (some, low) shown is =
      let words : b.words ≡ built_in_words c = ap (λ o. option_map_or (λ (r : LibraryRow). r.words) o 0) shown ∙ (words_of_library c low).0 in
      subst (IsRowOf (classes_of us) c) (sym is) (record {
        instances = words ∙ sym (library_instances c (λ e. omega arith) low);
        statics = sym (ap (λ x. cond x 0 (own_words true (fields_of (classes_of us) c))) (le-leb c 28 low));
        places = λ i. sym (library_places us c i low);
      })

  pub file_class_row : (c : ℕ) (u : ClassUnit) (inherited : ℕ) (row : ClassRow) → 28 < c → unit_numbered us c ≡ Some u
      → inherited ≡ instance_words (classes_of us) (superclass_of (classes_of us) c)
      → ArePlaced (map (member_of_file u.file.pool) u.file.fields) inherited row → IsRowOf (classes_of us) c row
  file_class_row c u inherited row high at above are =
      let there : slice_get us (c - 29) ≡ Some u = sym (ap (λ b. cond b None (slice_get us (c - 29))) (lt-leb c 28 high)) ∙ at in
      let lt : c - 29 < length us = slice_get_within us (c - 29) u there in
      let same : number_of_file (c - 29) ≡ c = omega arith in
      let within : c ≤ length (classes_of us) = (let count = class_count_is us in omega arith) in
      let fields : fields_of (classes_of us) c ≡ map (member_of_file u.file.pool) u.file.fields = ap (fields_of (classes_of us)) (sym same) ∙ fields_of_file us (c - 29) u there in
      record {
        instances = are.instances ∙ ap (λ n. n + own_words false (map (member_of_file u.file.pool) u.file.fields)) above ∙ sym (words_of_file (classes_of us) order first c high within ∙ ap (λ fs. instance_words (classes_of us) (superclass_of (classes_of us) c) + own_words false fs) fields);
        statics = are.statics ∙ sym (ap (λ x. cond x 0 (own_words true (fields_of (classes_of us) c))) (lt-leb c 28 high) ∙ ap (own_words true) fields);
        places = λ i. ap (λ o. option_map_or (λ (n : ℕ). n) o 0) (are.places i)
            ∙ place i (slice_get (map (member_of_file u.file.pool) u.file.fields) i)
            ∙ ap (λ fs. option_map_or (λ f. cond (has f.flags STATIC) (own_words true (take i fs)) (instance_words (classes_of us) (superclass_of (classes_of us) c) + own_words false (take i fs))) (slice_get fs i) 0) (sym fields);
      }
    where
      place : (i : ℕ) (o : Option NamedMember) → option_map_or (λ (n : ℕ). n) (option_map (place_among (map (member_of_file u.file.pool) u.file.fields) inherited i) o) 0
          ≡ option_map_or (λ f. cond (has f.flags STATIC) (own_words true (take i (map (member_of_file u.file.pool) u.file.fields))) (instance_words (classes_of us) (superclass_of (classes_of us) c) + own_words false (take i (map (member_of_file u.file.pool) u.file.fields)))) o 0
      place i None = refl
      place i (Some f) = ap (λ (n : ℕ). cond (has f.flags STATIC) (own_words true (take i (map (member_of_file u.file.pool) u.file.fields))) (n + own_words false (take i (map (member_of_file u.file.pool) u.file.fields)))) above

  -- ---- the words of objects are few

  Bounded : ℕ → ℕ → Type 0
  Bounded i c = instance_words (classes_of us) c ≤ 131072 * (i + 1)

  bound_at : AreUnits us → (b i c : ℕ) → i < b → slice_get order i ≡ Some c → instance_words (classes_of us) c ≤ 131072 * (i + 1)
  bound_at decoded zero i c below at = absurd (omega arith)
  bound_at decoded (suc b) i c below at = elim (cases_eq c 0) [
    | inl none ↦ (let e = no_words us c (inl none) in omega arith)
    | inr some ↦ elim (cases_lt (length (classes_of us)) c) [
      | inl past ↦ (let e = no_words us c (inr past) in omega arith)
      | inr within ↦ elim (cases_lt 28 c) [
        | inr low ↦ (let e = library_instances c some low in let few = (words_of_library c low).1 in omega arith)
        | inl high ↦ file (bound_at decoded b) within high (superclass_of (classes_of us) c) refl
      ]
    ]
  ]
    where
      file : ((j d : ℕ) → j < b → slice_get order j ≡ Some d → instance_words (classes_of us) d ≤ 131072 * (j + 1)) → c ≤ length (classes_of us) → 28 < c → (s : ℕ) → superclass_of (classes_of us) c ≡ s → instance_words (classes_of us) c ≤ 131072 * (i + 1)
      file again within high s is =
          let f = is_file us c high within in
          let fields : fields_of (classes_of us) c ≡ map (member_of_file f.1.file.pool) f.1.file.fields = ap (fields_of (classes_of us)) f.3 ∙ fields_of_file us f.0 f.1 f.2 in
          let few : length f.1.file.fields < 2 ^ 16 = (small f.1.file (decoded f.0 f.1 f.2).file).fields in
          let many : length (fields_of (classes_of us) c) ≡ length f.1.file.fields = ap length fields ∙ Rattle.std.proofs.lemmas.List.length-map f.1.file.fields (member_of_file f.1.file.pool) in
          let own : own_words false (fields_of (classes_of us) c) ≤ 2 * length (fields_of (classes_of us) c) = own_few false (fields_of (classes_of us) c) in
          let sum : instance_words (classes_of us) c ≡ instance_words (classes_of us) (superclass_of (classes_of us) c) + own_words false (fields_of (classes_of us) c) = words_of_file (classes_of us) order first c high within in
          let above : instance_words (classes_of us) (superclass_of (classes_of us) c) ≤ 131072 * i = ap_le s is in
          omega arith
        where
          ap_le : (s : ℕ) → superclass_of (classes_of us) c ≡ s → instance_words (classes_of us) (superclass_of (classes_of us) c) ≤ 131072 * i
          ap_le zero e = (let none : instance_words (classes_of us) (superclass_of (classes_of us) c) ≡ 0 = no_words us (superclass_of (classes_of us) c) (inl e) in omega arith)
          ap_le (suc s) e =
              let h : (j : ℕ) × (j < i) × (slice_get order j ≡ Some (suc s)) = first.before i c (suc s) at ((λ z. omega (arith, z)), inl e) in
              let less : h.0 < i = h.1 in
              let its : instance_words (classes_of us) (suc s) ≤ 131072 * (h.0 + 1) = again h.0 (suc s) (omega arith) h.2 in
              let same : instance_words (classes_of us) (superclass_of (classes_of us) c) ≡ instance_words (classes_of us) (suc s) = ap (instance_words (classes_of us)) e in
              omega arith

-- ---- one class after the other

-- the first classes of an order have their rows
pub record FirstHaveRows (us : List ClassUnit) (order : List ℕ) (n : ℕ) (table : List ClassRow) : Type 0 where
  pub count : length table ≡ length (classes_of us)
  pub each : (j c : ℕ) (row : ClassRow) → j < n → slice_get order j ≡ Some c → row_numbered table c ≡ Some row → IsRowOf (classes_of us) c row

pub none_have_rows : (us : List ClassUnit) (order : List ℕ) (table : List ClassRow) → length table ≡ 28 + length us → FirstHaveRows us order 0 table
none_have_rows us order table count = record {
  count = count ∙ sym (class_count_is us);
  each = λ j c row lt at is. absurd (omega arith);
}

pub rows_more : (us : List ClassUnit) (order : List ℕ) (n class : ℕ) (row : ClassRow) (old new : List ClassRow)
    → slice_get order n ≡ Some class → FirstHaveRows us order n old → IsRowOf (classes_of us) class row → length new ≡ length old
    → ((there : ClassRow) → row_numbered new class ≡ Some there → there ≡ row) → ((c : ℕ) → c ≢ class → row_numbered new c ≡ row_numbered old c)
    → FirstHaveRows us order (n + 1) new
rows_more us order n class row old new at have its count here elsewhere = record {
  count = count ∙ have.count;
  each = λ j c r lt there is. elim (cases_eq c class) [
    | inl same ↦ subst (λ x. IsRowOf (classes_of us) x r) (sym same) (subst (IsRowOf (classes_of us) class) (sym (here r (subst (λ x. row_numbered new x ≡ Some r) same is))) its)
    | inr other ↦ elim (cases_eq j n) [
      | inl last ↦ absurd (other (same_Some c class (sym there ∙ ap (slice_get order) last ∙ at)))
      | inr before ↦ have.each j c r (omega (arith, before)) there (sym (elsewhere c other) ∙ is)
    ]
  ];
}

in_table : (table : List ClassRow) (c : ℕ) (row : ClassRow) → row_numbered table c ≡ Some row → (c ≢ 0) × (c ≤ length table)
in_table table zero row is = absurd (none-some row is)
in_table table (suc i) row is = ((λ e. omega (arith, e)), (let lt = slice_get_within table i row is in omega arith))

pub all_have_rows : (us : List ClassUnit) (order : List ℕ) (n : ℕ) (table : List ClassRow) → PutsSupersFirst (classes_of us) order → length order ≤ n → FirstHaveRows us order n table → AreRowsOf (classes_of us) table
all_have_rows us order n table first le have = record {
  count = have.count;
  each = λ c row is.
      let inside = in_table table c row is in
      let count = have.count in
      let h = first.whole c inside.0 (let le = inside.1 in omega arith) in
      let lt = slice_get_within order h.0 c h.1 in
      have.each h.0 c row (omega arith) h.1 is;
}

-- the rows of superclasses are there
pub super_has_row : (us : List ClassUnit) (order : List ℕ) (n class : ℕ) (table : List ClassRow) → PutsSupersFirst (classes_of us) order → slice_get order n ≡ Some class → FirstHaveRows us order n table
    → instance_in table (superclass_of (classes_of us) class) ≡ instance_words (classes_of us) (superclass_of (classes_of us) class)
super_has_row us order n class table first at have = go (superclass_of (classes_of us) class) refl
  where
    found : (s : ℕ) → superclass_of (classes_of us) class ≡ suc s → (o : Option ClassRow) → slice_get table s ≡ o → option_map_or (λ (r : ClassRow). r.instance_words) o 0 ≡ instance_words (classes_of us) (suc s)
    found s e None is =
        let past : length (classes_of us) < suc s = past_end (slice_get_cases table s).1 in
        sym (no_words us (suc s) (inr past))
      where
        past_end : ((x : ClassRow) × (s < length table) × (slice_get table s ≡ Some x) × (Rattle.std.proofs.Common.get_or table s x ≡ x)) ⊎ ((length table ≤ s) × (slice_get table s ≡ None)) → length (classes_of us) < suc s
        past_end h = elim h [
          | inl there ↦ absurd (none-some there.0 (sym is ∙ there.2))
          | inr past ↦ (let le = past.0 in let count = have.count in omega arith)
        ]
    found s e (Some row) is =
        let h : (j : ℕ) × (j < n) × (slice_get order j ≡ Some (suc s)) = first.before n class (suc s) at ((λ z. omega (arith, z)), inl e) in
        (have.each h.0 (suc s) row h.1 h.2 is).instances

    go : (s : ℕ) → superclass_of (classes_of us) class ≡ s → instance_in table s ≡ instance_words (classes_of us) s
    go zero e = sym (no_words us 0 (inl refl))
    go (suc s) e = found s e (slice_get table s) refl

-- and their words are few
pub super_is_small : (us : List ClassUnit) (order : List ℕ) (n class : ℕ) → AreUnits us → length us ≤ 1024 → PutsSupersFirst (classes_of us) order → slice_get order n ≡ Some class
    → instance_words (classes_of us) (superclass_of (classes_of us) class) < 2 ^ 30
super_is_small us order n class decoded few first at = go (superclass_of (classes_of us) class) refl
  where
    go : (s : ℕ) → superclass_of (classes_of us) class ≡ s → instance_words (classes_of us) s < 2 ^ 30
    go zero e = (let none : instance_words (classes_of us) 0 ≡ 0 = no_words us 0 (inl refl) in omega arith)
    go (suc s) e =
        let h : (j : ℕ) × (j < n) × (slice_get order j ≡ Some (suc s)) = first.before n class (suc s) at ((λ z. omega (arith, z)), inl e) in
        let lt : n < length order = slice_get_within order n class at in
        let bound = first.bound in
        let count : length (classes_of us) ≡ 28 + length us = class_count_is us in
        let its : instance_words (classes_of us) (suc s) ≤ 131072 * (h.0 + 1) = bound_at us order first decoded (suc h.0) h.0 (suc s) (omega arith) h.2 in
        let less = h.1 in
        omega arith

-- the static words of a class are few
pub statics_few : (us : List ClassUnit) (c : ℕ) → AreUnits us → c ≤ length (classes_of us) → static_words (classes_of us) c < 2 ^ 17
statics_few us c decoded within = elim (cases_lt 28 c) [
  | inr low ↦ (let none : static_words (classes_of us) c ≡ 0 = ap (λ x. cond x 0 (own_words true (fields_of (classes_of us) c))) (le-leb c 28 low) in omega arith)
  | inl high ↦
      let f = is_file us c high within in
      let fields : fields_of (classes_of us) c ≡ map (member_of_file f.1.file.pool) f.1.file.fields = ap (fields_of (classes_of us)) f.3 ∙ fields_of_file us f.0 f.1 f.2 in
      let few : length f.1.file.fields < 2 ^ 16 = (small f.1.file (decoded f.0 f.1 f.2).file).fields in
      let many : length (fields_of (classes_of us) c) ≡ length f.1.file.fields = ap length fields ∙ Rattle.std.proofs.lemmas.List.length-map f.1.file.fields (member_of_file f.1.file.pool) in
      let own : own_words true (fields_of (classes_of us) c) ≤ 2 * length (fields_of (classes_of us) c) = own_few true (fields_of (classes_of us) c) in
      let is : static_words (classes_of us) c ≡ own_words true (fields_of (classes_of us) c) = ap (λ x. cond x 0 (own_words true (fields_of (classes_of us) c))) (lt-leb c 28 high) in
      omega arith
]

-- what is no class has an empty row
pub no_class_row : (us : List ClassUnit) (c : ℕ) (row : ClassRow) → ((c ≡ 0) ⊎ (28 < c)) → unit_numbered us c ≡ None → row ≡ empty_row → IsRowOf (classes_of us) c row
no_class_row us c row h no_unit is =
    subst (IsRowOf (classes_of us) c) (sym is) (record {
      instances = sym (no_words us c past);
      statics = sym (no_statics (classes_of us) c (none past));
      places = λ i. sym (no_places (classes_of us) c i (none past));
    })
  where
    none : ((c ≡ 0) ⊎ (length (classes_of us) < c)) → class_numbered (classes_of us) c ≡ None
    none p = elim p [
      | inl zero_number ↦ ap (class_numbered (classes_of us)) zero_number
      | inr behind ↦ past_all (classes_of us) c behind
    ]

    past : (c ≡ 0) ⊎ (length (classes_of us) < c)
    past = elim h [
      | inl e ↦ inl e
      | inr high ↦
          let nothing : slice_get us (c - 29) ≡ None = sym (ap (λ b. cond b None (slice_get us (c - 29))) (lt-leb c 28 high)) ∙ no_unit in
          elim (slice_get_cases us (c - 29)).1 [
            | inl there ↦ absurd (none-some there.0 (sym nothing ∙ there.2))
            | inr behind ↦ inr (let le = behind.0 in let count = class_count_is us in omega arith)
          ]
    ]

-- a number that no built-in class has
pub not_of_library : (c : ℕ) → (0 < c → c ≤ 28 → ⊥) → (c ≡ 0) ⊎ (28 < c)
not_of_library c none = elim (cases_lt 28 c) [
  | inl high ↦ inr high
  | inr low ↦ elim (cases_eq c 0) [ inl e ↦ inl e | inr ne ↦ absurd (none (omega (arith, ne)) low) ]
]

-- a class of a file
pub unit_is_read : (us : List ClassUnit) (c : ℕ) (u : ClassUnit) → unit_numbered us c ≡ Some u → 28 < c
unit_is_read us c u at = elim (cases_lt 28 c) [
  | inl high ↦ high
  | inr low ↦ absurd (none-some u (sym (ap (λ b. cond b None (slice_get us (c - 29))) (le-leb c 28 low)) ∙ at))
]

pub unit_few : (us : List ClassUnit) (c : ℕ) (u : ClassUnit) → AreUnits us → unit_numbered us c ≡ Some u → length u.file.fields < 65536
unit_few us c u decoded at =
    let there : slice_get us (c - 29) ≡ Some u = sym (ap (λ b. cond b None (slice_get us (c - 29))) (lt-leb c 28 (unit_is_read us c u at))) ∙ at in
    (small u.file (decoded (c - 29) u there).file).fields

-- the words of objects by all rows
pub instance_right : (us : List ClassUnit) (table : List ClassRow) → AreRowsOf (classes_of us) table → (c : ℕ) → instance_in table c ≡ instance_words (classes_of us) c
instance_right us table are zero = sym (no_words us 0 (inl refl))
instance_right us table are (suc i) = elim (slice_get_cases table i).1 [
  | inl there ↦ ap (λ o. option_map_or (λ (r : ClassRow). r.instance_words) o 0) there.2 ∙ (are.each (suc i) there.0 there.2).instances
  | inr past ↦ ap (λ o. option_map_or (λ (r : ClassRow). r.instance_words) o 0) past.1 ∙ sym (no_words us (suc i) (inr (let le = past.0 in let count = are.count in omega arith)))
]
