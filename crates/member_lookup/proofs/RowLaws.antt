-- The members of classes as rows.
use Rattle.std.proofs.Common.{◌≡◌, ◌≢◌, ◌⊎◌, ℕ, zero, suc, ◌+◌, ◌<◌, ◌≤◌, ◌==◌, ◌&&◌, Bool, true, false, cond, List, [], ◌∷◌, ◌++◌, length, map, filter, flat_map, take, slice_get, get_or, Option, None, Some, inl, inr, refl, sym, ◌∙◌, ap, subst, arith, append_assoc, length-append, add-one, bytes_eq}
use Rattle.std.specs.List.{find, position_from, range_with_len}
use Rattle.std.specs.Option.{option_map, option_and_then}
use borrow.Author.Tests.{eq-eqb, ne_eqb}
use Rattle.std.proofs.lemmas.Bool.{cases_Bool, cases_lt, cases_eq, true≢false}
use Rattle.std.proofs.lemmas.List.{take_more, length-map, length-take-le, map-append}
use Rattle.std.proofs.lemmas.List.Concat.{flat_map-append}
use Rattle.std.proofs.lemmas.List.Elements.{filter-append}
use Rattle.link_rules.specs.Classes.{NamedMember, classes_of, fields_of, methods_of}
use Rattle.link_rules.specs.Members.{Declared, declared, declared_at, first_some, is_member}
use Rattle.class_pool.specs.Pool.{Reference}
use Rattle.code_decode.specs.declared.code.ClassUnit.{ClassUnit}
use Rattle.std.proofs.lemmas.Slice.Eq.{bytes_eq-Decides}
use Rattle.search_orders.specs.Orders.{without_repeats}
use Rattle.text_numbers.specs.Numbers.{number_of}
use Rattle.text_numbers.proofs.NumberLaws.{number_alone}
use Rattle.member_table.specs.Members.{has_signature}
use Rattle.member_table.proofs.SearchLaws.{first_once, first_same}
use Rattle.member_lookup.specs.declared.tables.Tables.{Tables}
use Rattle.link_rules.proofs.Lists.{slice_get-behind}
use Rattle.member_table.specs.declared.table.MemberRow.{MemberRow}
use Rattle.member_table.specs.Search.{or_first, first_found, of_class}
use Rattle.member_lookup.specs.Rows.{row_of, rows_from, class_rows, rows_of_classes, is_virtual_row, AreTables}

pub rows_push : (ts : List (List ℕ)) (c i : ℕ) (ms : List NamedMember) (m : NamedMember) → rows_from ts c i (ms ++ m ∷ []) ≡ rows_from ts c i ms ++ row_of ts c (i + length ms) m ∷ []
rows_push ts c i [] m = let sum : i ≡ i + 0 = omega arith in ap (λ j. row_of ts c j m ∷ []) sum
rows_push ts c i (n ∷ ms) m =
    let sum : i + 1 + length ms ≡ i + suc (length ms) = omega arith in
    ap (λ rs. row_of ts c i n ∷ rs) (rows_push ts c (i + 1) ms m ∙ ap (λ j. rows_from ts c (i + 1) ms ++ row_of ts c j m ∷ []) sum)

-- the row of one member more, as a loop over members makes it
pub rows_more : {X : Type 0} (ts : List (List ℕ)) (c : ℕ) (f : X → NamedMember) (xs : List X) (i : ℕ) (d : X) (old new : List MemberRow) (row : MemberRow)
    → i < length xs → old ≡ rows_from ts c 0 (map f (take i xs)) → new ≡ old ++ row ∷ [] → row ≡ row_of ts c i (f (get_or xs i d)) → new ≡ rows_from ts c 0 (map f (take (i + 1) xs))
rows_more {X} ts c f xs i d old new row lt so_far push is =
    let count : 0 + length (map f (take i xs)) ≡ i = omega (arith, length-map (take i xs) f, length-take-le i xs (omega arith)) in
    let last : map f (take (i + 1) xs) ≡ map f (take i xs) ++ f (get_or xs i d) ∷ [] = ap (map f) (take_more xs i d lt) ∙ map-append f (take i xs) (get_or xs i d ∷ []) in
    push ∙ ap (λ rs. rs ++ row ∷ []) so_far ∙ ap (λ r. rows_from ts c 0 (map f (take i xs)) ++ r ∷ []) (is ∙ ap (λ j. row_of ts c j (f (get_or xs i d))) (sym count))
    ∙ sym (rows_push ts c 0 (map f (take i xs)) (f (get_or xs i d))) ∙ ap (rows_from ts c 0) (sym last)

-- ---- the first of the rows of a class that passes a test

none_own : (ts : List (List ℕ)) (q : MemberRow → Bool) (c d i : ℕ) (ms : List NamedMember) → c ≢ d → of_class (filter q (rows_from ts c i ms)) d ≡ None
none_own ts q c d i [] ne = refl
none_own ts q c d i (m ∷ ms) ne = go (q (row_of ts c i m)) (none_own ts q c d (i + 1) ms ne)
  where
    go : (b : Bool) → of_class (filter q (rows_from ts c (i + 1) ms)) d ≡ None → of_class (cond b (row_of ts c i m ∷ filter q (rows_from ts c (i + 1) ms)) (filter q (rows_from ts c (i + 1) ms))) d ≡ None
    go true later = let other : (c == d) ≡ false = ne_eqb c d ne in ap (λ b. cond b (Some (row_of ts c i m)) (of_class (filter q (rows_from ts c (i + 1) ms)) d)) other ∙ later
    go false later = later

all_own : (ts : List (List ℕ)) (q : MemberRow → Bool) (c i : ℕ) (ms : List NamedMember) → of_class (filter q (rows_from ts c i ms)) c ≡ find q (rows_from ts c i ms)
all_own ts q c i [] = refl
all_own ts q c i (m ∷ ms) = go (q (row_of ts c i m)) (all_own ts q c (i + 1) ms)
  where
    go : (b : Bool) → of_class (filter q (rows_from ts c (i + 1) ms)) c ≡ find q (rows_from ts c (i + 1) ms)
        → of_class (cond b (row_of ts c i m ∷ filter q (rows_from ts c (i + 1) ms)) (filter q (rows_from ts c (i + 1) ms))) c ≡ cond b (Some (row_of ts c i m)) (find q (rows_from ts c (i + 1) ms))
    go true later = let same : (c == c) ≡ true = eq-eqb c c refl in ap (λ b. cond b (Some (row_of ts c i m)) (of_class (filter q (rows_from ts c (i + 1) ms)) c)) same
    go false later = later

of_class_append : (q : MemberRow → Bool) (c : ℕ) (xs ys : List MemberRow) → of_class (filter q (xs ++ ys)) c ≡ or_first (of_class (filter q xs) c) (of_class (filter q ys) c)
of_class_append q c [] ys = refl
of_class_append q c (x ∷ xs) ys = go (q x) (of_class_append q c xs ys)
  where
    go : (b : Bool) → of_class (filter q (xs ++ ys)) c ≡ or_first (of_class (filter q xs) c) (of_class (filter q ys) c)
        → of_class (cond b (x ∷ filter q (xs ++ ys)) (filter q (xs ++ ys))) c ≡ or_first (of_class (cond b (x ∷ filter q xs) (filter q xs)) c) (of_class (filter q ys) c)
    go false later = later
    go true later = elim (x.class == c) as (λ b. cond b (Some x) (of_class (filter q (xs ++ ys)) c) ≡ or_first (cond b (Some x) (of_class (filter q xs) c)) (of_class (filter q ys) c)) [
      | true ↦ refl
      | false ↦ later
    ]

module _ (ts : List (List ℕ)) (members : ℕ → List NamedMember) (q : MemberRow → Bool) where
  rows_in : ℕ → ℕ → List MemberRow
  rows_in a n = flat_map (class_rows ts members) (range_with_len a n)

  not_yet : (a n c : ℕ) → c < a → of_class (filter q (flat_map (class_rows ts members) (range_with_len a n))) c ≡ None
  not_yet a zero c lt = refl
  not_yet a (suc n) c lt =
      of_class_append q c (class_rows ts members a) (flat_map (class_rows ts members) (range_with_len (a + 1) n))
      ∙ ap (λ o. or_first o (of_class (filter q (flat_map (class_rows ts members) (range_with_len (a + 1) n))) c)) (none_own ts q a c 0 (members a) (λ same. omega (arith, same)))
      ∙ not_yet (a + 1) n c (omega arith)

  over : (a n c : ℕ) → a + n ≤ c → of_class (filter q (flat_map (class_rows ts members) (range_with_len a n))) c ≡ None
  over a zero c le = refl
  over a (suc n) c le =
      of_class_append q c (class_rows ts members a) (flat_map (class_rows ts members) (range_with_len (a + 1) n))
      ∙ ap (λ o. or_first o (of_class (filter q (flat_map (class_rows ts members) (range_with_len (a + 1) n))) c)) (none_own ts q a c 0 (members a) (λ same. omega (arith, same)))
      ∙ over (a + 1) n c (omega arith)

  within : (a n c : ℕ) → a ≤ c → c < a + n → of_class (filter q (flat_map (class_rows ts members) (range_with_len a n))) c ≡ find q (class_rows ts members c)
  within a zero c low high = absurd (omega arith)
  within a (suc n) c low high =
      of_class_append q c (class_rows ts members a) (flat_map (class_rows ts members) (range_with_len (a + 1) n)) ∙ by_cases (cases_eq a c) (within (a + 1) n c)
    where
      rest : Option MemberRow
      rest = of_class (filter q (flat_map (class_rows ts members) (range_with_len (a + 1) n))) c

      no_more : (o : Option MemberRow) → or_first o None ≡ o
      no_more None = refl
      no_more (Some x) = refl

      by_cases : (a ≡ c) ⊎ (a ≢ c) → (a + 1 ≤ c → c < a + 1 + n → rest ≡ find q (class_rows ts members c)) → or_first (of_class (filter q (class_rows ts members a)) c) rest ≡ find q (class_rows ts members c)
      by_cases (inl same) later =
          ap (or_first (of_class (filter q (class_rows ts members a)) c)) (not_yet (a + 1) n c (omega (arith, same)))
          ∙ no_more (of_class (filter q (class_rows ts members a)) c)
          ∙ ap (λ d. of_class (filter q (class_rows ts members d)) c) same
          ∙ all_own ts q c 0 (members c)
      by_cases (inr other) later =
          ap (λ o. or_first o rest) (none_own ts q a c 0 (members a) other) ∙ later (omega (arith, other)) (omega (arith, other))

  -- of the rows of all classes, the first one of a class that passes a test
  pub class_find : (n c : ℕ) → (c ≡ 0 → members c ≡ []) → (n < c → members c ≡ []) → of_class (filter q (rows_of_classes ts members n)) c ≡ find q (class_rows ts members c)
  class_find n c none past = elim (cases_eq c 0) [
    | inl zero_class ↦ not_yet 1 n c (omega (arith, zero_class)) ∙ sym (ap (λ ms. find q (rows_from ts c 0 ms)) (none zero_class))
    | inr some ↦ elim (cases_lt n c) [
      | inl behind ↦ over 1 n c (omega arith) ∙ sym (ap (λ ms. find q (rows_from ts c 0 ms)) (past behind))
      | inr inside ↦ within 1 n c (omega (arith, some)) (omega arith)
    ]
  ]

-- ---- one class more

range_more : (a n : ℕ) → range_with_len a (n + 1) ≡ range_with_len a n ++ (a + n) ∷ []
range_more a n = rw add-one (go a n)
  where
    go : (a n : ℕ) → range_with_len a (suc n) ≡ range_with_len a n ++ (a + n) ∷ []
    go a zero = (let sum : a ≡ a + 0 = omega arith in ap (λ x. x ∷ []) sum)
    go a (suc n) = (let sum : a + 1 + n ≡ a + suc n = omega arith in ap (λ xs. a ∷ xs) (go (a + 1) n ∙ ap (λ x. range_with_len (a + 1) n ++ x ∷ []) sum))

last_none : {X : Type 0} (us : List X) → us ++ [] ≡ us
last_none [] = refl
last_none (u ∷ us) = ap (λ vs. u ∷ vs) (last_none us)

flat_more : (g : ℕ → List MemberRow) (xs : List ℕ) (x : ℕ) → flat_map g (xs ++ x ∷ []) ≡ flat_map g xs ++ g x
flat_more g xs x = flat_map-append g xs (x ∷ []) ∙ ap (λ us. flat_map g xs ++ us) (last_none (g x))

pub class_more : (ts : List (List ℕ)) (members : ℕ → List NamedMember) (n c : ℕ) → c ≡ 1 + n → rows_of_classes ts members n ++ class_rows ts members c ≡ rows_of_classes ts members (n + 1)
class_more ts members n c is =
    ap (λ d. rows_of_classes ts members n ++ class_rows ts members d) is
    ∙ sym (ap (flat_map (class_rows ts members)) (range_more 1 n) ∙ flat_more (class_rows ts members) (range_with_len 1 n) (1 + n))

pub tables_more : (us : List ClassUnit) (ts : List (List ℕ)) (n m c : ℕ) (old new : Tables) → AreTables us ts n old → c ≡ 1 + n → m ≡ n + 1
    → new.fields ≡ old.fields ++ class_rows ts (fields_of (classes_of us)) c → new.methods ≡ old.methods ++ class_rows ts (methods_of (classes_of us)) c
    → new.virtuals ≡ old.virtuals ++ filter is_virtual_row (class_rows ts (methods_of (classes_of us)) c) → AreTables us ts m new
tables_more us ts n m c old new are is next fields methods virtuals = subst (λ k. AreTables us ts k new) (sym next) (record {
  fields_are = fields ∙ ap (λ xs. xs ++ class_rows ts (fields_of (classes_of us)) c) are.fields_are ∙ class_more ts (fields_of (classes_of us)) n c is;
  methods_are = methods ∙ ap (λ xs. xs ++ class_rows ts (methods_of (classes_of us)) c) are.methods_are ∙ class_more ts (methods_of (classes_of us)) n c is;
  virtuals_are = virtuals ∙ ap (λ xs. xs ++ filter is_virtual_row (class_rows ts (methods_of (classes_of us)) c)) are.virtuals_are
      ∙ sym (filter-append is_virtual_row (rows_of_classes ts (methods_of (classes_of us)) n) (class_rows ts (methods_of (classes_of us)) c))
      ∙ ap (filter is_virtual_row) (class_more ts (methods_of (classes_of us)) n c is);
})

-- ---- the first row of a class is that of the first member

pub same_number : (ts : List (List ℕ)) (a b : List ℕ) → number_of ts b ≢ 0 → (number_of ts a == number_of ts b) ≡ bytes_eq a b
same_number ts a b some = elim (cases_Bool (bytes_eq a b)) [
  | inl same ↦ eq-eqb (number_of ts a) (number_of ts b) (ap (number_of ts) ((bytes_eq-Decides a b).0 same)) ∙ sym same
  | inr other ↦ ne_eqb (number_of ts a) (number_of ts b) (λ e. true≢false (sym ((bytes_eq-Decides a b).1 (number_alone ts b a some e)) ∙ other)) ∙ sym other
]

pub signature_is : (ts : List (List ℕ)) (r : Reference) (c i : ℕ) (m : NamedMember) → number_of ts r.name ≢ 0 → number_of ts r.descriptor ≢ 0
    → has_signature (number_of ts r.name) (number_of ts r.descriptor) (row_of ts c i m) ≡ is_member r m
signature_is ts r c i m name descriptor =
    ap (λ b. b && number_of ts m.descriptor == number_of ts r.descriptor) (same_number ts m.name r.name name) ∙ ap (λ b. bytes_eq m.name r.name && b) (same_number ts m.descriptor r.descriptor descriptor)

abbrev pub row_declared : List (List ℕ) → Declared → MemberRow
row_declared ts d = row_of ts d.class d.place d.member

find_rows : (ts : List (List ℕ)) (q : MemberRow → Bool) (test : NamedMember → Bool) (c : ℕ) (before ms : List NamedMember) → ((i : ℕ) (m : NamedMember) → q (row_of ts c i m) ≡ test m)
    → find q (rows_from ts c (length before) ms) ≡ option_map (row_declared ts) (option_and_then (declared_at (before ++ ms) c) (position_from test (length before) ms))
find_rows ts q test c before [] same = refl
find_rows ts q test c before (m ∷ ms) same = go (test m) (same (length before) m) (find_rows ts q test c (before ++ m ∷ []) ms same)
  where
    one : length (before ++ m ∷ []) ≡ length before + 1
    one = length-append before (m ∷ [])

    all : (before ++ m ∷ []) ++ ms ≡ before ++ m ∷ ms
    all = append_assoc before (m ∷ []) ms

    at : slice_get (before ++ m ∷ ms) (length before) ≡ Some m
    at = (let sum : length before ≡ length before + 0 = omega arith in ap (slice_get (before ++ m ∷ ms)) sum ∙ slice_get-behind before (m ∷ ms) 0)

    go : (b : Bool) → q (row_of ts c (length before) m) ≡ b
        → find q (rows_from ts c (length (before ++ m ∷ [])) ms) ≡ option_map (row_declared ts) (option_and_then (declared_at ((before ++ m ∷ []) ++ ms) c) (position_from test (length (before ++ m ∷ [])) ms))
        → cond (q (row_of ts c (length before) m)) (Some (row_of ts c (length before) m)) (find q (rows_from ts c (length before + 1) ms))
        ≡ option_map (row_declared ts) (option_and_then (declared_at (before ++ m ∷ ms) c) (cond b (Some (length before)) (position_from test (length before + 1) ms)))
    go true yes_it later = ap (λ b. cond b (Some (row_of ts c (length before) m)) (find q (rows_from ts c (length before + 1) ms))) yes_it
        ∙ sym (ap (λ o. option_map (row_declared ts) (option_map (λ (x : NamedMember). record { class = c; place = length before; member = x }) o)) at)
    go false not_it later = ap (λ b. cond b (Some (row_of ts c (length before) m)) (find q (rows_from ts c (length before + 1) ms))) not_it
        ∙ ap (λ n. find q (rows_from ts c n ms)) (sym one) ∙ later
        ∙ ap (λ xs. option_map (row_declared ts) (option_and_then (declared_at xs c) (position_from test (length (before ++ m ∷ [])) ms))) all
        ∙ ap (λ n. option_map (row_declared ts) (option_and_then (declared_at (before ++ m ∷ ms) c) (position_from test n ms))) one

pub declared_is : (ts : List (List ℕ)) (members : ℕ → List NamedMember) (q : MemberRow → Bool) (test : NamedMember → Bool) (c : ℕ) → ((i : ℕ) (m : NamedMember) → q (row_of ts c i m) ≡ test m)
    → find q (class_rows ts members c) ≡ option_map (row_declared ts) (declared members test c)
declared_is ts members q test c same = find_rows ts q test c [] (members c) same

first_map : (ts : List (List ℕ)) (g : ℕ → Option Declared) (cs : List ℕ) → first_found (λ c. option_map (row_declared ts) (g c)) cs ≡ option_map (row_declared ts) (first_some g cs)
first_map ts g [] = refl
first_map ts g (c ∷ cs) = elim (g c) as (λ o. or_first (option_map (row_declared ts) o) (first_found (λ c. option_map (row_declared ts) (g c)) cs) ≡ option_map (row_declared ts) (Rattle.link_rules.specs.Members.or_first o (first_some g cs))) [
  | None ↦ first_map ts g cs
  | Some d ↦ refl
]

-- among the rows of all classes, the first one in an order of classes is that of the first member
pub first_is : (ts : List (List ℕ)) (members : ℕ → List NamedMember) (n : ℕ) (q : MemberRow → Bool) (test : NamedMember → Bool) (order : List ℕ)
    → members 0 ≡ [] → ((c : ℕ) → n < c → members c ≡ []) → ((c i : ℕ) (m : NamedMember) → q (row_of ts c i m) ≡ test m)
    → first_found (of_class (filter q (rows_of_classes ts members n))) (without_repeats order) ≡ option_map (row_declared ts) (first_some (declared members test) order)
first_is ts members n q test order none past same =
    first_once (of_class (filter q (rows_of_classes ts members n))) order
    ∙ first_same (of_class (filter q (rows_of_classes ts members n))) (λ c. option_map (row_declared ts) (declared members test c)) order
    (λ c. class_find ts members q n c (λ z. ap members z ∙ none) (past c) ∙ declared_is ts members q test c (same c))
    ∙ first_map ts (declared members test) order

pub one_is : (ts : List (List ℕ)) (members : ℕ → List NamedMember) (n : ℕ) (q : MemberRow → Bool) (test : NamedMember → Bool) (c : ℕ)
    → members 0 ≡ [] → ((c : ℕ) → n < c → members c ≡ []) → ((c i : ℕ) (m : NamedMember) → q (row_of ts c i m) ≡ test m)
    → of_class (filter q (rows_of_classes ts members n)) c ≡ option_map (row_declared ts) (declared members test c)
one_is ts members n q test c none past same = class_find ts members q n c (λ z. ap members z ∙ none) (past c) ∙ declared_is ts members q test c (same c)
