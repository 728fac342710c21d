-- Whether a superclass has a final method of a signature.
use Rattle.std.proofs.Common.{◌≡◌, ◌≢◌, ◌⊎◌, ℕ, zero, suc, ◌+◌, ◌<◌, ◌≤◌, ◌==◌, ◌&&◌, ◌||◌, Bool, true, false, not, cond, List, [], ◌∷◌, length, filter, flat_map, inl, inr, refl, sym, ◌∙◌, ap, arith}
use Rattle.std.specs.List.{list_any, range_with_len}
use Rattle.std.proofs.lemmas.Bool.{cases_Bool, cases_eq, cases_lt, true≢false, and_parts}
use Rattle.std.proofs.lemmas.List.Folds.{list_any-append}
use borrow.Author.Tests.{eqb-true, eq-eqb, ne_eqb}
use Rattle.access_flags.specs.Flags.{has}
use Rattle.class_pool.specs.Pool.{Reference}
use Rattle.code_decode.specs.declared.code.ClassUnit.{ClassUnit}
use Rattle.class_texts.specs.Texts.{ProgramTexts}
use Rattle.link_rules.specs.Classes.{NamedClass, NamedMember, classes_of, methods_of}
use Rattle.link_rules.specs.Supers.{superclasses}
use Rattle.link_rules.specs.Members.{is_member, is_virtual}
use Rattle.search_orders.specs.Orders.{without_repeats, has_number, rank}
use Rattle.search_orders.proofs.OrderLaws.{has_put_all, ranked, unranked}
use Rattle.member_table.specs.declared.table.MemberRow.{MemberRow}
use Rattle.member_table.specs.Members.{has_signature}
use Rattle.member_lookup.specs.declared.tables.Tables.{Tables}
use Rattle.member_lookup.specs.Rows.{row_of, rows_from, class_rows, is_virtual_row, rows_of_classes}
use Rattle.member_lookup.specs.Found.{HaveNumbers, IsLookup}
use Rattle.member_lookup.proofs.FoundLaws.{both_filters, signed_by, no_methods}

any_filter : (p w : MemberRow → Bool) (xs : List MemberRow) → list_any w (filter p xs) ≡ list_any (λ m. p m && w m) xs
any_filter p w [] = refl
any_filter p w (x ∷ xs) = elim (p x) as (λ b. list_any w (cond b (x ∷ filter p xs) (filter p xs)) ≡ (b && w x || list_any (λ m. p m && w m) xs)) [
  | true ↦ ap (λ b. w x || b) (any_filter p w xs)
  | false ↦ any_filter p w xs
]

any_flat_map : (v : MemberRow → Bool) (g : ℕ → List MemberRow) (ds : List ℕ) → list_any v (flat_map g ds) ≡ list_any (λ d. list_any v (g d)) ds
any_flat_map v g [] = refl
any_flat_map v g (d ∷ ds) = list_any-append v (g d) (flat_map g ds) ∙ ap (λ b. list_any v (g d) || b) (any_flat_map v g ds)

turned : (a b c k : Bool) → ((a && b) && (c && k)) ≡ (k && (a && (b && c)))
turned true true true true = refl
turned true true true false = refl
turned true true false true = refl
turned true true false false = refl
turned true false true true = refl
turned true false true false = refl
turned true false false true = refl
turned true false false false = refl
turned false true true true = refl
turned false true true false = refl
turned false true false true = refl
turned false true false false = refl
turned false false true true = refl
turned false false true false = refl
turned false false false true = refl
turned false false false false = refl

spread : (k a b : Bool) → ((k && a) || (k && b)) ≡ (k && (a || b))
spread true a b = refl
spread false a b = refl

never : (k : Bool) → false ≡ (k && false)
never true = refl
never false = refl

-- the rows of a class: its number is one thing that is asked, and its members another
of_rows : (ts : List (List ℕ)) (v : MemberRow → Bool) (d : ℕ) (k : Bool) (test : NamedMember → Bool) (i : ℕ) (ms : List NamedMember)
    → ((i : ℕ) (m : NamedMember) → v (row_of ts d i m) ≡ (k && test m)) → list_any v (rows_from ts d i ms) ≡ (k && list_any test ms)
of_rows ts v d k test i [] same = never k
of_rows ts v d k test i (m ∷ ms) same =
    ap (λ b. b || list_any v (rows_from ts d (i + 1) ms)) (same i m) ∙ ap (λ b. (k && test m) || b) (of_rows ts v d k test (i + 1) ms same) ∙ spread k (test m) (list_any test ms)

any_same : (f g : ℕ → Bool) (ds : List ℕ) → ((d : ℕ) → f d ≡ g d) → list_any f ds ≡ list_any g ds
any_same f g [] same = refl
any_same f g (d ∷ ds) same = ap (λ b. b || list_any f ds) (same d) ∙ ap (λ b. g d || b) (any_same f g ds same)

-- what one number of a list passes, one passes
one_passes : (g : ℕ → Bool) (xs : List ℕ) (x : ℕ) → has_number xs x ≡ true → g x ≡ true → list_any g xs ≡ true
one_passes g [] x there passes = absurd (true≢false (sym there))
one_passes g (y ∷ xs) x there passes = go (y == x) refl there (one_passes g xs x)
  where
    go : (b : Bool) → (y == x) ≡ b → (b || has_number xs x) ≡ true → (has_number xs x ≡ true → g x ≡ true → list_any g xs ≡ true) → (g y || list_any g xs) ≡ true
    go true same h later = ap (λ b. b || list_any g xs) (ap g (eqb-true y x same) ∙ passes)
    go false other h later = elim (g y) as (λ b. (b || list_any g xs) ≡ true) [ true ↦ refl | false ↦ later h passes ]

passing : (g : ℕ → Bool) (xs : List ℕ) → list_any g xs ≡ true → (x : ℕ) × (has_number xs x ≡ true) × (g x ≡ true)
passing g [] e = absurd (true≢false (sym e))
passing g (y ∷ xs) e = go (g y) refl e (passing g xs)
  where
    go : (b : Bool) → g y ≡ b → (b || list_any g xs) ≡ true → (list_any g xs ≡ true → (x : ℕ) × (has_number xs x ≡ true) × (g x ≡ true)) → (x : ℕ) × (has_number (y ∷ xs) x ≡ true) × (g x ≡ true)
    go true is h later = (y, ap (λ b. b || has_number xs y) (eq-eqb y y refl), is)
    go false is h later = (let f = later h in (f.0, elim (y == f.0) as (λ b. (b || has_number xs f.0) ≡ true) [ true ↦ refl | false ↦ f.1 ], f.2))

in_range : (a n x : ℕ) → a ≤ x → x < a + n → has_number (range_with_len a n) x ≡ true
in_range a zero x low high = absurd (omega arith)
in_range a (suc n) x low high = go (cases_eq a x) (in_range (a + 1) n x)
  where
    go : (a ≡ x) ⊎ (a ≢ x) → (a + 1 ≤ x → x < a + 1 + n → has_number (range_with_len (a + 1) n) x ≡ true) → (a == x || has_number (range_with_len (a + 1) n) x) ≡ true
    go (inl same) later = ap (λ b. b || has_number (range_with_len (a + 1) n) x) (eq-eqb a x same)
    go (inr other) later = ap (λ b. b || has_number (range_with_len (a + 1) n) x) (ne_eqb a x other) ∙ later (omega (arith, other)) (omega (arith, other))

same_bools : (a b : Bool) → (a ≡ true → b ≡ true) → (b ≡ true → a ≡ true) → a ≡ b
same_bools true b f g = sym (f refl)
same_bools false true f g = g refl
same_bools false false f g = refl

-- what holds of no other number may be looked for among the numbers up to a greatest one
through_all : (g : ℕ → Bool) (xs : List ℕ) (n : ℕ) → ((d : ℕ) → g d ≡ true → (1 ≤ d) × (d ≤ n)) → list_any (λ d. has_number xs d && g d) (range_with_len 1 n) ≡ list_any g xs
through_all g xs n inside = same_bools (list_any (λ d. has_number xs d && g d) (range_with_len 1 n)) (list_any g xs)
    (λ e. let f = passing (λ d. has_number xs d && g d) (range_with_len 1 n) e in one_passes g xs f.0 (and_parts (has_number xs f.0) (g f.0) f.2).0 (and_parts (has_number xs f.0) (g f.0) f.2).1)
    (λ e. let f = passing g xs e in
    let room = inside f.0 f.2 in
    let low : 1 ≤ f.0 = room.0 in
    let high : f.0 ≤ n = room.1 in
    one_passes (λ d. has_number xs d && g d) (range_with_len 1 n) f.0 (in_range 1 n f.0 low (omega arith)) (ap (λ b. b && g f.0) f.1 ∙ f.2))

module _ (us : List ClassUnit) (p : ProgramTexts) (hs : List ℕ) (init : ℕ) (t : Tables) (is : IsLookup us p hs init t)
    (name descriptor : ℕ) (r : Reference) (have : HaveNumbers p name descriptor r) where
  pub final_is : (members : List MemberRow) (c : ℕ) (order : List ℕ) → members ≡ filter (has_signature name descriptor) t.virtuals → order ≡ without_repeats (superclasses (classes_of us) c)
      → list_any (λ (m : MemberRow). has m.flags 16 && not (rank order m.class == 0)) members
      ≡ list_any (λ d. list_any (λ n. is_member r n && (is_virtual n && has n.flags 16)) (methods_of (classes_of p.units) d)) (superclasses (classes_of p.units) c)
  final_is members c order mine through =
      ap (list_any w) (mine ∙ ap (filter (has_signature name descriptor)) is.tables.virtuals_are
      ∙ both_filters (has_signature name descriptor) is_virtual_row (rows_of_classes p.texts (methods_of cs) (length cs)))
      ∙ any_filter (λ x. has_signature name descriptor x && is_virtual_row x) w (rows_of_classes p.texts (methods_of cs) (length cs))
      ∙ any_flat_map (λ m. (has_signature name descriptor m && is_virtual_row m) && w m) (class_rows p.texts (methods_of cs)) (range_with_len 1 (length cs))
      ∙ any_same (λ d. list_any (λ m. (has_signature name descriptor m && is_virtual_row m) && w m) (class_rows p.texts (methods_of cs) d)) (λ d. has_number (superclasses cs c) d && g d) (range_with_len 1 (length cs))
      (λ d. of_rows p.texts (λ m. (has_signature name descriptor m && is_virtual_row m) && w m) d (not (rank order d == 0)) (λ n. is_member r n && (is_virtual n && has n.flags 16)) 0 (methods_of cs d)
      (λ i m. ap (λ b. (b && is_virtual m) && (has m.flags 16 && not (rank order d == 0))) (signed_by us p hs init t is name descriptor r have d i m) ∙ turned (is_member r m) (is_virtual m) (has m.flags 16) (not (rank order d == 0)))
      ∙ ap (λ b. b && g d) (there d))
      ∙ through_all g (superclasses cs c) (length cs) inside
      ∙ ap (λ u. list_any (λ d. list_any (λ n. is_member r n && (is_virtual n && has n.flags 16)) (methods_of (classes_of u) d)) (superclasses (classes_of u) c)) (sym is.units)
    where
      cs : List NamedClass
      cs = classes_of us

      w : MemberRow → Bool
      w m = has m.flags 16 && not (rank order m.class == 0)

      g : ℕ → Bool
      g d = list_any (λ n. is_member r n && (is_virtual n && has n.flags 16)) (methods_of cs d)

      ranked_is : (xs : List ℕ) (x : ℕ) → not (rank xs x == 0) ≡ has_number xs x
      ranked_is xs x = elim (cases_Bool (has_number xs x)) [
        | inl there ↦ ap not (ne_eqb (rank xs x) 0 (ranked xs x there)) ∙ sym there
        | inr none ↦ ap not (eq-eqb (rank xs x) 0 (unranked xs x none)) ∙ sym none
      ]

      there : (d : ℕ) → not (rank order d == 0) ≡ has_number (superclasses cs c) d
      there d = ranked_is order d ∙ ap (λ xs. has_number xs d) through ∙ has_put_all [] (superclasses cs c) d

      inside : (d : ℕ) → g d ≡ true → (1 ≤ d) × (d ≤ length cs)
      inside zero e = absurd (true≢false (sym e))
      inside (suc d) e = elim (cases_lt (length cs) (suc d)) [
        | inl past ↦ absurd (true≢false (sym e ∙ ap (list_any (λ n. is_member r n && (is_virtual n && has n.flags 16))) (no_methods cs (suc d) past)))
        | inr room ↦ (omega arith, room)
      ]
