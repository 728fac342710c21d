-- Array classes and string literals have their numbers.
use Rattle.std.proofs.Common.{◌≡◌, ◌⊎◌, ℕ, suc, ◌+◌, ◌-◌, Bool, true, false, cond, nat_le, List, [], ◌∷◌, ◌++◌, length, Contains, Option, None, Some, IsSomeAnd, slice_get, option_map, unwrap_or, fold, filter_map, inl, inr, refl, sym, ap, subst, ◌∙◌, bytes_eq, arith}
use Rattle.std.specs.List.{position_from, list_any}
use Rattle.std.proofs.lemmas.Bool.{lt-leb, true≢false}
use Rattle.std.proofs.lemmas.List.Elements.{Contains-append_left, Contains-push}
use Rattle.std.proofs.lemmas.Slice.Eq.{bytes_eq-Decides}
use Rattle.class_walk.specs.declared.class.Constant.TheVariants.{Str}
use Rattle.code_decode.specs.declared.code.ClassUnit.{ClassUnit}
use Rattle.link_rules.specs.Classes.{utf8_at}
use Rattle.link_rules.specs.Arrays.{is_before, put_in_order, array_names}
use Rattle.link_rules.specs.Strings.{literal_in, literal_text, each_once, string_texts}
use Rattle.link_rules.specs.Names.{ProgramNames, program_names, array_numbered}
use Rattle.link_rules.specs.Laws.{HasNumber, LiteralsAreThere}
use Rattle.link_rules.proofs.Lists.{contains_head, contains_tail, contains_cases, contains_none, contains_flat_map, contains_filter_map, contains_at, position_of_text}

-- ---- literals

any_contains : (text : List ℕ) (known : List (List ℕ)) → list_any (bytes_eq text) known ≡ true → Contains known text
any_contains text [] e = absurd (true≢false (sym e))
any_contains text (x ∷ xs) e = go (bytes_eq text x) refl e (any_contains text xs)
  where
    go : (b : Bool) → bytes_eq text x ≡ b → (Rattle.std.specs.Prelude.◌||◌ b (list_any (bytes_eq text) xs)) ≡ true → (list_any (bytes_eq text) xs ≡ true → Contains xs text) → Contains (x ∷ xs) text
    go true is e later = subst (λ y. Contains (x ∷ xs) y) (sym ((bytes_eq-Decides text x).0 is)) (contains_head x xs)
    go false is e later = contains_tail x xs text (later e)

add : List (List ℕ) → List ℕ → List (List ℕ)
add known text = cond (list_any (bytes_eq text) known) known (known ++ text ∷ [])

add_keeps : (known : List (List ℕ)) (text other : List ℕ) → Contains known other → Contains (add known text) other
unfolding add
add_keeps known text other h =
    elim (list_any (bytes_eq text) known) as (λ b. Contains (cond b known (known ++ text ∷ [])) other) [
      | true ↦ h
      | false ↦ Contains-append_left known (text ∷ []) other h
    ]

add_has : (known : List (List ℕ)) (text : List ℕ) → Contains (add known text) text
unfolding add
add_has known text = go (list_any (bytes_eq text) known) refl
  where
    go : (b : Bool) → list_any (bytes_eq text) known ≡ b → Contains (cond b known (known ++ text ∷ [])) text
    go true is = any_contains text known is
    go false is = Contains-push known text

all_added_keep : (texts known : List (List ℕ)) (other : List ℕ) → Contains known other → Contains (fold add known texts) other
all_added_keep [] known other h = h
all_added_keep (t ∷ texts) known other h = all_added_keep texts (add known t) other (add_keeps known t other h)

all_added : (texts known : List (List ℕ)) (text : List ℕ) → Contains texts text → Contains (fold add known texts) text
all_added [] known text h = absurd (contains_none text h)
all_added (t ∷ texts) known text h =
    elim (contains_cases t texts text h) [
      | inl same ↦ all_added_keep texts (add known t) text (subst (λ x. Contains (add known t) x) same (add_has known t))
      | inr later ↦ all_added texts (add known t) text later
    ]

once_has : (texts : List (List ℕ)) (text : List ℕ) → Contains texts text → Contains (each_once texts) text
unfolding add
once_has texts text h = all_added texts [] text h

number_is_place : (texts : List (List ℕ)) (text : List ℕ) → Contains texts text → slice_get texts (unwrap_or (position_from (bytes_eq text) 0 texts) 0) ≡ Some text
number_is_place texts text h = go (position_from (bytes_eq text) 0 texts) (position_of_text texts text h)
  where
    go : (o : Option ℕ) → IsSomeAnd o (λ i. slice_get texts i ≡ Some text) → slice_get texts (unwrap_or o 0) ≡ Some text
    go None h = absurd h
    go (Some i) h = h

pub literals : (us : List ClassUnit) → LiteralsAreThere us
literals us k i at u here there =
    let text : List ℕ = literal_text (utf8_at u.file.pool at) in
    let mine : Contains (filter_map (literal_in u.file.pool) u.file.pool) text =
    contains_filter_map (literal_in u.file.pool) u.file.pool (Str at) text (contains_at u.file.pool i (Str at) there) refl in
    number_is_place (string_texts us) text
    (once_has _ text (contains_flat_map (λ (x : ClassUnit). filter_map (literal_in x.file.pool) x.file.pool) us u text (contains_at us k u here) mine))

-- ---- array classes

put_keeps : (text : List ℕ) (others : List (List ℕ)) (other : List ℕ) → Contains others other → Contains (put_in_order text others) other
put_keeps text [] other h = absurd (contains_none other h)
put_keeps text (x ∷ xs) other h = go (is_before text x) (bytes_eq text x) (contains_cases x xs other h) (put_keeps text xs other)
  where
    kept : (x ≡ other) ⊎ Contains xs other → (Contains xs other → Contains (put_in_order text xs) other) → Contains (x ∷ put_in_order text xs) other
    kept h later = elim h [
      | inl same ↦ subst (λ y. Contains (x ∷ put_in_order text xs) y) same (contains_head x (put_in_order text xs))
      | inr c ↦ contains_tail x (put_in_order text xs) other (later c)
    ]

    go : (a b : Bool) → (x ≡ other) ⊎ Contains xs other → (Contains xs other → Contains (put_in_order text xs) other) → Contains (cond a (text ∷ x ∷ xs) (cond b (x ∷ xs) (x ∷ put_in_order text xs))) other
    go true b c later = contains_tail text (x ∷ xs) other h
    go false true c later = h
    go false false c later = kept c later

put_has : (text : List ℕ) (others : List (List ℕ)) → Contains (put_in_order text others) text
put_has text [] = contains_head text []
put_has text (x ∷ xs) = go (is_before text x) (bytes_eq text x) refl (put_has text xs)
  where
    go : (a b : Bool) → bytes_eq text x ≡ b → Contains (put_in_order text xs) text → Contains (cond a (text ∷ x ∷ xs) (cond b (x ∷ xs) (x ∷ put_in_order text xs))) text
    go true b is later = contains_head text (x ∷ xs)
    go false true is later = subst (λ y. Contains (x ∷ xs) y) (sym ((bytes_eq-Decides text x).0 is)) (contains_head x xs)
    go false false is later = contains_tail x (put_in_order text xs) text later

all_put_keep : (texts known : List (List ℕ)) (other : List ℕ) → Contains known other → Contains (fold (λ sorted text. put_in_order text sorted) known texts) other
all_put_keep [] known other h = h
all_put_keep (t ∷ texts) known other h = all_put_keep texts (put_in_order t known) other (put_keeps t known other h)

pub all_put : (texts known : List (List ℕ)) (text : List ℕ) → Contains texts text → Contains (fold (λ sorted text. put_in_order text sorted) known texts) text
all_put [] known text h = absurd (contains_none text h)
all_put (t ∷ texts) known text h =
    elim (contains_cases t texts text h) [
      | inl same ↦ all_put_keep texts (put_in_order t known) text (subst (λ x. Contains (put_in_order t known) x) same (put_has t known))
      | inr later ↦ all_put texts (put_in_order t known) text later
    ]

-- a text that is there has a number
pub has_number : (us : List ClassUnit) (name : List ℕ) → Contains (array_names us) name → HasNumber (program_names us) name
has_number us name h = go (position_from (bytes_eq name) 0 (array_names us)) (position_of_text (array_names us) name h)
  where
    p : ProgramNames
    p = program_names us

    number_behind : (n i : ℕ) → nat_le (suc (n + i)) n ≡ false
    number_behind n i = lt-leb (suc (n + i)) n (omega arith)

    go : (o : Option ℕ) → IsSomeAnd o (λ i. slice_get (array_names us) i ≡ Some name) → IsSomeAnd (option_map (λ i. suc (length (program_names us).classes + i)) o) (λ c. array_numbered (program_names us) c ≡ Some name)
    go None h = absurd h
    go (Some i) h =
        let n : ℕ = length (program_names us).classes in
        let place : suc (n + i) - suc n ≡ i = omega arith in
        ap (λ b. cond b None (slice_get (array_names us) (suc (n + i) - suc n))) (number_behind n i) ∙ ap (slice_get (array_names us)) place ∙ h
