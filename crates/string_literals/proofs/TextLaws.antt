-- Texts with numbers, one text after the other.
use Rattle.std.proofs.Common.{◌≡◌, ◌≢◌, ◌⊎◌, ℕ, zero, suc, ◌+◌, ◌<◌, ◌≤◌, Bool, true, false, cond, List, [], ◌∷◌, ◌++◌, length, slice_get, Option, None, Some, inl, inr, refl, sym, ap, subst, ◌∙◌, bytes_eq, append_assoc, fold, unwrap_or, arith}
use Rattle.std.specs.List.{position_from, list_any}
use Rattle.std.specs.Map.{update}
use Rattle.std.proofs.lemmas.Bool.{cases_Bool}
use Rattle.std.proofs.lemmas.List.{append-nil, length_push}
use Rattle.std.proofs.lemmas.Option.{none-some}
use Rattle.std.proofs.lemmas.Slice.Eq.{bytes_eq-Decides}
use Rattle.link_rules.proofs.Lists.{position_stays, position_push}
use Rattle.string_literals.specs.Texts.{with_text, with_literal, HasNumber}

-- a text that has a number is there, and one that has none isn't
pub position_any : {X : Type 0} (test : X → Bool) (n : ℕ) (xs : List X) → list_any test xs ≡ Rattle.std.proofs.Common.is_some (position_from test n xs)
position_any test n [] = refl
position_any test n (x ∷ xs) = elim (test x) as (λ b. (Rattle.std.specs.Prelude.◌||◌ b (list_any test xs)) ≡ Rattle.std.proofs.Common.is_some (cond b (Some n) (position_from test (n + 1) xs))) [
  | true ↦ refl
  | false ↦ position_any test (n + 1) xs
]

-- ---- one more text

pub known_already : (known : List (List ℕ)) (text : List ℕ) (n : ℕ) → HasNumber known text n → known ≡ with_text known text
known_already known text n has =
    let any : list_any (bytes_eq text) known ≡ true = position_any (bytes_eq text) 0 known ∙ ap Rattle.std.proofs.Common.is_some has in
    sym (ap (λ b. cond b known (known ++ text ∷ [])) any)

pub text_is_new : (known : List (List ℕ)) (text : List ℕ) → position_from (bytes_eq text) 0 known ≡ None → known ++ text ∷ [] ≡ with_text known text
text_is_new known text none =
    let any : list_any (bytes_eq text) known ≡ false = position_any (bytes_eq text) 0 known ∙ ap Rattle.std.proofs.Common.is_some none in
    sym (ap (λ b. cond b known (known ++ text ∷ [])) any)

pub new_number : (known : List (List ℕ)) (text : List ℕ) → position_from (bytes_eq text) 0 known ≡ None → HasNumber (known ++ text ∷ []) text (length known)
new_number known text none =
    let same : bytes_eq text text ≡ true = (bytes_eq-Decides text text).1 refl in
    let count : 0 + length known ≡ length known = omega arith in
    position_push (bytes_eq text) 0 known text none ∙ ap (λ b. cond b (Some (0 + length known)) None) same ∙ ap (λ n. Some n) count

-- the numbers of all texts, with the new one
pub numbers_push : (old new : List ℕ → Option ℕ) (known : List (List ℕ)) (text : List ℕ) (n : ℕ)
    → ((q : List ℕ) → new q ≡ update bytes_eq old text (Some n) q) → ((q : List ℕ) → old q ≡ position_from (bytes_eq q) 0 known)
    → n ≡ length known → position_from (bytes_eq text) 0 known ≡ None → (q : List ℕ) → new q ≡ position_from (bytes_eq q) 0 (known ++ text ∷ [])
numbers_push old new known text n changes are count none q = by_cases (cases_Bool (bytes_eq text q))
  where
    by_cases : (bytes_eq text q ≡ true) ⊎ (bytes_eq text q ≡ false) → new q ≡ position_from (bytes_eq q) 0 (known ++ text ∷ [])
    by_cases (inl same) =
        let e : text ≡ q = (bytes_eq-Decides text q).0 same in
        let here : new q ≡ Some n = rw same at (changes q) in
        here ∙ ap (λ m. Some m) count ∙ sym (new_number known text none) ∙ ap (λ t. position_from (bytes_eq t) 0 (known ++ text ∷ [])) e
    by_cases (inr other) =
        let stays : new q ≡ old q = rw other at (changes q) in
        stays ∙ are q ∙ there (position_from (bytes_eq q) 0 known) refl
      where
        other_way : bytes_eq q text ≡ false
        other_way = elim (cases_Bool (bytes_eq q text)) [
          | inl same ↦ absurd (let back : bytes_eq text q ≡ true = (bytes_eq-Decides text q).1 (sym ((bytes_eq-Decides q text).0 same)) in cc)
          | inr differs ↦ differs
        ]

        there : (o : Option ℕ) → position_from (bytes_eq q) 0 known ≡ o → position_from (bytes_eq q) 0 known ≡ position_from (bytes_eq q) 0 (known ++ text ∷ [])
        there None is = is ∙ sym (position_push (bytes_eq q) 0 known text is ∙ ap (λ b. cond b (Some (0 + length known)) None) other_way)
        there (Some i) is = is ∙ sym (position_stays (bytes_eq q) 0 i known (text ∷ []) is)

-- ---- lists that grow

abbrev pub Grows : List (List ℕ) → List (List ℕ) → Type 0
Grows old new = (more : List (List ℕ)) × (new ≡ old ++ more)

pub grows_not : (known : List (List ℕ)) → Grows known known
grows_not known = ([], sym (append-nil known))

pub grows_through : (a b c : List (List ℕ)) → Grows a b → Grows b c → Grows a c
grows_through a b c one two = (one.0 ++ two.0, two.1 ∙ ap (λ xs. xs ++ two.0) one.1 ∙ append_assoc a one.0 two.0)

pub text_grows : (known : List (List ℕ)) (text : List ℕ) → Grows known (with_text known text)
text_grows known text = go (list_any (bytes_eq text) known)
  where
    go : (b : Bool) → Grows known (cond b known (known ++ text ∷ []))
    go true = grows_not known
    go false = (text ∷ [], refl)

pub literal_grows : (known : List (List ℕ)) (o : Option (List ℕ)) → Grows known (with_literal known o)
literal_grows known None = grows_not known
literal_grows known (Some text) = text_grows known text

pub texts_grow : (texts known : List (List ℕ)) → Grows known (fold with_text known texts)
texts_grow [] known = grows_not known
texts_grow (t ∷ texts) known = grows_through known (with_text known t) (fold with_text (with_text known t) texts) (text_grows known t) (texts_grow texts (with_text known t))

pub number_stays : (old new : List (List ℕ)) (text : List ℕ) (n : ℕ) → Grows old new → HasNumber old text n → HasNumber new text n
number_stays old new text n grows has = ap (position_from (bytes_eq text) 0) grows.1 ∙ position_stays (bytes_eq text) 0 n old grows.0 has

pub few_more : (known : List (List ℕ)) (o : Option (List ℕ)) → length (with_literal known o) ≤ length known + 1
few_more known None = omega arith
few_more known (Some text) = go (list_any (bytes_eq text) known)
  where
    go : (b : Bool) → length (cond b known (known ++ text ∷ [])) ≤ length known + 1
    go true = omega arith
    go false = (let push = length_push known text in omega arith)
