-- Lists: what is found in them.
use Rattle.std.proofs.Common.{◌≡◌, ◌⊎◌, ℕ, zero, suc, bytes_eq, take, filter, filter_map, flat_map, IsSomeAnd, true≢false, ◌+◌, ◌<◌, Bool, true, false, cond, List, [], ◌∷◌, ◌++◌, length, Contains, Option, None, Some, slice_get, inl, inr, refl, sym, ap, subst, ◌∙◌, zero-add, suc-add, zero-lt-suc, arith}
use Rattle.std.specs.List.{position_from, cons_option}
use Rattle.std.proofs.lemmas.Option.{same_Some, none-some, slice_get_within, get_or_from_slice_get}
use Rattle.std.proofs.lemmas.List.Elements.{Contains-append_left, Contains-append_right}
use Rattle.std.proofs.lemmas.Slice.Eq.{bytes_eq-Decides}
use Rattle.link_rules.specs.Members.{first_some, or_first}

-- the item at an index passes a test
pub record Found {X : Type 0} (test : X → Bool) (xs : List X) (k : ℕ) : Type 0 where
  pub item : X
  pub there : slice_get xs k ≡ Some item
  pub passes : test item ≡ true

found_later : {X : Type 0} (test : X → Bool) (x : X) (xs : List X) (k : ℕ) → Found test xs k → Found test (x ∷ xs) (suc k)
found_later test x xs k f = record { item = f.item; there = f.there; passes = f.passes }

pub position_found : {X : Type 0} (test : X → Bool) (n : ℕ) (xs : List X) (i : ℕ) → position_from test n xs ≡ Some i → (k : ℕ) × (i ≡ n + k) × Found test xs k
position_found test n [] i e = absurd (none-some i e)
position_found {X} test n (x ∷ xs) i e = go (test x) refl (position_found test (n + 1) xs i) e
  where
    go : (b : Bool) → test x ≡ b → (position_from test (n + 1) xs ≡ Some i → (k : ℕ) × (i ≡ n + 1 + k) × Found test xs k) → cond b (Some n) (position_from test (n + 1) xs) ≡ Some i → (k : ℕ) × (i ≡ n + k) × Found test (x ∷ xs) k
    go true is later e =
        let same : n ≡ i = same_Some n i e in
        (0, omega arith, record { item = x; there = refl; passes = is })
    go false is later e =
        let h : (k : ℕ) × (i ≡ n + 1 + k) × Found test xs k = later e in
        let same : i ≡ n + 1 + h.0 = h.1 in
        (suc h.0, omega arith, found_later test x xs h.0 h.2)

pub found_at : {X : Type 0} (test : X → Bool) (xs : List X) (i : ℕ) → position_from test 0 xs ≡ Some i → Found test xs i
found_at test xs i e =
    let h : (k : ℕ) × (i ≡ 0 + k) × Found test xs k = position_found test 0 xs i e in
    let same : h.0 ≡ i = sym (h.1 ∙ zero-add h.0) in
    subst (λ k. Found test xs k) same h.2

pub contains_head : {X : Type 0} (x : X) (xs : List X) → Contains (x ∷ xs) x
contains_head x xs = (0, zero-lt-suc (length xs), refl)

pub contains_tail : {X : Type 0} (x : X) (xs : List X) (y : X) → Contains xs y → Contains (x ∷ xs) y
contains_tail x xs y h = (suc h.0, omega (arith, h.1), h.2)

pub contains_cases : {X : Type 0} (x : X) (xs : List X) (y : X) → Contains (x ∷ xs) y → (x ≡ y) ⊎ Contains xs y
contains_cases {X} x xs y h = go h.0 h.1 h.2
  where
    go : (k : ℕ) → k < suc (length xs) → Rattle.std.specs.List.slice_index_or (x ∷ xs) k y ≡ y → (x ≡ y) ⊎ Contains xs y
    go zero lt e = inl e
    go (suc k) lt e = inr (k, omega arith, e)

pub contains_none : {X : Type 0} (y : X) → Contains [] y → ⊥
contains_none y h = let lt : h.0 < 0 = h.1 in omega arith

pub first_some_found : {A B : Type 0} (f : A → Option B) (xs : List A) (y : B) → first_some f xs ≡ Some y → (x : A) × Contains xs x × (f x ≡ Some y)
first_some_found f [] y e = absurd (none-some y e)
first_some_found {A} {B} f (x ∷ xs) y e = go (f x) refl (first_some_found f xs y) e
  where
    go : (o : Option B) → f x ≡ o → (first_some f xs ≡ Some y → (z : A) × Contains xs z × (f z ≡ Some y)) → or_first o (first_some f xs) ≡ Some y → (z : A) × Contains (x ∷ xs) z × (f z ≡ Some y)
    go None is later e =
        let h : (z : A) × Contains xs z × (f z ≡ Some y) = later e in
        (h.0, contains_tail x xs h.0 h.1, h.2)
    go (Some z) is later e = (x, contains_head x xs, is ∙ e)

pub slice_get-behind : {X : Type 0} (xs ys : List X) (k : ℕ) → slice_get (xs ++ ys) (length xs + k) ≡ slice_get ys k
slice_get-behind [] ys k = ap (slice_get ys) (zero-add k)
slice_get-behind (x ∷ xs) ys k =
    let more : suc (length xs) + k ≡ suc (length xs + k) = suc-add (length xs) k in
    ap (slice_get (x ∷ (xs ++ ys))) more ∙ slice_get-behind xs ys k

-- the first item that passes a test is where none before it does
position_first : {X : Type 0} (test : X → Bool) (n : ℕ) (xs : List X) (i : ℕ) (x : X) → slice_get xs i ≡ Some x → test x ≡ true → position_from test n (take i xs) ≡ None → position_from test n xs ≡ Some (n + i)
position_first test n [] i x at passes none = absurd (none-some x at)
position_first test n (y ∷ xs) zero x at passes none =
    let same : y ≡ x = same_Some y x at in
    let mine : test y ≡ true = ap test same ∙ passes in
    ap (λ b. cond b (Some n) (position_from test (n + 1) xs)) mine ∙ ap (λ k. Some k) (omega arith)
position_first {X} test n (y ∷ xs) (suc i) x at passes none = go (test y) refl (position_first test (n + 1) xs i x at passes) none
  where
    go : (b : Bool) → test y ≡ b → (position_from test (n + 1) (take i xs) ≡ None → position_from test (n + 1) xs ≡ Some (n + 1 + i)) → cond b (Some n) (position_from test (n + 1) (take i xs)) ≡ None → cond (test y) (Some n) (position_from test (n + 1) xs) ≡ Some (n + suc i)
    go true is later none = absurd (none-some n (sym none))
    go false is later none =
        let same : n + 1 + i ≡ n + suc i = omega arith in
        ap (λ b. cond b (Some n) (position_from test (n + 1) xs)) is ∙ later none ∙ ap (λ k. Some k) same

pub position_at : {X : Type 0} (test : X → Bool) (xs : List X) (i : ℕ) (x : X) → slice_get xs i ≡ Some x → test x ≡ true → position_from test 0 (take i xs) ≡ None → position_from test 0 xs ≡ Some i
position_at test xs i x at passes none = position_first test 0 xs i x at passes none ∙ ap (λ k. Some k) (zero-add i)

pub contains_flat_map : {X Y : Type 0} (f : X → List Y) (xs : List X) (x : X) (y : Y) → Contains xs x → Contains (f x) y → Contains (flat_map f xs) y
contains_flat_map f [] x y h k = absurd (contains_none x h)
contains_flat_map f (z ∷ xs) x y h k =
    elim (contains_cases z xs x h) [
      | inl same ↦ Contains-append_left (f z) (flat_map f xs) y (subst (λ w. Contains (f w) y) (sym same) k)
      | inr later ↦ Contains-append_right (f z) (flat_map f xs) y (contains_flat_map f xs x y later k)
    ]

pub contains_filter : {X : Type 0} (test : X → Bool) (xs : List X) (x : X) → Contains xs x → test x ≡ true → Contains (filter test xs) x
contains_filter test [] x h passes = absurd (contains_none x h)
contains_filter {X} test (y ∷ xs) x h passes = go (test y) refl (contains_cases y xs x h) (contains_filter test xs x)
  where
    go : (b : Bool) → test y ≡ b → (y ≡ x) ⊎ Contains xs x → (Contains xs x → test x ≡ true → Contains (filter test xs) x) → Contains (cond b (y ∷ filter test xs) (filter test xs)) x
    go true is h again = elim h [ inl same ↦ subst (λ w. Contains (w ∷ filter test xs) x) (sym same) (contains_head x (filter test xs)) | inr later ↦ contains_tail y (filter test xs) x (again later passes) ]
    go false is h again = elim h [ inl same ↦ absurd (true≢false (sym (ap test same ∙ passes) ∙ is)) | inr later ↦ again later passes ]

pub contains_filter_map : {X Y : Type 0} (f : X → Option Y) (xs : List X) (x : X) (y : Y) → Contains xs x → f x ≡ Some y → Contains (filter_map f xs) y
contains_filter_map f [] x y h e = absurd (contains_none x h)
contains_filter_map {X} {Y} f (z ∷ xs) x y h e = go (f z) refl (contains_cases z xs x h) (contains_filter_map f xs x y)
  where
    go : (o : Option Y) → f z ≡ o → (z ≡ x) ⊎ Contains xs x → (Contains xs x → f x ≡ Some y → Contains (filter_map f xs) y) → Contains (cons_option o (filter_map f xs)) y
    go None is h again = elim h [ inl same ↦ absurd (none-some y (sym is ∙ ap f same ∙ e)) | inr later ↦ again later e ]
    go (Some w) is h again = elim h [
      | inl same ↦ subst (λ v. Contains (v ∷ filter_map f xs) y) (sym (same_Some w y (sym is ∙ ap f same ∙ e))) (contains_head y (filter_map f xs))
      | inr later ↦ contains_tail w (filter_map f xs) y (again later e)
    ]

pub contains_at : {X : Type 0} (xs : List X) (i : ℕ) (x : X) → slice_get xs i ≡ Some x → Contains xs x
contains_at xs i x e = (i, slice_get_within xs i x e, get_or_from_slice_get xs i x x e)

-- a text that is there is found by its bytes
pub position_of_text : (texts : List (List ℕ)) (text : List ℕ) → Contains texts text → IsSomeAnd (position_from (bytes_eq text) 0 texts) (λ i. slice_get texts i ≡ Some text)
position_of_text texts text h = go (position_from (bytes_eq text) 0 texts) refl
  where
    never : (n : ℕ) (xs : List (List ℕ)) → Contains xs text → position_from (bytes_eq text) n xs ≡ None → ⊥
    never n [] h e = contains_none text h
    never n (x ∷ xs) h e = step (bytes_eq text x) refl (contains_cases x xs text h) (never (n + 1) xs) e
      where
        step : (b : Bool) → bytes_eq text x ≡ b → (x ≡ text) ⊎ Contains xs text → (Contains xs text → position_from (bytes_eq text) (n + 1) xs ≡ None → ⊥) → cond b (Some n) (position_from (bytes_eq text) (n + 1) xs) ≡ None → ⊥
        step true is h again e = none-some n (sym e)
        step false is h again e = elim h [
          | inl same ↦ true≢false (sym ((bytes_eq-Decides text x).1 (sym same)) ∙ is)
          | inr later ↦ again later e
        ]

    go : (o : Option ℕ) → position_from (bytes_eq text) 0 texts ≡ o → IsSomeAnd o (λ i. slice_get texts i ≡ Some text)
    go None e = absurd (never 0 texts h e)
    go (Some i) e =
        let f : Found (bytes_eq text) texts i = found_at (bytes_eq text) texts i e in
        let same : text ≡ f.item = (bytes_eq-Decides text f.item).0 f.passes in
        f.there ∙ ap (λ x. Some x) (sym same)

-- the first that passes stays where a list grows
pub position_stays : {X : Type 0} (test : X → Bool) (n i : ℕ) (xs ys : List X) → position_from test n xs ≡ Some i → position_from test n (xs ++ ys) ≡ Some i
position_stays test n i [] ys e = absurd (none-some i e)
position_stays test n i (x ∷ xs) ys e = elim (test x) as (λ b. cond b (Some n) (position_from test (n + 1) xs) ≡ Some i → cond b (Some n) (position_from test (n + 1) (xs ++ ys)) ≡ Some i) [
  | true ↦ λ e. e
  | false ↦ λ e. position_stays test (n + 1) i xs ys e
] e

-- what is found with one item more after the others
abbrev pub next : Option ℕ → Bool → ℕ → Option ℕ
next None passes n = cond passes (Some n) None
next (Some m) passes n = Some m

pub position_next : {X : Type 0} (test : X → Bool) (n : ℕ) (xs : List X) (x : X) → position_from test n (xs ++ x ∷ []) ≡ next (position_from test n xs) (test x) (n + length xs)
position_next test n [] x = let sum : n ≡ n + 0 = omega arith in ap (λ (m : ℕ). cond (test x) (Some m) None) sum
position_next test n (y ∷ ys) x =
    let sum : n + 1 + length ys ≡ n + suc (length ys) = omega arith in
    elim (test y) as (λ b. cond b (Some n) (position_from test (n + 1) (ys ++ x ∷ [])) ≡ next (cond b (Some n) (position_from test (n + 1) ys)) (test x) (n + suc (length ys))) [
      | true ↦ refl
      | false ↦ position_next test (n + 1) ys x ∙ ap (next (position_from test (n + 1) ys) (test x)) sum
    ]

-- after others, none of which passes, an item is found at their count
pub position_push : {X : Type 0} (test : X → Bool) (n : ℕ) (xs : List X) (x : X) → position_from test n xs ≡ None → position_from test n (xs ++ x ∷ []) ≡ cond (test x) (Some (n + length xs)) None
position_push test n xs x none = position_next test n xs x ∙ ap (λ o. next o (test x) (n + length xs)) none

-- an item of the first of two lists
pub before_at : {X : Type 0} (xs ys : List X) (j : ℕ) → j < length xs → slice_get (xs ++ ys) j ≡ slice_get xs j
before_at [] ys j lt = absurd (omega arith)
before_at (x ∷ xs) ys zero lt = refl
before_at (x ∷ xs) ys (suc j) lt = before_at xs ys j (omega arith)
