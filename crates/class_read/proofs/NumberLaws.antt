-- The numbers of texts: the first index at which each is.
use Rattle.std.proofs.Common.{◌≡◌, ℕ, zero, suc, ◌+◌, Bool, true, false, cond, List, [], ◌∷◌, ◌++◌, take, drop, slice_get, Option, None, Some, refl, sym, ◌∙◌, ap, add-one, subst, arith, inl, inr, bytes_eq, ◌⊎◌, map}
use Rattle.std.proofs.lemmas.List.{take-append-drop, map-append}
use Rattle.std.specs.List.{position_from}
use Rattle.std.specs.Map.{update}
use Rattle.std.proofs.lemmas.Bool.{cases_Bool}
use Rattle.std.proofs.lemmas.Slice.Eq.{bytes_eq-Decides}
use Rattle.class_walk.specs.declared.class.Constant.{Constant}
use Rattle.class_walk.specs.declared.class.Constant.TheVariants.{Utf8}
use Rattle.class_read.specs.Repeats.{has_text, number_in, number_of}
use Rattle.class_read.proofs.FindLaws.{take_next}

position_behind : {X : Type 0} (test : X → Bool) (k : ℕ) (xs ys : List X) (n : ℕ) → position_from test k xs ≡ Some n → position_from test k (xs ++ ys) ≡ Some n
position_behind test k [] ys n e = absurd cc
position_behind test k (x ∷ xs) ys n e = elim (test x) as (λ b. cond b (Some k) (position_from test (k + 1) xs) ≡ Some n → cond b (Some k) (position_from test (k + 1) (xs ++ ys)) ≡ Some n) [ true ↦ λ f. f | false ↦ λ f. position_behind test (k + 1) xs ys n f ] e

-- where no item before passes, the place of the next one is its index or none
position_none : {X : Type 0} (test : X → Bool) (k : ℕ) (xs : List X) (i : ℕ) (x : X) → slice_get xs i ≡ Some x → position_from test k (take i xs) ≡ None → position_from test k (take (i + 1) xs) ≡ cond (test x) (Some (k + i)) None
position_none test k [] i x at none = absurd cc
position_none {X} test k (y ∷ ys) zero x at none =
    let same : y ≡ x = cc in
    let P : X → Type 0 = λ z. cond (test z) (Some k) None ≡ cond (test x) (Some (k + 0)) None in
    let sum : k ≡ k + 0 = omega arith in
    subst P (sym same) (ap (λ (m : ℕ). cond (test x) (Some m) None) sum)
position_none test k (y ∷ ys) (suc i) x at none =
    let sum : k + 1 + i ≡ k + suc i = omega arith in
    let step : take (suc i + 1) (y ∷ ys) ≡ y ∷ take (i + 1) ys = simp add-one in
    rw step (elim (test y) as (λ b. cond b (Some k) (position_from test (k + 1) (take i ys)) ≡ None → cond b (Some k) (position_from test (k + 1) (take (i + 1) ys)) ≡ cond (test x) (Some (k + suc i)) None) [
      | true ↦ λ f. absurd cc
      | false ↦ λ f. position_none test (k + 1) ys i x at f ∙ ap (λ (m : ℕ). cond (test x) (Some m) None) sum
    ] none)

-- a number among the first entries is the number among all
pub number_stays : (pool : List Constant) (i : ℕ) (text : List ℕ) (n : ℕ) → number_in (take i pool) text ≡ Some n → number_in pool text ≡ Some n
number_stays pool i text n e =
    let P : List Constant → Type 0 = λ xs. number_in xs text ≡ Some n in
    subst P (take-append-drop i pool) (position_behind (has_text text) 0 (take i pool) (drop i pool) n e)

number_next : (pool : List Constant) (i : ℕ) (c : Constant) (text : List ℕ) (n : ℕ) → slice_get pool i ≡ Some c → number_in (take i pool) text ≡ Some n → number_in (take (i + 1) pool) text ≡ Some n
number_next pool i c text n at e = rw (take_next pool i c at) (position_behind (has_text text) 0 (take i pool) (c ∷ []) n e)

-- what is known of each text, as a function
abbrev pub Tells : (List ℕ → Option ℕ) → List Constant → ℕ → Type 0
Tells known pool end = (text : List ℕ) → known text ≡ number_in (take end pool) text

pub tells_past : (known : List ℕ → Option ℕ) (pool : List Constant) (i : ℕ) (c : Constant) (text : List ℕ) (r : Option ℕ) → slice_get pool i ≡ Some c → known text ≡ r → known text ≡ number_in (take i pool) text → (r ≡ None → has_text text c ≡ false) → known text ≡ number_in (take (i + 1) pool) text
tells_past known pool i c text None at is e other =
    let none : number_in (take i pool) text ≡ None = sym e ∙ is in
    let differs = other refl in
    is ∙ sym (rw differs at (position_none (has_text text) 0 pool i c at none))
tells_past known pool i c text (Some n) at is e other = is ∙ sym (number_next pool i c text n at (sym e ∙ is))

-- a text that is known already
pub known_before : (known : List ℕ → Option ℕ) (pool : List Constant) (i : ℕ) (text : List ℕ) (n : ℕ) → slice_get pool i ≡ Some (Utf8 text) → Tells known pool i → known text ≡ Some n → Tells known pool (i + 1)
known_before known pool i text n at tells here q =
    tells_past known pool i (Utf8 text) q (known q) at refl (tells q) (λ none. differs none (cases_Bool (bytes_eq text q)))
  where
    differs : known q ≡ None → (bytes_eq text q ≡ true) ⊎ (bytes_eq text q ≡ false) → bytes_eq text q ≡ false
    differs none (inl same) =
        let e = (bytes_eq-Decides text q).0 same in
        let P : List ℕ → Type 0 = λ t. known t ≡ Some n in
        let found : known q ≡ Some n = subst P e here in
        absurd cc
    differs none (inr other) = other

abbrev some_of : ℕ → Option ℕ
some_of n = Some n

-- a text that is new
pub known_now : (known next : List ℕ → Option ℕ) (pool : List Constant) (i : ℕ) (text : List ℕ) → slice_get pool i ≡ Some (Utf8 text) → Tells known pool i → known text ≡ None → ((q : List ℕ) → next q ≡ update bytes_eq known text (Some i) q) → Tells next pool (i + 1)
known_now known next pool i text at tells new changes q = by_cases (cases_Bool (bytes_eq text q))
  where
    by_cases : (bytes_eq text q ≡ true) ⊎ (bytes_eq text q ≡ false) → next q ≡ number_in (take (i + 1) pool) q
    by_cases (inl same) =
        let e = (bytes_eq-Decides text q).0 same in
        let sum : 0 + i ≡ i = omega arith in
        let P : List ℕ → Type 0 = λ t. known t ≡ None in
        let none : number_in (take i pool) q ≡ None = sym (tells q) ∙ subst P e new in
        let here : number_in (take (i + 1) pool) q ≡ Some i = rw same at (position_none (has_text q) 0 pool i (Utf8 text) at none) ∙ ap (λ (m : ℕ). some_of m) sum in
        rw same at (changes q) ∙ sym here
    by_cases (inr other) =
        let stays : next q ≡ known q = rw other at (changes q) in
        stays ∙ tells_past known pool i (Utf8 text) q (known q) at refl (tells q) (λ none. other)

-- an entry that is no text
pub known_still : (known : List ℕ → Option ℕ) (pool : List Constant) (i : ℕ) (c : Constant) → slice_get pool i ≡ Some c → Tells known pool i → ((q : List ℕ) → has_text q c ≡ false) → Tells known pool (i + 1)
known_still known pool i c at tells no_text q = tells_past known pool i c q (known q) at refl (tells q) (λ none. no_text q)

-- the number of a text at an index that was gone over
pub number_here : (known : List ℕ → Option ℕ) (pool : List Constant) (end : ℕ) (text : List ℕ) (n : ℕ) → Tells known pool end → known text ≡ Some n → number_in pool text ≡ Some n
number_here known pool end text n tells e = number_stays pool end text n (sym (tells text) ∙ e)

-- what is known right after
pub told_now : (known next : List ℕ → Option ℕ) (text : List ℕ) (i : ℕ) → ((q : List ℕ) → next q ≡ update bytes_eq known text (Some i) q) → next text ≡ Some i
told_now known next text i changes =
    let same = (bytes_eq-Decides text text).1 refl in
    rw same at (changes text)

-- an entry that isn't Utf8 has no text and no number
pub no_text : (c : Constant) → ((text : List ℕ) → c ≡ Utf8 text → ⊥) → (q : List ℕ) → has_text q c ≡ false
no_text (Utf8 text) other q = absurd (other text refl)
no_text _ other q = refl

pub no_number : (pool : List Constant) (c : Constant) → ((text : List ℕ) → c ≡ Utf8 text → ⊥) → number_of pool c ≡ None
no_number pool (Utf8 text) other = absurd (other text refl)
no_number pool _ other = refl

pub numbers_more : (f : Constant → Option ℕ) (pool : List Constant) (i : ℕ) (c : Constant) (numbers : List (Option ℕ)) (number : Option ℕ) → slice_get pool i ≡ Some c → f c ≡ number → numbers ≡ map f (take i pool) → numbers ++ number ∷ [] ≡ map f (take (i + 1) pool)
numbers_more f pool i c numbers number at e all =
    let is : map f (take (i + 1) pool) ≡ map f (take i pool) ++ f c ∷ [] = ap (map f) (take_next pool i c at) ∙ map-append f (take i pool) (c ∷ []) in
    rw (is, e, all) refl
