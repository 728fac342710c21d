-- Numbers of texts, one text after the other.
use Rattle.std.proofs.Common.{◌≡◌, ◌≢◌, ◌+◌, ◌==◌, ℕ, zero, suc, Bool, true, false, cond, List, [], ◌∷◌, ◌++◌, length, slice_get, Option, Some, refl, sym, ◌∙◌, ap, arith, inl, inr, bytes_eq, unwrap_or}
use Rattle.std.specs.Map.{update}
use Rattle.std.proofs.lemmas.Bool.{cases_Bool}
use Rattle.std.proofs.lemmas.Slice.Eq.{bytes_eq-Decides}
use Rattle.std.proofs.lemmas.Option.{same_Some}
use borrow.Author.Tests.{eqb-true}
use Rattle.text_numbers.specs.Numbers.{one_behind, number_of, with_text}

behind_none : (n : ℕ) → one_behind n ≡ 0 → n ≡ 0
behind_none zero e = refl
behind_none (suc n) e = absurd (omega (arith, e))

choice : (b : Bool) (x y : Option ℕ) → unwrap_or (cond b x y) 0 ≡ cond b (unwrap_or x 0) (unwrap_or y 0)
choice true x y = refl
choice false x y = refl

pub number_last : (ts : List (List ℕ)) (t q : List ℕ) → number_of ts q ≡ 0 → bytes_eq t q ≡ true → number_of (ts ++ t ∷ []) q ≡ suc (length ts)
number_last [] t q none same = rw same refl
number_last (u ∷ ts) t q none same = elim (cases_Bool (bytes_eq u q)) [
  | inl is ↦ absurd (let z : 1 ≡ 0 = rw is at none in omega (arith, z))
  | inr other ↦ let later : one_behind (number_of ts q) ≡ 0 = rw other at none in rw other (ap one_behind (number_last ts t q (behind_none (number_of ts q) later) same))
]

pub number_before : (ts : List (List ℕ)) (t q : List ℕ) → bytes_eq t q ≡ false → number_of (ts ++ t ∷ []) q ≡ number_of ts q
number_before [] t q other = rw other refl
number_before (u ∷ ts) t q other = ap (λ n. cond (bytes_eq u q) 1 (one_behind n)) (number_before ts t q other)

-- the text of a number
pub text_of_number : (ts : List (List ℕ)) (q : List ℕ) (i : ℕ) → number_of ts q ≡ suc i → slice_get ts i ≡ Some q
text_of_number [] q i e = absurd (omega (arith, e))
text_of_number (t ∷ ts) q i e = go (bytes_eq t q) refl i (λ j. text_of_number ts q j) e
  where
    go : (b : Bool) → bytes_eq t q ≡ b → (i : ℕ) → ((j : ℕ) → number_of ts q ≡ suc j → slice_get ts j ≡ Some q) → cond b 1 (one_behind (number_of ts q)) ≡ suc i → slice_get (t ∷ ts) i ≡ Some q
    go true same zero later one = ap (λ x. Some x) ((bytes_eq-Decides t q).0 same)
    go true same (suc i) later one = absurd (omega (arith, one))
    go false other i later one = there i (number_of ts q) refl one
      where
        there : (i n : ℕ) → number_of ts q ≡ n → one_behind n ≡ suc i → slice_get (t ∷ ts) i ≡ Some q
        there i zero is e = absurd (omega (arith, e))
        there zero (suc n) is e = absurd (omega (arith, e))
        there (suc i) (suc n) is e = later i (is ∙ (let z : suc (suc n) ≡ suc (suc i) = e in omega (arith, z)))

-- equal numbers are those of equal texts
pub number_alone : (ts : List (List ℕ)) (p q : List ℕ) → number_of ts p ≢ 0 → number_of ts q ≡ number_of ts p → q ≡ p
number_alone ts p q some same = go (number_of ts p) refl some
  where
    go : (n : ℕ) → number_of ts p ≡ n → n ≢ 0 → q ≡ p
    go zero is ne = absurd (ne refl)
    go (suc i) is ne = (let a = text_of_number ts p i is in let b = text_of_number ts q i (same ∙ is) in same_Some q p (sym b ∙ a))

-- the numbers with one text more
pub added : (old new : List ℕ → Option ℕ) (text : List ℕ) (n : ℕ) → ((q : List ℕ) → new q ≡ update bytes_eq old text (Some n) q) → (q : List ℕ) → unwrap_or (new q) 0 ≡ cond (bytes_eq text q) n (unwrap_or (old q) 0)
added old new text n changes q = ap (λ o. unwrap_or o 0) (changes q) ∙ choice (bytes_eq text q) (Some n) (old q)

pub number_more : (ts : List (List ℕ)) (t : List ℕ) (n : ℕ) (q : List ℕ) → number_of ts t ≡ 0 → n ≡ length ts + 1 → cond (bytes_eq t q) n (number_of ts q) ≡ number_of (ts ++ t ∷ []) q
number_more ts t n q new count = elim (cases_Bool (bytes_eq t q)) [
  | inl same ↦
      let is : t ≡ q = (bytes_eq-Decides t q).0 same in
      let none : number_of ts q ≡ 0 = ap (number_of ts) (sym is) ∙ new in
      let left : cond (bytes_eq t q) n (number_of ts q) ≡ n = rw same refl in
      left ∙ (let sum : n ≡ suc (length ts) = omega arith in sum) ∙ sym (number_last ts t q none same)
  | inr other ↦ (let left : cond (bytes_eq t q) n (number_of ts q) ≡ number_of ts q = rw other refl in left ∙ sym (number_before ts t q other))
]

pub itself : (q : List ℕ) → bytes_eq q q ≡ true
itself q = (bytes_eq-Decides q q).1 refl

-- a text that has a number keeps it
pub with_text_keeps : (ts : List (List ℕ)) (t q : List ℕ) → number_of ts q ≢ 0 → number_of (with_text ts t) q ≡ number_of ts q
with_text_keeps ts t q some = go (number_of ts t == 0) refl
  where
    go : (b : Bool) → (number_of ts t == 0) ≡ b → number_of (cond b (ts ++ t ∷ []) ts) q ≡ number_of ts q
    go false old = refl
    go true new = elim (cases_Bool (bytes_eq t q)) [
      | inl same ↦ absurd (some (ap (number_of ts) (sym ((bytes_eq-Decides t q).0 same)) ∙ eqb-true (number_of ts t) 0 new))
      | inr other ↦ number_before ts t q other
    ]
