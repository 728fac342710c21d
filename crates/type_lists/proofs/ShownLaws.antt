-- Lists of words that are given by their places.
use Rattle.std.proofs.Common.{◌≡◌, ℕ, zero, suc, ◌<◌, ◌||◌, [], Bool, true, false, MatchBool, inl, inr, refl, sym, ◌∙◌, ap, subst, arith}
use Rattle.std.specs.List.{list_any}
use Rattle.std.proofs.lemmas.Bool.{true≢false, and_from, and_left, and_right, or_left, or_right}
use Rattle.std.proofs.lemmas.Bool.Decides.{leb_tells, eqb_tells}
use Rattle.type_rules.specs.declared.types.VerificationType.{VerificationType}
use Rattle.type_rules.specs.declared.types.VerificationType.TheVariants.{Top}
use Rattle.type_rules.specs.Assignable.{Hierarchy, is_assignable, are_assignable, are_locals_assignable, is_same_type}
use Rattle.type_lists.specs.Shown.{first_words, stack_words, EndsBy}

-- ---- assignable

module _ (h : Hierarchy) where
  stacks_all : (low high : ℕ → VerificationType) (depth : ℕ) → ((n : ℕ) → is_assignable h (low n) (high n) ≡ true) → are_assignable h (stack_words low depth) (stack_words high depth) ≡ true
  stacks_all low high zero all = refl
  stacks_all low high (suc depth) all = and_from (is_assignable h (low depth) (high depth)) (are_assignable h (stack_words low depth) (stack_words high depth)) (all depth) (stacks_all low high depth all)

  stacks_apart : (low high : ℕ → VerificationType) (depth n : ℕ) → n < depth → is_assignable h (low n) (high n) ≡ false → are_assignable h (stack_words low depth) (stack_words high depth) ≡ false
  stacks_apart low high zero n within apart = absurd (omega (arith, within))
  stacks_apart low high (suc depth) n within apart = elim (eqb_tells n depth) [
    | inl here ↦ and_left (is_assignable h (low depth) (high depth)) (are_assignable h (stack_words low depth) (stack_words high depth)) (subst (λ k. is_assignable h (low k) (high k) ≡ false) here.1 apart)
    | inr there ↦ and_right (is_assignable h (low depth) (high depth)) (are_assignable h (stack_words low depth) (stack_words high depth)) (stacks_apart low high depth n (omega (arith, within, there.1)) apart)
  ]

  top_takes : (w v : VerificationType) → v ≡ Top → is_assignable h w v ≡ true
  top_takes w v e = ap (λ x. is_assignable h w x) e

  pub stacks_told : (low high : ℕ → VerificationType) (depth : ℕ) (b : Bool) → EndsBy high depth
      → MatchBool b ((n : ℕ) → is_assignable h (low n) (high n) ≡ true) ((n : ℕ) × (is_assignable h (low n) (high n) ≡ false))
      → b ≡ are_assignable h (stack_words low depth) (stack_words high depth)
  stacks_told low high depth true ends all = sym (stacks_all low high depth all)
  stacks_told low high depth false ends apart = elim (leb_tells depth apart.0) [
    | inl past ↦ absurd (true≢false (sym (top_takes (low apart.0) (high apart.0) (ends apart.0 past.1)) ∙ apart.1))
    | inr inside ↦ sym (stacks_apart low high depth apart.0 (omega (arith, inside.1)) apart.1)
  ]

  locals_all : (low high : ℕ → VerificationType) (n m : ℕ) → EndsBy low n → ((k : ℕ) → is_assignable h (low k) (high k) ≡ true) → are_locals_assignable h (first_words low n) (first_words high m) ≡ true
  locals_all low high zero zero ends all = refl
  locals_all low high (suc n) zero ends all = refl
  locals_all low high zero (suc m) ends all =
      and_from (is_assignable h Top (high 0)) (are_locals_assignable h [] (first_words (λ k. high (suc k)) m))
      (ap (λ w. is_assignable h w (high 0)) (sym (ends 0 (omega arith))) ∙ all 0)
      (locals_all (λ k. low (suc k)) (λ k. high (suc k)) zero m (λ k i. ends (suc k) (omega arith)) (λ k. all (suc k)))
  locals_all low high (suc n) (suc m) ends all =
      and_from (is_assignable h (low 0) (high 0)) (are_locals_assignable h (first_words (λ k. low (suc k)) n) (first_words (λ k. high (suc k)) m)) (all 0)
      (locals_all (λ k. low (suc k)) (λ k. high (suc k)) n m (λ k i. ends (suc k) (omega (arith, i))) (λ k. all (suc k)))

  locals_apart : (low high : ℕ → VerificationType) (n m k : ℕ) → EndsBy low n → k < m → is_assignable h (low k) (high k) ≡ false → are_locals_assignable h (first_words low n) (first_words high m) ≡ false
  locals_apart low high n zero k ends within apart = absurd (omega (arith, within))
  locals_apart low high zero (suc m) zero ends within apart =
      and_left (is_assignable h Top (high 0)) (are_locals_assignable h [] (first_words (λ k. high (suc k)) m)) (ap (λ w. is_assignable h w (high 0)) (sym (ends 0 (omega arith))) ∙ apart)
  locals_apart low high zero (suc m) (suc k) ends within apart =
      and_right (is_assignable h Top (high 0)) (are_locals_assignable h [] (first_words (λ k. high (suc k)) m))
      (locals_apart (λ k. low (suc k)) (λ k. high (suc k)) zero m k (λ k i. ends (suc k) (omega arith)) (omega (arith, within)) apart)
  locals_apart low high (suc n) (suc m) zero ends within apart =
      and_left (is_assignable h (low 0) (high 0)) (are_locals_assignable h (first_words (λ k. low (suc k)) n) (first_words (λ k. high (suc k)) m)) apart
  locals_apart low high (suc n) (suc m) (suc k) ends within apart =
      and_right (is_assignable h (low 0) (high 0)) (are_locals_assignable h (first_words (λ k. low (suc k)) n) (first_words (λ k. high (suc k)) m))
      (locals_apart (λ k. low (suc k)) (λ k. high (suc k)) n m k (λ k i. ends (suc k) (omega (arith, i))) (omega (arith, within)) apart)

  pub locals_told : (low high : ℕ → VerificationType) (n m : ℕ) (b : Bool) → EndsBy low n → EndsBy high m
      → MatchBool b ((k : ℕ) → is_assignable h (low k) (high k) ≡ true) ((k : ℕ) × (is_assignable h (low k) (high k) ≡ false))
      → b ≡ are_locals_assignable h (first_words low n) (first_words high m)
  locals_told low high n m true low_ends ends all = sym (locals_all low high n m low_ends all)
  locals_told low high n m false low_ends ends apart = elim (leb_tells m apart.0) [
    | inl past ↦ absurd (true≢false (sym (top_takes (low apart.0) (high apart.0) (ends apart.0 past.1)) ∙ apart.1))
    | inr inside ↦ sym (locals_apart low high n m apart.0 low_ends (omega (arith, inside.1)) apart.1)
  ]

-- ---- words that are sought

module _ (word : VerificationType) (none_is_top : is_same_type word Top ≡ false) where
  stack_none : (f : ℕ → VerificationType) (depth : ℕ) → ((n : ℕ) → is_same_type word (f n) ≡ false) → list_any (is_same_type word) (stack_words f depth) ≡ false
  stack_none f zero none = refl
  stack_none f (suc depth) none = neither (is_same_type word (f depth)) (list_any (is_same_type word) (stack_words f depth)) (none depth) (stack_none f depth none)
    where
      neither : (a b : Bool) → a ≡ false → b ≡ false → (a || b) ≡ false
      neither true b e f = absurd (true≢false e)
      neither false b e f = f

  stack_has : (f : ℕ → VerificationType) (depth n : ℕ) → n < depth → is_same_type word (f n) ≡ true → list_any (is_same_type word) (stack_words f depth) ≡ true
  stack_has f zero n within is = absurd (omega (arith, within))
  stack_has f (suc depth) n within is = elim (eqb_tells n depth) [
    | inl here ↦ or_left (is_same_type word (f depth)) (list_any (is_same_type word) (stack_words f depth)) (subst (λ k. is_same_type word (f k) ≡ true) here.1 is)
    | inr there ↦ or_right (is_same_type word (f depth)) (list_any (is_same_type word) (stack_words f depth)) (stack_has f depth n (omega (arith, within, there.1)) is)
  ]

  first_none : (f : ℕ → VerificationType) (count : ℕ) → ((n : ℕ) → is_same_type word (f n) ≡ false) → list_any (is_same_type word) (first_words f count) ≡ false
  first_none f zero none = refl
  first_none f (suc count) none = neither (is_same_type word (f 0)) (list_any (is_same_type word) (first_words (λ k. f (suc k)) count)) (none 0) (first_none (λ k. f (suc k)) count (λ k. none (suc k)))
    where
      neither : (a b : Bool) → a ≡ false → b ≡ false → (a || b) ≡ false
      neither true b e f = absurd (true≢false e)
      neither false b e f = f

  first_has : (f : ℕ → VerificationType) (count n : ℕ) → n < count → is_same_type word (f n) ≡ true → list_any (is_same_type word) (first_words f count) ≡ true
  first_has f zero n within is = absurd (omega (arith, within))
  first_has f (suc count) zero within is = or_left (is_same_type word (f 0)) (list_any (is_same_type word) (first_words (λ k. f (suc k)) count)) is
  first_has f (suc count) (suc n) within is = or_right (is_same_type word (f 0)) (list_any (is_same_type word) (first_words (λ k. f (suc k)) count)) (first_has (λ k. f (suc k)) count n (omega (arith, within)) is)

  inside_of : (f : ℕ → VerificationType) (count n : ℕ) → EndsBy f count → is_same_type word (f n) ≡ true → n < count
  inside_of f count n ends is = elim (leb_tells count n) [
    | inl past ↦ absurd (true≢false (sym is ∙ ap (is_same_type word) (ends n past.1) ∙ none_is_top))
    | inr inside ↦ omega (arith, inside.1)
  ]

  pub stack_sought : (f : ℕ → VerificationType) (depth : ℕ) (b : Bool) → EndsBy f depth → (b ≡ true → (n : ℕ) × (is_same_type word (f n) ≡ true))
      → (b ≡ false → (n : ℕ) → is_same_type word (f n) ≡ false) → b ≡ list_any (is_same_type word) (stack_words f depth)
  stack_sought f depth true ends found absent = let at = found refl in sym (stack_has f depth at.0 (inside_of f depth at.0 ends at.1) at.1)
  stack_sought f depth false ends found absent = sym (stack_none f depth (absent refl))

  pub first_sought : (f : ℕ → VerificationType) (count : ℕ) (b : Bool) → EndsBy f count → (b ≡ true → (n : ℕ) × (is_same_type word (f n) ≡ true))
      → (b ≡ false → (n : ℕ) → is_same_type word (f n) ≡ false) → b ≡ list_any (is_same_type word) (first_words f count)
  first_sought f count true ends found absent = let at = found refl in sym (first_has f count at.0 (inside_of f count at.0 ends at.1) at.1)
  first_sought f count false ends found absent = sym (first_none f count (absent refl))
