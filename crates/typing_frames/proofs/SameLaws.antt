-- Frames that are the same.
use Rattle.std.proofs.Common.{◌≡◌, ◌≢◌, ℕ, zero, suc, ◌<◌, true, false, inl, inr, List, [], ◌∷◌, length, refl, sym, ◌∙◌, ap, subst, arith}
use Rattle.std.proofs.lemmas.Bool.{and_from, and_left, and_right}
use Rattle.std.proofs.lemmas.Bool.Decides.{eqb_tells}
use Rattle.type_rules.specs.declared.types.VerificationType.{VerificationType}
use Rattle.type_rules.specs.Assignable.{is_same_type, are_same_types}
use Rattle.type_lists.specs.Shown.{first_words, stack_words}
use Rattle.type_lists.proofs.ListLaws.{stack_depth}

abbrev Places : Type 0
Places = ℕ → VerificationType

pub first_all : (f g : Places) (count : ℕ) → ((n : ℕ) → n < count → is_same_type (f n) (g n) ≡ true) → are_same_types (first_words f count) (first_words g count) ≡ true
first_all f g zero all = refl
first_all f g (suc count) all =
    and_from (is_same_type (f 0) (g 0)) (are_same_types (first_words (λ n. f (suc n)) count) (first_words (λ n. g (suc n)) count)) (all 0 (omega arith))
    (first_all (λ n. f (suc n)) (λ n. g (suc n)) count (λ n h. all (suc n) (omega (arith, h))))

pub first_apart : (f g : Places) (count n : ℕ) → n < count → is_same_type (f n) (g n) ≡ false → are_same_types (first_words f count) (first_words g count) ≡ false
first_apart f g zero n h e = absurd (omega (arith, h))
first_apart f g (suc count) zero h e = and_left (is_same_type (f 0) (g 0)) (are_same_types (first_words (λ n. f (suc n)) count) (first_words (λ n. g (suc n)) count)) e
first_apart f g (suc count) (suc n) h e =
    and_right (is_same_type (f 0) (g 0)) (are_same_types (first_words (λ n. f (suc n)) count) (first_words (λ n. g (suc n)) count))
    (first_apart (λ n. f (suc n)) (λ n. g (suc n)) count n (omega (arith, h)) e)

pub stack_all : (f g : Places) (depth : ℕ) → ((n : ℕ) → n < depth → is_same_type (f n) (g n) ≡ true) → are_same_types (stack_words f depth) (stack_words g depth) ≡ true
stack_all f g zero all = refl
stack_all f g (suc depth) all =
    and_from (is_same_type (f depth) (g depth)) (are_same_types (stack_words f depth) (stack_words g depth)) (all depth (omega arith)) (stack_all f g depth (λ n h. all n (omega (arith, h))))

pub stack_apart : (f g : Places) (depth n : ℕ) → n < depth → is_same_type (f n) (g n) ≡ false → are_same_types (stack_words f depth) (stack_words g depth) ≡ false
stack_apart f g zero n h e = absurd (omega (arith, h))
stack_apart f g (suc depth) n h e = elim (eqb_tells n depth) [
  | inl here ↦ and_left (is_same_type (f depth) (g depth)) (are_same_types (stack_words f depth) (stack_words g depth)) (subst (λ k. is_same_type (f k) (g k) ≡ false) here.1 e)
  | inr other ↦ and_right (is_same_type (f depth) (g depth)) (are_same_types (stack_words f depth) (stack_words g depth)) (stack_apart f g depth n (omega (arith, h, other.1)) e)
]

unequal : (xs ys : List VerificationType) → length xs ≢ length ys → are_same_types xs ys ≡ false
unequal [] [] ne = absurd (ne refl)
unequal [] (y ∷ ys) ne = refl
unequal (x ∷ xs) [] ne = refl
unequal (x ∷ xs) (y ∷ ys) ne = and_right (is_same_type x y) (are_same_types xs ys) (unequal xs ys (λ e. ne (ap suc e)))

pub depths_apart : (f g : Places) (m n : ℕ) → m ≢ n → are_same_types (stack_words f m) (stack_words g n) ≡ false
depths_apart f g m n ne = unequal (stack_words f m) (stack_words g n) (λ e. ne (sym (stack_depth f m) ∙ e ∙ stack_depth g n))
