-- Changes of words, as changes of lists.
use Rattle.std.proofs.Common.{◌≡◌, inl, inr, ℕ, zero, suc, ◌+◌, ◌-◌, ◌<◌, ◌≤◌, ◌==◌, cond, ◌∷◌, ◌++◌, take, drop, replicate, length, get_or, slice_set, refl, sym, ◌∙◌, ap, arith}
use Rattle.std.proofs.lemmas.Bool.Decides.{eqb_tells}
use borrow.Author.Tests.{eq-eqb, ne_eqb}
use Rattle.type_rules.specs.declared.types.VerificationType.{VerificationType}
use Rattle.type_rules.specs.declared.types.VerificationType.TheVariants.{Top}
use Rattle.type_rules.specs.Environment.{padded}
use Rattle.type_rules.specs.FrameAfter.{replaced_types}
use Rattle.type_lists.specs.Parts.{replaced_type, with_word}
use Rattle.type_lists.specs.Shown.{first_words, stack_words, EndsBy}
use Rattle.type_lists.proofs.SetLaws.{with_here, with_other}

abbrev Places : Type 0
Places = ℕ → VerificationType

pub first_count : (f : Places) (count : ℕ) → length (first_words f count) ≡ count
first_count f zero = refl
first_count f (suc count) = ap suc (first_count (λ n. f (suc n)) count)

pub first_read : (f : Places) (count n : ℕ) → EndsBy f count → get_or (first_words f count) n Top ≡ f n
first_read f zero n ends = sym (ends n (omega arith))
first_read f (suc count) zero ends = refl
first_read f (suc count) (suc n) ends = first_read (λ k. f (suc k)) count n (λ k h. ends (suc k) (omega (arith, h)))

same_first : (f g : Places) (count : ℕ) → ((n : ℕ) → n < count → f n ≡ g n) → first_words f count ≡ first_words g count
same_first f g zero same = refl
same_first f g (suc count) same =
    ap (λ w. w ∷ first_words (λ n. f (suc n)) count) (same 0 (omega arith))
    ∙ ap (λ ws. g 0 ∷ ws) (same_first (λ n. f (suc n)) (λ n. g (suc n)) count (λ n h. same (suc n) (omega (arith, h))))

suc_test : (n k : ℕ) → (suc n == suc k) ≡ (n == k)
suc_test n k = elim (eqb_tells n k) [
  | inl same ↦ eq-eqb (suc n) (suc k) (ap suc same.1) ∙ sym same.0
  | inr other ↦ ne_eqb (suc n) (suc k) (λ e. other.1 (omega (arith, e))) ∙ sym other.0
]

pub first_set : (f : Places) (count n : ℕ) (word : VerificationType) → first_words (with_word f n word) count ≡ slice_set (first_words f count) n word
first_set f zero zero word = refl
first_set f zero (suc n) word = refl
first_set f (suc count) zero word =
    ap (λ ws. word ∷ ws) (same_first (λ k. with_word f 0 word (suc k)) (λ k. f (suc k)) count (λ k h. with_other f 0 word (suc k) (λ e. absurd (omega (arith, e)))))
first_set f (suc count) (suc n) word =
    ap (λ w. w ∷ first_words (λ k. with_word f (suc n) word (suc k)) count) (with_other f (suc n) word 0 (λ e. absurd (omega (arith, e))))
    ∙ ap (λ ws. f 0 ∷ ws) (same_first (λ k. with_word f (suc n) word (suc k)) (with_word (λ k. f (suc k)) n word) count (λ k h. ap (λ b. cond b word (f (suc k))) (suc_test k n))
    ∙ first_set (λ k. f (suc k)) count n word)

pub first_replaced : (f : Places) (count : ℕ) (old new : VerificationType) → first_words (λ n. replaced_type old new (f n)) count ≡ replaced_types old new (first_words f count)
first_replaced f zero old new = refl
first_replaced f (suc count) old new = ap (λ ws. replaced_type old new (f 0) ∷ ws) (first_replaced (λ n. f (suc n)) count old new)

take_padded : (f : Places) (count size more : ℕ) → EndsBy f count → size ≤ more → take size (first_words f count ++ replicate more Top) ≡ first_words f size
take_padded f zero zero more ends h = refl
take_padded f (suc count) zero more ends h = refl
take_padded f zero (suc size) zero ends h = absurd (omega (arith, h))
take_padded f zero (suc size) (suc more) ends h =
    ap (λ w. w ∷ take size (replicate more Top)) (sym (ends 0 (omega arith)))
    ∙ ap (λ ws. f 0 ∷ ws) (take_padded (λ n. f (suc n)) zero size more (λ n i. ends (suc n) (omega arith)) (omega (arith, h)))
take_padded f (suc count) (suc size) more ends h =
    ap (λ ws. f 0 ∷ ws) (take_padded (λ n. f (suc n)) count size more (λ n i. ends (suc n) (omega (arith, i))) (omega (arith, h)))

pub first_padded : (f : Places) (count size : ℕ) → EndsBy f count → padded size (first_words f count) ≡ first_words f size
first_padded f count size ends = take_padded f count size size ends (omega arith)

-- ---- stacks

pub stack_depth : (f : Places) (depth : ℕ) → length (stack_words f depth) ≡ depth
stack_depth f zero = refl
stack_depth f (suc depth) = ap suc (stack_depth f depth)

pub stack_read : (f : Places) (depth n : ℕ) → n < depth → get_or (stack_words f depth) n Top ≡ f (depth - suc n)
stack_read f zero n h = absurd (omega (arith, h))
stack_read f (suc depth) zero h = ap f (let e : depth ≡ suc depth - 1 = omega arith in e)
stack_read f (suc depth) (suc n) h = stack_read f depth n (omega (arith, h)) ∙ ap f (let e : depth - suc n ≡ suc depth - suc (suc n) = omega arith in e)

same_stack : (f g : Places) (depth : ℕ) → ((n : ℕ) → n < depth → f n ≡ g n) → stack_words f depth ≡ stack_words g depth
same_stack f g zero same = refl
same_stack f g (suc depth) same =
    ap (λ w. w ∷ stack_words f depth) (same depth (omega arith)) ∙ ap (λ ws. g depth ∷ ws) (same_stack f g depth (λ n h. same n (omega (arith, h))))

pub stack_put : (f : Places) (depth : ℕ) (word : VerificationType) → stack_words (with_word f depth word) (suc depth) ≡ word ∷ stack_words f depth
stack_put f depth word =
    ap (λ w. w ∷ stack_words (with_word f depth word) depth) (with_here f depth word depth refl)
    ∙ ap (λ ws. word ∷ ws) (same_stack (with_word f depth word) f depth (λ n h. with_other f depth word n (λ e. absurd (omega (arith, e, h)))))

pub stack_taken : (f : Places) (depth n : ℕ) → drop n (stack_words f (n + depth)) ≡ stack_words f depth
stack_taken f depth zero = let e : 0 + depth ≡ depth = omega arith in ap (stack_words f) e
stack_taken f depth (suc n) =
    let e : suc n + depth ≡ suc (n + depth) = omega arith in
    ap (λ d. drop (suc n) (stack_words f d)) e ∙ stack_taken f depth n

pub stack_replaced : (f : Places) (depth : ℕ) (old new : VerificationType) → stack_words (λ n. replaced_type old new (f n)) depth ≡ replaced_types old new (stack_words f depth)
stack_replaced f zero old new = refl
stack_replaced f (suc depth) old new = ap (λ ws. replaced_type old new (f depth) ∷ ws) (stack_replaced f depth old new)
