-- Numbers of events, the newest first, and which of them are marked as not left.
use Rattle.std.proofs.Common.{◌≡◌, ◌≢◌, ◌⊎◌, inl, inr, ℕ, zero, suc, ◌<◌, ◌≤◌, ◌&&◌, Bool, true, false, true≢false, not, Some, List, [], ◌∷◌, length, slice_get, slice_set, arith, refl, sym, ◌∙◌, ap}
use Rattle.std.specs.Prelude.{nat_le, if◌then◌else◌}
use Rattle.std.proofs.lemmas.Grind.{common_steps}
use Rattle.std.proofs.lemmas.Bool.Decides.{nat_tests}
use Rattle.std.proofs.lemmas.List.{length-set}
use Rattle.op_core.proofs.PointwiseLemmas.{same_or_other}
use Rattle.journal_rows.specs.Leaving.{from_below, marked_from}
use Rattle.journal_rows.specs.Rows.{numbers_below}

-- ---- lists

pub set_hit : {A : Type 0} (xs : List A) (i : ℕ) (y : A) → i < length xs → slice_get (slice_set xs i y) i ≡ Some y
set_hit [] i y inside = absurd (omega (arith, inside))
set_hit (x ∷ xs) zero y inside = refl
set_hit (x ∷ xs) (suc i) y inside = set_hit xs i y (omega (arith, inside))

pub set_other : {A : Type 0} (xs : List A) (i j : ℕ) (y : A) → i ≢ j → slice_get (slice_set xs j y) i ≡ slice_get xs i
set_other [] i j y other = refl
set_other (x ∷ xs) zero zero y other = absurd (other refl)
set_other (x ∷ xs) (suc i) zero y other = refl
set_other (x ∷ xs) zero (suc j) y other = refl
set_other (x ∷ xs) (suc i) (suc j) y other = set_other xs i j y (λ same. other (ap suc same))

-- ---- numbers that pass a test

pub is_at_least : (first i : ℕ) → nat_le first i ≡ true → first ≤ i
is_at_least first i is = grind (arith, common_steps, nat_tests)

pub is_below : (first i : ℕ) → nat_le first i ≡ false → i < first
is_below first i is = grind (arith, common_steps, nat_tests)

pub at_least_is : (first i : ℕ) → first ≤ i → nat_le first i ≡ true
at_least_is first i low = grind (arith, common_steps, nat_tests)

pub below_is : (first i : ℕ) → i < first → nat_le first i ≡ false
below_is first i low = grind (arith, common_steps, nat_tests)

more : (i n : ℕ) → i < n → i < suc n
more i n low = omega (arith, low)

pub below_same : (f g : ℕ → Bool) (n : ℕ) → ((i : ℕ) → i < n → f i ≡ g i) → numbers_below f n ≡ numbers_below g n
below_same f g zero same = refl
below_same f g (suc n) same =
    ap (λ z. if z then n ∷ numbers_below f n else numbers_below f n) (same n (omega arith))
    ∙ ap (λ numbers. if g n then n ∷ numbers else numbers) (below_same f g n (λ i low. same i (more i n low)))

pub none_below : (f : ℕ → Bool) (n : ℕ) → ((i : ℕ) → i < n → f i ≡ false) → numbers_below f n ≡ []
none_below f zero lacks = refl
none_below f (suc n) lacks =
    ap (λ z. if z then n ∷ numbers_below f n else numbers_below f n) (lacks n (omega arith)) ∙ none_below f n (λ i low. lacks i (more i n low))

-- those from one on are taken off
pub cut_below : (f : ℕ → Bool) (first n : ℕ) → from_below first (numbers_below f n) ≡ numbers_below (λ i. f i && not (nat_le first i)) n
cut_below f first zero = refl
cut_below f first (suc n) = by (f n) refl (nat_le first n) refl (cut_below f first n)
  where
    by : (z : Bool) → f n ≡ z → (w : Bool) → nat_le first n ≡ w → from_below first (numbers_below f n) ≡ numbers_below (λ i. f i && not (nat_le first i)) n
        → from_below first (if z then n ∷ numbers_below f n else numbers_below f n)
        ≡ (if z && not w then n ∷ numbers_below (λ i. f i && not (nat_le first i)) n else numbers_below (λ i. f i && not (nat_le first i)) n)
    by false other w is rest = rest
    by true passing true is rest = ap (λ v. if v then from_below first (numbers_below f n) else n ∷ numbers_below f n) is ∙ rest
    by true passing false is rest = ap (λ v. if v then from_below first (numbers_below f n) else n ∷ numbers_below f n) is
        ∙ ap (λ numbers. n ∷ numbers) (below_same f (λ i. f i && not (nat_le first i)) n (λ i low. stays (f i) (nat_le first i) (below_is first i (under i low (is_below first n is)))))
      where
        stays : (z w : Bool) → w ≡ false → z ≡ (z && not w)
        stays true w lacks = ap not (sym lacks)
        stays false w lacks = refl

        under : (i : ℕ) → i < n → n < first → i < first
        under i low high = omega (arith, low, high)

-- and what is marked is one of these
pub not_marked : (f : ℕ → Bool) (first n : ℕ) (left : List Bool) (i : ℕ) → (i < n → f i ≡ true → first ≤ i → ⊥) → slice_get (marked_from first (numbers_below f n) left) i ≡ slice_get left i
not_marked f first zero left i lacks = refl
not_marked f first (suc n) left i lacks = by (f n) refl (nat_le first n) refl (λ marks. not_marked f first n marks i (λ low. lacks (more i n low)))
  where
    by : (z : Bool) → f n ≡ z → (w : Bool) → nat_le first n ≡ w → ((marks : List Bool) → slice_get (marked_from first (numbers_below f n) marks) i ≡ slice_get marks i)
        → slice_get (marked_from first (if z then n ∷ numbers_below f n else numbers_below f n) left) i ≡ slice_get left i
    by false other w is rest = rest left
    by true passing true is rest =
        ap (λ v. slice_get (if v then marked_from first (numbers_below f n) (slice_set left n false) else left) i) is
        ∙ rest (slice_set left n false)
        ∙ set_other left i n false (λ same. lacks (omega (arith, same)) (ap f same ∙ passing) (low_enough same (is_at_least first n is)))
      where
        low_enough : i ≡ n → first ≤ n → first ≤ i
        low_enough same low = omega (arith, same, low)
    by true passing false is rest = ap (λ v. slice_get (if v then marked_from first (numbers_below f n) (slice_set left n false) else left) i) is

pub is_marked : (f : ℕ → Bool) (first n : ℕ) (left : List Bool) (i : ℕ) → i < n → i < length left → f i ≡ true → first ≤ i → slice_get (marked_from first (numbers_below f n) left) i ≡ Some false
is_marked f first zero left i low inside passing from = absurd (omega (arith, low))
is_marked f first (suc n) left i low inside passing from = by (f n) refl (nat_le first n) refl (same_or_other i n)
    (λ marks low inside. is_marked f first n marks i low inside passing from)
  where
    lower : i ≢ n → i < n
    lower other = below_or other low
      where
        below_or : i ≢ n → i < suc n → i < n
        below_or other low = omega (arith, other, low)

    by : (z : Bool) → f n ≡ z → (w : Bool) → nat_le first n ≡ w → (i ≡ n) ⊎ (i ≢ n)
        → ((marks : List Bool) → i < n → i < length marks → slice_get (marked_from first (numbers_below f n) marks) i ≡ Some false) → slice_get (marked_from first (if z then n ∷ numbers_below f n else numbers_below f n) left) i ≡ Some false
    by false other w is (inl same) rest = absurd (true≢false (sym passing ∙ ap f same ∙ other))
    by false other w is (inr apart) rest = rest left (lower apart) inside
    by true here true is (inl same) rest =
        ap (λ v. slice_get (if v then marked_from first (numbers_below f n) (slice_set left n false) else left) i) is
        ∙ not_marked f first n (slice_set left n false) i (λ low. absurd (omega (arith, low, same)))
        ∙ ap (slice_get (slice_set left n false)) same ∙ set_hit left n false (inside_too same inside)
      where
        inside_too : i ≡ n → i < length left → n < length left
        inside_too same inside = omega (arith, same, inside)
    by true here true is (inr apart) rest =
        ap (λ v. slice_get (if v then marked_from first (numbers_below f n) (slice_set left n false) else left) i) is
        ∙ rest (slice_set left n false) (lower apart) (long_enough (length-set left n false) inside)
      where
        long_enough : {m k : ℕ} → m ≡ k → i < k → i < m
        long_enough same inside = omega (arith, same, inside)
    by true here false is both rest = absurd (too_low (is_below first n is))
      where
        too_low : n < first → ⊥
        too_low high = omega (arith, high, low, from)
