-- A row that marks more has a greater count.
use Rattle.std.proofs.Common.{◌≡◌, ℕ, zero, suc, ◌+◌, ◌<◌, ◌≤◌, Bool, false, true, cond, List, [], ◌∷◌, refl, arith, count_by, slice_index_or}
use Rattle.std.proofs.lemmas.List.Sums.{sum_by-cons}

abbrev pub count : List Bool → ℕ
count row = count_by (λ mark. mark) row

abbrev pub IsWithin : List Bool → List Bool → Type 0
IsWithin xs ys = (i : ℕ) → slice_index_or xs i false ≡ true → slice_index_or ys i false ≡ true

marked : (xs : List Bool) → count (true ∷ xs) ≡ 1 + count xs
marked xs = sum_by-cons (λ mark. cond mark 1 0) true xs

unmarked : (xs : List Bool) → count (false ∷ xs) ≡ count xs
unmarked xs = omega (arith, sum_by-cons (λ mark. cond mark 1 0) false xs)

count_no_more : (xs ys : List Bool) → IsWithin xs ys → count xs ≤ count ys
count_no_more [] ys h = omega arith
count_no_more (false ∷ xs) [] h = count_no_more xs [] (λ i e. absurd (let f = h (suc i) e in cc))
count_no_more (true ∷ xs) [] h = absurd (let f = h 0 refl in cc)
count_no_more (true ∷ xs) (true ∷ ys) h = let rest : count xs ≤ count ys = count_no_more xs ys (λ i. h (suc i)) in omega (arith, marked xs, unmarked xs, marked ys)
count_no_more (true ∷ xs) (false ∷ ys) h = absurd (let f = h 0 refl in cc)
count_no_more (false ∷ xs) (true ∷ ys) h = let rest : count xs ≤ count ys = count_no_more xs ys (λ i. h (suc i)) in omega (arith, marked xs, unmarked xs, marked ys)
count_no_more (false ∷ xs) (false ∷ ys) h = count_no_more xs ys (λ i. h (suc i))

pub count_less : (xs ys : List Bool) (k : ℕ) → IsWithin xs ys → slice_index_or xs k false ≡ false → slice_index_or ys k false ≡ true → count xs < count ys
count_less xs [] k h missing found = absurd cc
count_less [] (true ∷ ys) k h missing found = omega (arith, marked ys)
count_less [] (false ∷ ys) zero h missing found = absurd cc
count_less [] (false ∷ ys) (suc k) h missing found = count_less [] ys k (λ i e. absurd cc) refl found
count_less (true ∷ xs) (false ∷ ys) k h missing found = absurd (let f = h 0 refl in cc)
count_less (false ∷ xs) (true ∷ ys) k h missing found = let rest : count xs ≤ count ys = count_no_more xs ys (λ i. h (suc i)) in omega (arith, marked xs, unmarked xs, marked ys)
count_less (x ∷ xs) (y ∷ ys) zero h missing found = absurd cc
count_less (true ∷ xs) (true ∷ ys) (suc k) h missing found = let rest : count xs < count ys = count_less xs ys k (λ i. h (suc i)) missing found in omega (arith, marked xs, marked ys)
count_less (false ∷ xs) (false ∷ ys) (suc k) h missing found = count_less xs ys k (λ i. h (suc i)) missing found
