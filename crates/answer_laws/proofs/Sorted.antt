-- Texts in the order of their bytes: two lists in order with the same texts are the same.
use Rattle.std.proofs.Common.{◌≡◌, ℕ, zero, suc, ◌+◌, ◌<◌, Bool, true, false, List, [], ◌∷◌, filter, get_or, Contains, cond, if◌then◌else◌, refl, sym, ◌∙◌, ap, subst, arith}
use Rattle.std.specs.List.{sum_by}
use Rattle.std.specs.List.Sorted.{IsPermutation, IsSorted}
use Rattle.std.specs.Cmp.{IsStrictWeakOrder}
use Rattle.std.proofs.lemmas.List.Sums.{sum_by-cons}
use Rattle.std.specs.Ordering.{nat_cmp, is_lt, ordering_reverse}
use Rattle.std.specs.declared.cmp.Ordering.{Ordering}
use Rattle.std.specs.declared.cmp.Ordering.TheVariants.{Less, Equal, Greater}
use Rattle.std.specs.Cmp.Lexicographic.{slice_cmp}
use Rattle.std.specs.FinMap.{nat_cmp-IsAntisymmetric, slice_cmp-IsAntisymmetric}
use Rattle.std.specs.Str.{bytes_eq}
use Rattle.std.proofs.lemmas.Cmp.{nat_list_cmp_total}
use Rattle.std.proofs.lemmas.List.Sorted.{ranks_by, sorted_far, sum_by-IsPermutation}
use Rattle.std.proofs.lemmas.Slice.Eq.{bytes_eq-Decides}
use Rattle.program_input.specs.Folder.{AreClassNames, is_class_file}

-- ---- lists in order

abbrev comes : List ℕ → List ℕ → Bool
comes x y = is_lt (slice_cmp nat_cmp x y)

abbrev Ascends : List (List ℕ) → Type 0
Ascends [] = Unit {0}
Ascends (x ∷ xs) = ((y : List ℕ) → Contains xs y → comes y x ≡ false) × Ascends xs

ordered : IsStrictWeakOrder comes
ordered = ranks_by nat_list_cmp_total (λ (x : List ℕ). x)

ascends : (xs : List (List ℕ)) → IsSorted (slice_cmp nat_cmp) xs → Ascends xs
ascends [] sorted = tt
ascends (x ∷ xs) sorted = (first, ascends xs later)
  where
    first : (y : List ℕ) → Contains xs y → comes y x ≡ false
    first y there =
        let far : comes (get_or (x ∷ xs) (suc there.0) y) (get_or (x ∷ xs) 0 y) ≡ false = sorted_far comes ordered (x ∷ xs) sorted 0 (suc there.0) y (omega arith) (omega (arith, there.1)) in
        subst (λ z. comes z x ≡ false) there.2 far

    later : IsSorted (slice_cmp nat_cmp) xs
    later k d low below =
        let next : suc k + 1 ≡ suc (k + 1) = omega arith in
        let P : ℕ → Type 0 = λ n. comes (get_or (x ∷ xs) n d) (get_or xs k d) ≡ false in
        subst P next (sorted (suc k) d (omega arith) (omega (arith, below)))

by_order : (o p : Ordering) → p ≡ ordering_reverse o → is_lt o ≡ false → is_lt p ≡ false → o ≡ Equal
by_order Less p turned one other = absurd cc
by_order Equal p turned one other = refl
by_order Greater p turned one other =
    let lt : is_lt p ≡ true = ap is_lt turned in
    absurd cc

-- neither of two texts comes before the other
neither_before : (x y : List ℕ) → comes x y ≡ false → comes y x ≡ false → x ≡ y
neither_before x y one other =
    slice_cmp-IsAntisymmetric nat_cmp-IsAntisymmetric x y
    (by_order (slice_cmp nat_cmp x y) (slice_cmp nat_cmp y x) (nat_list_cmp_total.antisymm y x) one other)

-- ---- lists with the same texts

-- whatever is summed over them
abbrev HaveSameSums : List (List ℕ) → List (List ℕ) → Type 0
HaveSameSums xs ys = (f : List ℕ → ℕ) → sum_by f ys ≡ sum_by f xs

summed_there : (f : List ℕ → ℕ) (ys : List (List ℕ)) → 0 < sum_by f ys → (y : List ℕ) × Contains ys y × (0 < f y)
summed_there f [] some = absurd (omega (arith, some))
summed_there f (y ∷ ys) some = by (f y) refl (λ above. summed_there f ys above)
  where
    by : (n : ℕ) → f y ≡ n → (0 < sum_by f ys → (z : List ℕ) × Contains ys z × (0 < f z)) → (z : List ℕ) × Contains (y ∷ ys) z × (0 < f z)
    by zero none later =
        let all = sum_by-cons f y ys in
        let rest = later (omega (arith, some, none, all)) in
        (rest.0, (suc rest.1.0, omega (arith, rest.1.1), rest.1.2), rest.2)
    by (suc n) is later = (y, (0, omega arith, refl), omega (arith, is))

abbrev once : List ℕ → List ℕ → ℕ
once x y = if bytes_eq x y then 1 else 0

once_same : (x : List ℕ) → once x x ≡ 1
once_same x = ap (λ b. if b then 1 else 0) ((bytes_eq-Decides x x).1 refl)

same_once : (x y : List ℕ) → 0 < once x y → x ≡ y
same_once x y some = by (bytes_eq x y) refl
  where
    by : (b : Bool) → bytes_eq x y ≡ b → x ≡ y
    by true is = (bytes_eq-Decides x y).0 is
    by false is =
        let none : once x y ≡ 0 = ap (λ b. if b then 1 else 0) is in
        absurd (omega (arith, some, none))

-- a text of one list is in the other
there_too : (x : List ℕ) (xs ys : List (List ℕ)) → HaveSameSums (x ∷ xs) ys → Contains ys x
there_too x xs ys same =
    let one = once_same x in
    let sums : sum_by (once x) ys ≡ once x x + sum_by (once x) xs = same (once x) ∙ sum_by-cons (once x) x xs in
    let found = summed_there (once x) ys (omega (arith, sums, one)) in
    subst (Contains ys) (sym (same_once x found.0 found.2)) found.1

-- the first text, or a later one
head_or_later : (x y : List ℕ) (ys : List (List ℕ)) → Ascends (y ∷ ys) → Contains (y ∷ ys) x → (comes x y ≡ false → y ≡ x) → y ≡ x
head_or_later x y ys up (zero, below, at) not_before = at
head_or_later x y ys up (suc k, below, at) not_before = not_before (up.0 x (k, omega (arith, below), at))

-- a list of texts isn't empty where another one with the same texts isn't
none_alone : (x : List ℕ) (xs : List (List ℕ)) → sum_by (λ (y : List ℕ). 1) (x ∷ xs) ≡ 0 → ⊥
none_alone x xs none =
    let all : sum_by (λ (y : List ℕ). 1) (x ∷ xs) ≡ 1 + sum_by (λ (y : List ℕ). 1) xs = sum_by-cons (λ (y : List ℕ). 1) x xs in
    omega (arith, none, all)

same_sorted : (xs ys : List (List ℕ)) → Ascends xs → Ascends ys → HaveSameSums xs ys → ys ≡ xs
same_sorted [] [] up rising same = refl
same_sorted [] (y ∷ ys) up rising same = absurd (none_alone y ys (same (λ _. 1)))
same_sorted (x ∷ xs) [] up rising same = absurd (none_alone x xs (sym (same (λ _. 1))))
same_sorted (x ∷ xs) (y ∷ ys) up rising same =
    let back : HaveSameSums (y ∷ ys) (x ∷ xs) = λ f. sym (same f) in
    let heads : y ≡ x = head_or_later x y ys rising (there_too x xs (y ∷ ys) same)
    (λ one. sym (head_or_later y x xs up (there_too y ys (x ∷ xs) back) (λ other. neither_before x y one other))) in
    let tails : HaveSameSums xs ys = λ f.
    let all : f y + sum_by f ys ≡ f x + sum_by f xs = sym (sum_by-cons f y ys) ∙ same f ∙ sum_by-cons f x xs in
    let first : f y ≡ f x = ap f heads in
    omega (arith, all, first)
    in
    ap (λ z. z ∷ ys) heads ∙ ap (λ zs. x ∷ zs) (same_sorted xs ys up.1 rising.1 tails)

-- ---- the class files among names

abbrev passed : (List ℕ → Bool) → (List ℕ → ℕ) → List ℕ → ℕ
passed test f x = if test x then f x else 0

sum_filter : (test : List ℕ → Bool) (f : List ℕ → ℕ) (xs : List (List ℕ)) → sum_by f (filter test xs) ≡ sum_by (passed test f) xs
sum_filter test f [] = refl
sum_filter test f (x ∷ xs) = by (test x) (sum_filter test f xs) ∙ sym (sum_by-cons (passed test f) x xs)
  where
    by : (b : Bool) → sum_by f (filter test xs) ≡ sum_by (passed test f) xs → sum_by f (cond b (x ∷ filter test xs) (filter test xs)) ≡ (if b then f x else 0) + sum_by (passed test f) xs
    by true later = sum_by-cons f x (filter test xs) ∙ ap (λ n. f x + n) later
    by false later =
        let none : sum_by (passed test f) xs ≡ 0 + sum_by (passed test f) xs = omega arith in
        later ∙ none

sums_filtered : (test : List ℕ → Bool) (xs ys : List (List ℕ)) → HaveSameSums xs ys → HaveSameSums (filter test xs) (filter test ys)
sums_filtered test xs ys same f = sum_filter test f ys ∙ same (passed test f) ∙ sym (sum_filter test f xs)

-- Names that were given of the same files, in any order, have the same class files in the order of their bytes.
pub one_order : (all given others names sorted : List (List ℕ)) → IsPermutation all given → IsPermutation all others → AreClassNames given names → AreClassNames others sorted → sorted ≡ names
one_order all given others names sorted one two first second =
    let given_sums : HaveSameSums given others = λ f. sum_by-IsPermutation f all others two ∙ sym (sum_by-IsPermutation f all given one) in
    let sums : HaveSameSums names sorted = λ f.
    sum_by-IsPermutation f (filter is_class_file others) sorted second.are
    ∙ sums_filtered is_class_file given others given_sums f
    ∙ sym (sum_by-IsPermutation f (filter is_class_file given) names first.are)
    in
    same_sorted names sorted (ascends names first.in_order) (ascends sorted second.in_order) sums
