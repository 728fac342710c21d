-- Lists of levels, the innermost or the outermost first.
use Rattle.std.proofs.Common.{◌≡◌, ◌⊎◌, inl, inr, ℕ, suc, ◌-◌, ◌<◌, ◌≤◌, Some, List, [], ◌∷◌, ◌++◌, length, take, drop, map, reverse, slice_get, get_or, arith, refl, sym, ◌∙◌, ap, subst}
use Rattle.std.proofs.lemmas.Bool.{cases_lt}
use Rattle.std.proofs.lemmas.List.{reverse-append, length-reverse, take-append-le, take-map, take_all, map-append, get_or-reverse}
use Rattle.std.proofs.lemmas.Option.{slice_get-get_or, slice_get-map, get_or_from_slice_get}
use Rattle.std.specs.Option.{option_map}
use Rattle.core_runs.specs.Cores.{outermost}
use Rattle.section_laws.proofs.section_levels.RowLemmas.{outermost_all}

pub reverse_more : {A : Type 0} (x : A) (xs : List A) → reverse (x ∷ xs) ≡ reverse xs ++ x ∷ []
reverse_more x xs = reverse-append (x ∷ []) xs

-- the outermost m, with these first
pub outermost_first : (m : ℕ) (levels : List ℕ) → m ≤ length levels → take m (reverse levels) ≡ reverse (outermost m levels)
outermost_first m [] low = ap (λ n. take n (reverse [])) (none_left low) ∙ ap (λ n. reverse (drop (0 - n) [])) (sym (none_left low))
  where
    none_left : m ≤ 0 → m ≡ 0
    none_left low = omega (arith, low)
outermost_first m (x ∷ levels) low = by_length (cases_lt (length levels) m) (outermost_first m levels)
  where
    all : length levels < m → m ≡ length (x ∷ levels)
    all high = omega (arith, high, low)

    by_length : (length levels < m) ⊎ (m ≤ length levels) → (m ≤ length levels → take m (reverse levels) ≡ reverse (outermost m levels)) → take m (reverse (x ∷ levels)) ≡ reverse (outermost m (x ∷ levels))
    by_length (inl high) rest = take_all m (reverse (x ∷ levels)) (long (length-reverse (x ∷ levels)) (all high)) ∙ ap reverse (sym (outermost_all m (x ∷ levels) (sym (all high))))
      where
        long : {n k : ℕ} → n ≡ k → m ≡ k → n ≤ m
        long is same = omega (arith, is, same)
    by_length (inr inside) rest = ap (take m) (reverse_more x levels) ∙ take-append-le m (reverse levels) (x ∷ []) (subst (λ n. m ≤ n) (sym (length-reverse levels)) inside)
        ∙ rest inside ∙ ap (λ n. reverse (drop n (x ∷ levels))) (one_more inside)
      where
        one_more : m ≤ length levels → suc (length levels - m) ≡ suc (length levels) - m
        one_more inside = omega (arith, inside)

-- number m of the outermost
pub outermost_nth : (m p : ℕ) (levels : List ℕ) → m < length levels → slice_get levels (length levels - suc m) ≡ Some p → slice_get (reverse levels) m ≡ Some p
outermost_nth m p levels low at =
    slice_get-get_or (reverse levels) m p (subst (λ n. m < n) (sym (length-reverse levels)) low) ∙ ap Some (get_or-reverse levels m p low
    ∙ ap (λ n. get_or levels n p) (omega arith) ∙ get_or_from_slice_get levels (length levels - suc m) p p at)

module _ (count : ℕ → ℕ) where
  pub count_first : (m : ℕ) (levels : List ℕ) → m ≤ length levels → take m (map count (reverse levels)) ≡ map count (reverse (outermost m levels))
  count_first m levels low = take-map count m (reverse levels) ∙ ap (map count) (outermost_first m levels low)

  pub count_more : (k : ℕ) (levels : List ℕ) → map count (reverse levels) ++ count k ∷ [] ≡ map count (reverse (k ∷ levels))
  count_more k levels = sym (map-append count (reverse levels) (k ∷ [])) ∙ ap (map count) (sym (reverse_more k levels))

  pub count_nth : (m p : ℕ) (levels : List ℕ) → m < length levels → slice_get levels (length levels - suc m) ≡ Some p → slice_get (map count (reverse levels)) m ≡ Some (count p)
  count_nth m p levels low at = slice_get-map count (reverse levels) m ∙ ap (option_map count) (outermost_nth m p levels low at)

  pub count_length : (levels : List ℕ) → length (map count (reverse levels)) ≡ length levels
  count_length levels = length_map (reverse levels) ∙ length-reverse levels
    where
      length_map : (xs : List ℕ) → length (map count xs) ≡ length xs
      length_map [] = refl
      length_map (x ∷ xs) = ap suc (length_map xs)
