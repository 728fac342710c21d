-- Numbers in the order of how many each is related to.
use Rattle.std.proofs.Common.{◌≡◌, ℕ, ◌+◌, ◌-◌, ◌<◌, ◌≤◌, Bool, false, List, [], ◌∷◌, ◌++◌, length, map, Some, slice_get, Contains, slice_index_or, inl, inr, refl, sym, ◌∙◌, ap, subst, arith, All}
use Rattle.std.proofs.lemmas.Bool.{cases_lt}
use Rattle.std.proofs.lemmas.List.{get_or_past, length-map}
use Rattle.std.proofs.lemmas.List.FromFn.{map-range_with_len_more, length-map-range_with_len, get_or-map-range_with_len}
use Rattle.std.proofs.lemmas.List.Elements.{All-map}
use Rattle.std.proofs.lemmas.List.Sorted.{Contains-permutation, All-permutation, length_permutation}
use Rattle.std.proofs.lemmas.Option.{slice_get-map, slice_get-get_or, get_or_from_slice_get, slice_get_within, same_Some}
use Rattle.std.specs.List.{range_with_len}
use Rattle.std.specs.List.Sorted.{IsPermutation, IsNonDecreasingBy}
use Rattle.std.specs.Option.{option_map}
use Rattle.transitive_closure.specs.Relation.{row_of, relates, Relates, IsTable, IsStrictOrder, PutsRelatedFirst}
use Rattle.transitive_closure.specs.Rank.{rank_of, ranks_of}
use Rattle.transitive_closure.specs.declared.ordering.Rank.{Rank}
use Rattle.transitive_closure.proofs.Counts.{count_less}
use Rattle.transitive_closure.proofs.Ways.{first_is_inside}

pub ranked_more : (rows : List (List Bool)) (first number : ℕ) → first ≤ number → map (rank_of rows) (range_with_len first (number + 1 - first)) ≡ map (rank_of rows) (range_with_len first (number - first)) ++ rank_of rows number ∷ []
ranked_more rows first number le =
    let e : number + 1 - first ≡ number - first + 1 = omega arith in
    ap (λ n. map (rank_of rows) (range_with_len first n)) e ∙ map-range_with_len_more (rank_of rows) first (number - first) number (omega arith)

abbrev number_of : Rank → ℕ
number_of r = r.number

abbrev count_of : Rank → ℕ
count_of r = r.count

second_is_inside : (rows : List (List Bool)) (a b : ℕ) → IsTable rows → Relates rows a b → b < length rows
second_is_inside rows a b table r =
    let inside : a < length rows = first_is_inside rows a b r in
    let width : length (row_of rows a) ≡ length rows = table.square a inside in
    elim (cases_lt b (length rows)) [
      | inl less ↦ less
      | inr more ↦
          let past : length (row_of rows a) ≤ b = omega arith in
          let no : relates rows a b ≡ false = get_or_past (row_of rows a) b false past in
          absurd cc
    ]

module _ (rows : List (List Bool)) (first : ℕ) (sorted : List Rank) (same : IsPermutation (ranks_of rows first) sorted) where
  abbrev order : List ℕ
  order = map number_of sorted

  IsRank : Rank → Type 0
  IsRank r = r ≡ rank_of rows r.number

  each_ranked : All (λ (r : Rank). r ≡ rank_of rows r.number) sorted
  each_ranked =
      All-permutation (λ (r : Rank). r ≡ rank_of rows r.number) (ranks_of rows first) sorted same
      (All-map (λ (r : Rank). r ≡ rank_of rows r.number) (rank_of rows) (range_with_len first (length rows - first)) (λ k d lt. refl))

  rank_there : (i a : ℕ) → slice_get order i ≡ Some a → slice_get sorted i ≡ Some (rank_of rows a)
  rank_there i a at =
      let in_order : i < length order = slice_get_within order i a at in
      let inside : i < length sorted = omega (arith, length-map sorted number_of) in
      let r : Rank = slice_index_or sorted i (rank_of rows a) in
      let there : slice_get sorted i ≡ Some (slice_index_or sorted i (rank_of rows a)) = slice_get-get_or sorted i (rank_of rows a) inside in
      let its : slice_get order i ≡ Some (number_of (slice_index_or sorted i (rank_of rows a))) = slice_get-map number_of sorted i ∙ ap (option_map number_of) there in
      let named : number_of (slice_index_or sorted i (rank_of rows a)) ≡ a = same_Some _ _ (sym its ∙ at) in
      let ranked : slice_index_or sorted i (rank_of rows a) ≡ rank_of rows (number_of (slice_index_or sorted i (rank_of rows a))) = each_ranked i (rank_of rows a) inside in
      there ∙ ap (λ (x : Rank). Some x) (ranked ∙ ap (rank_of rows) named)

  listed_there : (a : ℕ) → Contains sorted (rank_of rows a) → (i : ℕ) × (slice_get sorted i ≡ Some (rank_of rows a)) × (slice_get order i ≡ Some a)
  listed_there a h =
      let there : slice_get sorted h.0 ≡ Some (rank_of rows a) = slice_get-get_or sorted h.0 (rank_of rows a) h.1 ∙ ap (λ (x : Rank). Some x) h.2 in
      (h.0, there, slice_get-map number_of sorted h.0 ∙ ap (option_map number_of) there)

  number_there : (a : ℕ) → first ≤ a → a < length rows → (i : ℕ) × (slice_get sorted i ≡ Some (rank_of rows a)) × (slice_get order i ≡ Some a)
  number_there a low high =
      let room : length (ranks_of rows first) ≡ length rows - first = length-map-range_with_len (rank_of rows) first (length rows - first) in
      let place : a - first < length rows - first = omega arith in
      let listed : Contains (ranks_of rows first) (rank_of rows a) =
      (a - first, omega arith, get_or-map-range_with_len (rank_of rows) first (length rows - first) (a - first) a (rank_of rows a) place (omega arith)) in
      listed_there a (Contains-permutation (ranks_of rows first) sorted (rank_of rows a) same listed)

  pub puts_related_first : IsTable rows → IsStrictOrder rows → IsNonDecreasingBy (λ (r : Rank). r.count) sorted → PutsRelatedFirst rows first (map (λ (r : Rank). r.number) sorted)
  puts_related_first table strict up = record {
    count = length-map sorted number_of ∙ length_permutation (ranks_of rows first) sorted same ∙ length-map-range_with_len (rank_of rows) first (length rows - first);
    whole = λ a low high. let h = number_there a low high in (h.0, h.2);
    before = λ i a b at low r. before i a b at r (number_there b low (second_is_inside rows a b table r));
  }
    where
      before : (i a b : ℕ) → slice_get order i ≡ Some a → Relates rows a b → (j : ℕ) × (slice_get sorted j ≡ Some (rank_of rows b)) × (slice_get order j ≡ Some b) → (j : ℕ) × (j < i) × (slice_get order j ≡ Some b)
      before i a b at r h = elim (cases_lt h.0 i) [
        | inl less ↦ (h.0, less, h.2)
        | inr more ↦
            let fewer : count_of (rank_of rows b) < count_of (rank_of rows a) = count_less (row_of rows b) (row_of rows a) b (λ k t. strict.through a b k r t) (strict.apart b) r in
            let d : Rank = rank_of rows a in
            let mine : slice_index_or sorted i (rank_of rows a) ≡ rank_of rows a = get_or_from_slice_get sorted i (rank_of rows a) (rank_of rows a) (rank_there i a at) in
            let its : slice_index_or sorted h.0 (rank_of rows a) ≡ rank_of rows b = get_or_from_slice_get sorted h.0 (rank_of rows b) (rank_of rows a) h.1 in
            let inside : h.0 < length sorted = slice_get_within sorted h.0 (rank_of rows b) h.1 in
            let le : count_of (slice_index_or sorted i (rank_of rows a)) ≤ count_of (slice_index_or sorted h.0 (rank_of rows a)) = up i h.0 (rank_of rows a) more inside in
            let one : count_of (slice_index_or sorted i (rank_of rows a)) ≡ count_of (rank_of rows a) = ap count_of mine in
            let two : count_of (slice_index_or sorted h.0 (rank_of rows a)) ≡ count_of (rank_of rows b) = ap count_of its in
            absurd (omega arith)
      ]

pub ordered : (rows : List (List Bool)) (first : ℕ) (ranks sorted lent : List Rank) (numbers : List ℕ) → IsTable rows → IsStrictOrder rows → ranks ≡ ranks_of rows first → IsPermutation ranks sorted → IsNonDecreasingBy (λ (r : Rank). r.count) sorted → lent ≡ sorted → numbers ≡ map (λ (r : Rank). r.number) lent → PutsRelatedFirst rows first numbers
ordered rows first ranks sorted lent numbers table strict are same up lends is =
    let all : numbers ≡ map (λ (r : Rank). r.number) sorted = is ∙ ap (map (λ (r : Rank). r.number)) lends in
    subst (PutsRelatedFirst rows first) (sym all)
    (puts_related_first rows first sorted (subst (λ xs. IsPermutation xs sorted) are same) table strict up)
