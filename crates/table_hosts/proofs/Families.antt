-- Each thread that was handed out has a part, after slices of turns too.
use Rattle.std.proofs.Common.{◌≡◌, ◌⊎◌, inl, inr, ℕ, zero, suc, List, [], ◌∷◌, ◌++◌, refl, sym, ap, subst, arith}
use Rattle.std.specs.Prelude.{Contains}
use Rattle.std.proofs.lemmas.List.Elements.{Contains-append_left, Contains-append_right, Contains-append_cases}
use Rattle.core_runs.specs.declared.Birth.{Birth}
use Rattle.section_laws.proofs.CoreRunLemmas.{in_front, none_there}
use Rattle.table_words.specs.declared.setup.Setup.{Setup}
use Rattle.table_words.specs.declared.setup.ThreadPart.{ThreadPart}
use Rattle.table_words.specs.Setups.{first_birth}
use Rattle.table_words.specs.Parts.{fresh_part}
use Rattle.table_words.specs.Rule.{sum_parts, one_if_numbered}
use Rattle.table_words.specs.Ends.{handed_numbers, HasPartOf, HaveAllThreads}
use Rattle.table_words.proofs.Sums.{sum_parts-append}
use Rattle.table_hosts.specs.Families.{HaveNoSteps, Begot}

-- a thread that begins has made no step
pub fresh_no_steps : {C : Type 0} (k : Setup C) (birth : Birth) (v : List (ThreadPart C)) → v ≡ fresh_part k birth ∷ [] → HaveNoSteps v
fresh_no_steps k birth v is p there = elim (in_front (fresh_part k birth) p [] (subst (λ u. Contains u p) is there)) [
  | inl same ↦ ap (λ (u : ThreadPart _). u.steps) (sym same)
  | inr none ↦ none_there p none
]

-- and has handed out nobody
pub handed_nobody : {C : Type 0} (ps : List (ThreadPart C)) → HaveNoSteps ps → (p : ThreadPart C) → Contains ps p → handed_numbers p.steps ≡ []
handed_nobody ps none p there = ap handed_numbers (none p there)

none_handed : {A : Type 0} (ns : List ℕ) (n : ℕ) → ns ≡ [] → Contains ns n → A
none_handed ns n is there = none_there n (subst (λ ms. Contains ms n) is there)

pub has_part_left : {C : Type 0} (n : ℕ) (xs ys : List (ThreadPart C)) → HasPartOf xs n → HasPartOf (xs ++ ys) n
has_part_left n xs ys h = let e = sum_parts-append (one_if_numbered n) xs ys in omega (arith, e, h)

pub has_part_right : {C : Type 0} (n : ℕ) (xs ys : List (ThreadPart C)) → HasPartOf ys n → HasPartOf (xs ++ ys) n
has_part_right n xs ys h = let e = sum_parts-append (one_if_numbered n) xs ys in omega (arith, e, h)

has_part_cases : {C : Type 0} (n : ℕ) (xs ys : List (ThreadPart C)) → HasPartOf (xs ++ ys) n → HasPartOf xs n ⊎ HasPartOf ys n
has_part_cases n xs ys h = by_count (sum_parts (one_if_numbered n) xs) refl
  where
    by_count : (m : ℕ) → sum_parts (one_if_numbered n) xs ≡ m → HasPartOf xs n ⊎ HasPartOf ys n
    by_count zero e = let a = sum_parts-append (one_if_numbered n) xs ys in inr (omega (arith, a, e, h))
    by_count (suc m) e = inl (omega (arith, e))

-- the first thread alone, before its first step
pub first_is_all : {C : Type 0} (k : Setup C) (v : List (ThreadPart C)) → v ≡ fresh_part k (first_birth k) ∷ [] → HaveAllThreads v
first_is_all k v is = record {
  first = subst (λ u. HasPartOf u 1) (sym is) (omega arith);
  others = λ p there n n_in. none_handed (handed_numbers p.steps) n (handed_nobody v (fresh_no_steps k (first_birth k) v is) p there) n_in;
}

-- the order of the parts says nothing
pub all_swapped : {C : Type 0} (xs ys : List (ThreadPart C)) → HaveAllThreads (xs ++ ys) → HaveAllThreads (ys ++ xs)
all_swapped xs ys h = record {
  first = turned 1 h.first;
  others = λ p there n n_in. turned n (h.others p (there_too p there) n n_in);
}
  where
    turned : (n : ℕ) → HasPartOf (xs ++ ys) n → HasPartOf (ys ++ xs) n
    turned n has = elim (has_part_cases n xs ys has) [
      | inl left ↦ has_part_right n ys xs left
      | inr right ↦ has_part_left n ys xs right
    ]

    there_too : (p : ThreadPart _) → Contains (ys ++ xs) p → Contains (xs ++ ys) p
    there_too p there = elim (Contains-append_cases ys xs p there) [
      | inl left ↦ Contains-append_right xs ys p left
      | inr right ↦ Contains-append_left xs ys p right
    ]

-- Where the parts of some threads and `rest` are all, so are those that they have after slices of turns, those of the threads
-- that they handed out in these, and `rest`.
pub all_later : {C : Type 0} (old new born rest : List (ThreadPart C)) → HaveAllThreads (old ++ rest) → Begot old new born → HaveNoSteps born → HaveAllThreads (new ++ (born ++ rest))
all_later old new born rest h begot no_steps = record {
  first = kept 1 h.first;
  others = λ p there n n_in. elim (Contains-append_cases new (born ++ rest) p there) [
    | inl grown ↦ begot.handed (new ++ (born ++ rest)) (λ q q_in m m_in. kept m (h.others q (Contains-append_left old rest q q_in) m m_in)) (λ m has. of_born m has) p grown n n_in
    | inr more ↦ elim (Contains-append_cases born rest p more) [
      | inl one ↦ none_handed (handed_numbers p.steps) n (handed_nobody born no_steps p one) n_in
      | inr other ↦ kept n (h.others p (Contains-append_right old rest p other) n n_in)
    ]
  ];
}
  where
    of_born : (n : ℕ) → HasPartOf born n → HasPartOf (new ++ (born ++ rest)) n
    of_born n has = has_part_right n new (born ++ rest) (has_part_left n born rest has)

    kept : (n : ℕ) → HasPartOf (old ++ rest) n → HasPartOf (new ++ (born ++ rest)) n
    kept n has = elim (has_part_cases n old rest has) [
      | inl was ↦ has_part_left n new (born ++ rest) (begot.numbers n was)
      | inr other ↦ has_part_right n new (born ++ rest) (has_part_right n born rest other)
    ]
