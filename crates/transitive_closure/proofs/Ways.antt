-- Ways that go by numbers below a bound, one bound after the other.
use Rattle.std.proofs.Common.{◌≡◌, ◌↔◌, ◌⊎◌, ℕ, ◌+◌, ◌<◌, ◌≤◌, ◌||◌, ◌&&◌, Bool, false, true, List, [], ◌∷◌, ◌++◌, length, inl, inr, refl, sym, ◌∙◌, subst, arith}
use Rattle.std.proofs.lemmas.Bool.{cases_lt}
use Rattle.std.proofs.lemmas.List.{get_or_past}
use Rattle.transitive_closure.specs.Relation.{row_of, relates, Relates, IsWay, Reaches, IsClosure}

abbrev pub IsWayBelow : (ℕ → ℕ → Type 0) → ℕ → ℕ → List ℕ → ℕ → Type 0
IsWayBelow R k a [] b = R a b
IsWayBelow R k a (c ∷ way) b = (c < k) × R a c × IsWayBelow R k c way b

abbrev pub ReachesBelow : (ℕ → ℕ → Type 0) → ℕ → ℕ → ℕ → Type 0
ReachesBelow R k a b = (way : List ℕ) × IsWayBelow R k a way b

-- what is reached by numbers below a bound is related so far
abbrev pub IsClosedBelow : List (List Bool) → ℕ → List (List Bool) → Type 0
IsClosedBelow rows k closed = (a b : ℕ) → Relates closed a b ↔ ReachesBelow (Relates rows) k a b

module _ (R : ℕ → ℕ → Type 0) where
  grow : (k a : ℕ) (way : List ℕ) (b : ℕ) → IsWayBelow R k a way b → IsWayBelow R (k + 1) a way b
  grow k a [] b w = w
  grow k a (c ∷ way) b w = let less : c < k = w.0 in (omega arith, w.1, grow k c way b w.2)

  join_at : (k a : ℕ) (v w : List ℕ) (b : ℕ) → IsWayBelow R k a v k → IsWayBelow R k k w b → IsWayBelow R (k + 1) a (v ++ k ∷ w) b
  join_at k a [] w b one two = (omega arith, one, grow k k w b two)
  join_at k a (c ∷ v) w b one two = let less : c < k = one.0 in (omega arith, one.1, join_at k c v w b one.2 two)

  Split : ℕ → ℕ → ℕ → Type 0
  Split k a b = ReachesBelow R k a b ⊎ (ReachesBelow R k a k × ReachesBelow R k k b)

  split_at : (k a : ℕ) (way : List ℕ) (b : ℕ) → IsWayBelow R (k + 1) a way b → ReachesBelow R k a b ⊎ (ReachesBelow R k a k × ReachesBelow R k k b)
  split_at k a [] b w = inl ([], w)
  split_at k a (c ∷ way) b w = elim (cases_lt c k) [
    | inl less ↦ elim (split_at k c way b w.2) [
      | inl on ↦ inl (c ∷ on.0, (less, w.1, on.1))
      | inr by ↦ inr ((c ∷ by.0.0, (less, w.1, by.0.1)), by.1)
    ]
    | inr more ↦
        let below : c < k + 1 = w.0 in
        let same : c ≡ k = omega arith in
        let first : R a k = subst (R a) same w.1 in
        let rest : IsWayBelow R (k + 1) k way b = subst (λ x. IsWayBelow R (k + 1) x way b) same w.2 in
        after first (elim (split_at k c way b w.2) [
          | inl on ↦ subst (λ x. ReachesBelow R k x b) same on
          | inr by ↦ by.1
        ])
  ]
    where
      after : R a k → ReachesBelow R k k b → ReachesBelow R k a b ⊎ (ReachesBelow R k a k × ReachesBelow R k k b)
      after first rest = inr (([], first), rest)

  -- below no number a way is one step
  pub one_step : (a b : ℕ) → R a b ↔ ReachesBelow R 0 a b
  one_step a b = (λ r. ([], r), λ h. alone h.0 h.1)
    where
      alone : (way : List ℕ) → IsWayBelow R 0 a way b → R a b
      alone [] w = w
      alone (c ∷ way) w = let less : c < 0 = w.0 in absurd (omega arith)

  -- where all that is related lies below a bound, a way goes by numbers below it
  pub all_ways : (k : ℕ) → ((a b : ℕ) → R a b → a < k) → (a b : ℕ) → ReachesBelow R k a b ↔ Reaches R a b
  all_ways k bounded a b = (λ h. (h.0, forget a h.0 h.1), λ h. (h.0, bound a h.0 h.1))
    where
      forget : (a : ℕ) (way : List ℕ) → IsWayBelow R k a way b → IsWay R a way b
      forget a [] w = w
      forget a (c ∷ way) w = (w.1, forget c way w.2)

      starts : (c : ℕ) (way : List ℕ) → IsWay R c way b → c < k
      starts c [] w = bounded c b w
      starts c (d ∷ way) w = bounded c d w.0

      bound : (a : ℕ) (way : List ℕ) → IsWay R a way b → IsWayBelow R k a way b
      bound a [] w = w
      bound a (c ∷ way) w = (starts c way w.1, w.0, bound c way w.1)

or_true : (x y z : Bool) → (x || (y && z)) ≡ true → (x ≡ true) ⊎ ((y ≡ true) × (z ≡ true))
or_true true y z e = inl refl
or_true false true true e = inr (refl, refl)
or_true false true false e = absurd cc
or_true false false z e = absurd cc

true_or : (x y z : Bool) → (x ≡ true) ⊎ ((y ≡ true) × (z ≡ true)) → (x || (y && z)) ≡ true
true_or true y z h = refl
true_or false true true h = refl
true_or false true false (inl e) = absurd cc
true_or false true false (inr e) = absurd (let f = e.1 in cc)
true_or false false z (inl e) = absurd cc
true_or false false z (inr e) = absurd (let f = e.0 in cc)

-- one number more that ways may go by
pub one_more : (rows old new : List (List Bool)) (k : ℕ) → IsClosedBelow rows k old
    → ((a b : ℕ) → relates new a b ≡ (relates old a b || (relates old a k && relates old k b))) → IsClosedBelow rows (k + 1) new
one_more rows old new k closed next a b = (
  λ t. elim (or_true (relates old a b) (relates old a k) (relates old k b) (sym (next a b) ∙ t)) [
    | inl e ↦ let h = (closed a b).0 e in (h.0, grow (Relates rows) k a h.0 b h.1)
    | inr e ↦
        let one = (closed a k).0 e.0 in
        let two = (closed k b).0 e.1 in
        (one.0 ++ k ∷ two.0, join_at (Relates rows) k a one.0 two.0 b one.1 two.1)
  ],
  λ h. next a b ∙ true_or (relates old a b) (relates old a k) (relates old k b) (elim (split_at (Relates rows) k a h.0 b h.1) [
    | inl on ↦ inl ((closed a b).1 on)
    | inr by ↦ inr ((closed a k).1 by.0, (closed k b).1 by.1)
  ]),
)

pub first_is_inside : (rows : List (List Bool)) (a b : ℕ) → Relates rows a b → a < length rows
first_is_inside rows a b r = elim (cases_lt a (length rows)) [
  | inl less ↦ less
  | inr more ↦
      let none : row_of rows a ≡ [] = get_or_past rows a [] more in
      let no : relates rows a b ≡ false = subst (λ row. Rattle.std.specs.Prelude.slice_index_or row b false ≡ false) (sym none) refl in
      absurd cc
]

pub closed_at_first : (rows : List (List Bool)) → IsClosedBelow rows 0 rows
closed_at_first rows a b = one_step (Relates rows) a b

pub closed_at_last : (rows closed : List (List Bool)) (k : ℕ) → length rows ≤ k → IsClosedBelow rows k closed → IsClosure rows closed
closed_at_last rows closed k le below a b =
    let all = all_ways (Relates rows) k (λ c d r. let less : c < length rows = first_is_inside rows c d r in omega arith) a b in
    (λ t. all.0 ((below a b).0 t), λ h. (below a b).1 (all.1 h))
