-- Sums over the parts of all views.
use Rattle.std.proofs.Common.{◌≡◌, ◌≢◌, ℕ, zero, suc, ◌+◌, ◌≤◌, List, [], ◌∷◌, ◌++◌, set, refl, sym, ap, arith}
use mathlib.Core.Option.{some, some-injective, some-ne-none}
use lib.ListN.{get_elem?}
use Rattle.table_words.specs.Rule.{sum_parts, sum_views}

module _ {P : Type 0} (f : P → ℕ) where
  pub sum_parts-append : (ps qs : List P) → sum_parts f (ps ++ qs) ≡ sum_parts f ps + sum_parts f qs
  sum_parts-append [] qs = omega arith
  sum_parts-append (p ∷ ps) qs = omega (arith, sum_parts-append ps qs)

  pub sum_views-snoc : (vs : List (List P)) (w : List P) → sum_views f (vs ++ w ∷ []) ≡ sum_views f vs + sum_parts f w
  sum_views-snoc [] w = omega arith
  sum_views-snoc (v ∷ vs) w = omega (arith, sum_views-snoc vs w)

  pub sum_views-set : (vs : List (List P)) (i : ℕ) (v w : List P) → get_elem? vs i ≡ some v → sum_views f (set vs i w) + sum_parts f v ≡ sum_views f vs + sum_parts f w
  sum_views-set [] i v w at = absurd (some-ne-none v (sym at))
  sum_views-set (x ∷ vs) zero v w at = let e = ap (sum_parts f) (some-injective x v at) in omega (arith, e)
  sum_views-set (x ∷ vs) (suc i) v w at = let e = sum_views-set vs i v w at in omega (arith, e)

  -- a view has no more than all views
  pub view_le : (vs : List (List P)) (i : ℕ) (v : List P) → get_elem? vs i ≡ some v → sum_parts f v ≤ sum_views f vs
  view_le [] i v at = absurd (some-ne-none v (sym at))
  view_le (x ∷ vs) zero v at = let e = ap (sum_parts f) (some-injective x v at) in omega (arith, e)
  view_le (x ∷ vs) (suc i) v at = let e = view_le vs i v at in omega (arith, e)

  -- nor have two of them
  pub two_views_le : (vs : List (List P)) (i j : ℕ) (v u : List P) → get_elem? vs i ≡ some v → get_elem? vs j ≡ some u → j ≢ i
      → sum_parts f v + sum_parts f u ≤ sum_views f vs
  two_views_le [] i j v u a b n = absurd (some-ne-none v (sym a))
  two_views_le (x ∷ vs) zero zero v u a b n = absurd (n refl)
  two_views_le (x ∷ vs) zero (suc j) v u a b n = let e = ap (sum_parts f) (some-injective x v a) in let l = view_le vs j u b in omega (arith, e, l)
  two_views_le (x ∷ vs) (suc i) zero v u a b n = let e = ap (sum_parts f) (some-injective x u b) in let l = view_le vs i v a in omega (arith, e, l)
  two_views_le (x ∷ vs) (suc i) (suc j) v u a b n = let l = two_views_le vs i j v u a b (λ e. n (ap suc e)) in omega (arith, l)
