-- Which classes of the ring are above themselves.
use Rattle.std.proofs.Common.{◌≡◌, ◌<◌, ℕ, List, [], ◌∷◌, ◌⊎◌, Contains, inl, inr, refl, sym, subst, ◌∙◌, arith}
use Rattle.link_rules.specs.Classes.{superclass_of, interfaces_of}
use Rattle.link_rules.specs.Supers.{HasSuper, IsWayUp, IsAbove}
use Rattle.link_examples.specs.Programs.{ring}

pub first_above_itself : IsAbove ring 1 1
first_above_itself = (2 ∷ [], ((λ e. omega arith, inl refl), (λ e. omega arith, inl refl)))

pub second_above_itself : IsAbove ring 2 2
second_above_itself = (1 ∷ [], ((λ e. omega arith, inl refl), (λ e. omega arith, inl refl)))

one_of : (c s d : ℕ) → superclass_of ring c ≡ s → interfaces_of ring c ≡ [] → HasSuper ring c d → d ≡ s
one_of c s d super none h =
    elim h.1 [
      | inl e ↦ sym e ∙ super
      | inr i ↦ absurd (let k : Contains [] d = subst (λ xs. Contains xs d) none i in let lt : k.0 < 0 = k.1 in omega arith)
    ]

-- what is named above a class of the ring is of the ring
stays : (c d : ℕ) → (c ≡ 1) ⊎ (c ≡ 2) → HasSuper ring c d → (d ≡ 1) ⊎ (d ≡ 2)
stays c d in_ring h =
    elim in_ring [
      | inl one ↦ inr (one_of 1 2 d refl refl (subst (λ x. HasSuper ring x d) one h))
      | inr two ↦ inl (one_of 2 1 d refl refl (subst (λ x. HasSuper ring x d) two h))
    ]

goes_round : (way : List ℕ) (c d : ℕ) → (c ≡ 1) ⊎ (c ≡ 2) → IsWayUp ring c way d → (d ≡ 1) ⊎ (d ≡ 2)
goes_round [] c d in_ring h = stays c d in_ring h
goes_round (e ∷ way) c d in_ring h = goes_round way e d (stays c e in_ring h.0) h.1

no_third : (d : ℕ) → d ≡ 3 → (d ≡ 1) ⊎ (d ≡ 2) → ⊥
no_third d third h = elim h [ inl one ↦ omega arith | inr two ↦ omega arith ]

pub third_not_above_itself : ¬ IsAbove ring 3 3
third_not_above_itself above = go above.0 above.1
  where
    go : (way : List ℕ) → IsWayUp ring 3 way 3 → ⊥
    go [] h = no_third 3 refl (inl (one_of 3 1 3 refl refl h))
    go (e ∷ way) h = no_third 3 refl (goes_round way e 3 (inl (one_of 3 1 e refl refl h.0)) h.1)
