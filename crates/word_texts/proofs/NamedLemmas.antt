-- Which arrays lines name.
use Rattle.std.proofs.Common.{◌≡◌, ◌↔◌, inl, inr, ℕ, List, [], ◌∷◌, ◌++◌, Contains, ap, subst}
use Rattle.std.proofs.lemmas.List.Elements.{Contains-append_left, Contains-push, Contains-push_cases}
use Rattle.op_core.specs.declared.Line.{Line}
use Rattle.op_core.specs.declared.Line.TheVariants.{Made}

abbrev pub AreNamed : List Line → List ℕ → Type 0
AreNamed lines arrays = (r : ℕ) → Contains arrays r ↔ Contains lines (Made r)

abbrev array_of : Line → ℕ
array_of (Made r) = r
array_of _ = 0

pub one_more_named : (lines : List Line) (arrays : List ℕ) (a : ℕ) → AreNamed lines arrays → AreNamed (lines ++ Made a ∷ []) (arrays ++ a ∷ [])
one_more_named lines arrays a are r = (to, from)
  where
    to : Contains (arrays ++ a ∷ []) r → Contains (lines ++ Made a ∷ []) (Made r)
    to there = elim (Contains-push_cases arrays a r there) [
      | inl before ↦ Contains-append_left lines (Made a ∷ []) (Made r) ((are r).0 before)
      | inr same ↦ subst (λ k. Contains (lines ++ Made a ∷ []) (Made k)) same (Contains-push lines (Made a))
    ]

    from : Contains (lines ++ Made a ∷ []) (Made r) → Contains (arrays ++ a ∷ []) r
    from there = elim (Contains-push_cases lines (Made a) (Made r) there) [
      | inl before ↦ Contains-append_left arrays (a ∷ []) r ((are r).1 before)
      | inr same ↦ subst (Contains (arrays ++ a ∷ [])) (ap array_of same) (Contains-push arrays a)
    ]

pub none_more_named : (lines : List Line) (arrays : List ℕ) (line : Line) → AreNamed lines arrays → ((r : ℕ) → line ≡ Made r → ⊥) → AreNamed (lines ++ line ∷ []) arrays
none_more_named lines arrays line are other r = (λ there. Contains-append_left lines (line ∷ []) (Made r) ((are r).0 there), from)
  where
    from : Contains (lines ++ line ∷ []) (Made r) → Contains arrays r
    from there = elim (Contains-push_cases lines line (Made r) there) [
      | inl before ↦ (are r).1 before
      | inr same ↦ absurd (other r same)
    ]
