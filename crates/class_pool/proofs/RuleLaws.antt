-- What a function refuses by rules in order, where memory may run out.
use Rattle.std.proofs.Common.{◌≡◌, ℕ, List, Some, slice_get, Result, Ok, Err, inl, inr}
use Rattle.rules.specs.Rules.{Rules, HoldBelow, each, ◌then◌}
use Rattle.class_pool.specs.declared.refusal.ReadRefusal.{ReadRefusal}
use Rattle.class_pool.specs.Answers.{Refuses, Gives}

pub refuses_at : {X : Type 0} (rules : ℕ → X → Rules ReadRefusal) (xs : List X) (i : ℕ) (x : X) (e : ReadRefusal) → slice_get xs i ≡ Some x → HoldBelow rules xs i → Refuses e (rules i x) → Refuses e (each rules xs)
refuses_at rules xs i x e at below refused =
    elim refused [
      | inl no_memory ↦ inl no_memory
      | inr broken ↦ inr (i, x, at, below, broken)
    ]

-- what a function gives by the second rules, where the first ones hold
pub gives_behind : {X : Type 0} (a b : Rules ReadRefusal) (Is : X → Type 0) (r : Result X ReadRefusal) → a.Hold → Gives r b Is → Gives r (a then b) Is
gives_behind a b Is (Ok x) holds given = ((holds, given.0), given.1)
gives_behind a b Is (Err e) holds refused =
    elim refused [
      | inl no_memory ↦ inl no_memory
      | inr broken ↦ inr (inr (holds, broken))
    ]
