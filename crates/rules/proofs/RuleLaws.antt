-- Rules of items, one item after another.
use Rattle.std.proofs.Common.{◌≡◌, ℕ, zero, suc, ◌+◌, ◌<◌, ◌≤◌, List, [], ◌∷◌, length, Some, slice_get, subst, sym, ◌∙◌, inl, inr, arith}
use Rattle.std.proofs.lemmas.Option.{slice_get_within, same_Some, none-some}
use Rattle.std.proofs.lemmas.Bool.{cases_lt}
use Rattle.rules.specs.Rules.{Rules, HoldBelow, each}

pub one_more : {E X : Type 0} (rules : ℕ → X → Rules E) (xs : List X) (end : ℕ) (x : X) → slice_get xs end ≡ Some x → HoldBelow rules xs end → (rules end x).Hold → HoldBelow rules xs (end + 1)
one_more {X} rules xs end x at below here i y lt e =
    elim (cases_lt i end) [
      | inl less ↦ below i y less e
      | inr more ↦
          let same_index : end ≡ i = omega arith in
          let P : ℕ → Type 0 = λ k. slice_get xs k ≡ Some x in
          let at_i : slice_get xs i ≡ Some x = subst P same_index at in
          let same : x ≡ y = same_Some x y (sym at_i ∙ e) in
          let Q : ℕ → Type 0 = λ k. (rules k x).Hold in
          let R : X → Type 0 = λ z. (rules i z).Hold in
          subst R same (subst Q same_index here)
    ]

pub none_yet : {E X : Type 0} (rules : ℕ → X → Rules E) (xs : List X) → HoldBelow rules xs 0
none_yet rules xs i x lt e = absurd (omega arith)

pub all_hold : {E X : Type 0} (rules : ℕ → X → Rules E) (xs : List X) (end : ℕ) → length xs ≤ end → HoldBelow rules xs end → (each rules xs).Hold
all_hold rules xs end le below i x e =
    let lt : i < length xs = slice_get_within xs i x e in
    below i x (omega arith) e

-- the rules of one item
pub one_holds : {E X : Type 0} (rules : ℕ → X → Rules E) (x : X) → (rules 0 x).Hold → (each rules (x ∷ [])).Hold
one_holds {X = X} rules x first zero y e = subst (λ (z : X). (rules 0 z).Hold) (same_Some x y e) first
one_holds rules x first (suc i) y e = absurd (none-some y e)
