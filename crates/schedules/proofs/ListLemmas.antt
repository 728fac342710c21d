-- Lists of threads by rising number.
use Rattle.std.proofs.Common.{◌≡◌, inl, inr, ℕ, zero, suc, ◌+◌, ◌<◌, List, [], ◌∷◌, ◌++◌, get_or, refl, sym, subst, arith}
use Rattle.std.specs.Prelude.{◌⊎◌}
use Rattle.std.specs.List.{Contains, AllPairs}
use Rattle.std.specs.List.Sorted.{IsStrictlyIncreasing}
use Rattle.std.proofs.lemmas.List.Elements.{Contains-append_left, Contains-append_right, Contains-append_cases}
use Rattle.std.proofs.lemmas.List.Kept.{AllPairs-from_increasing}
use Rattle.std.proofs.lemmas.List.Quantifiers.{all_pairs_push}
use Rattle.std.proofs.lemmas.Option.{slice_get-get_or, get_or_from_slice_get}
use Rattle.op_core.proofs.PointwiseLemmas.{same_or_other}
use Rattle.schedules.specs.Run.{TurnSystem, AreThose}
use Rattle.schedules.specs.Laws.{AreThoseBelow, ThreadsAreListed}

-- the elements of a list that begins with x
pub head_there : (x : ℕ) (xs : List ℕ) → Contains (x ∷ xs) x
head_there x xs = (0, omega arith, refl)

pub tail_there : (x t : ℕ) (xs : List ℕ) → Contains xs t → Contains (x ∷ xs) t
tail_there x t xs there = Contains-append_right (x ∷ []) xs t there

pub only_there : (x t : ℕ) → Contains (x ∷ []) t → x ≡ t
only_there x t (zero, within, is) = is
only_there x t (suc k, within, is) = absurd (omega (arith, within))

pub none_there : (t : ℕ) → Contains [] t → ⊥
none_there t (k, within, is) = omega (arith, within)

pub head_or_tail : (x t : ℕ) (xs : List ℕ) → Contains (x ∷ xs) t → (x ≡ t) ⊎ Contains xs t
head_or_tail x t xs there = elim (Contains-append_cases (x ∷ []) xs t there) [
  | inl one ↦ inl (only_there x t one)
  | inr other ↦ inr other
]

-- lists whose numbers rise
abbrev pub Rises : List ℕ → Type 0
Rises xs = AllPairs (λ x y. x < y) xs

pub Rises-head : (x t : ℕ) (xs : List ℕ) → Rises (x ∷ xs) → Contains xs t → x < t
Rises-head x t xs rises (k, within, is) = subst (λ y. x < y) is (rises 0 (suc k) t (omega arith) (omega (arith, within)))

pub Rises-tail : (x : ℕ) (xs : List ℕ) → Rises (x ∷ xs) → Rises xs
Rises-tail x xs rises i j d below within = rises (suc i) (suc j) d (omega (arith, below)) (omega (arith, within))

increasing_from : (xs : List ℕ) → Rises xs → IsStrictlyIncreasing xs
increasing_from xs rises k within = rises k (k + 1) 0 (omega arith) within

-- the fact's threads, one number after another
module _ (fact : ℕ → Type 0) where
  none_listed : AreThoseBelow fact 0 []
  none_listed = record {
    rising = λ k within. absurd (omega (arith, within));
    each = λ t. (λ there. absurd (none_there t there), λ (holds, below). absurd (omega (arith, below)));
  }

  one_more_listed : (n : ℕ) (ts : List ℕ) → AreThoseBelow fact n ts → fact n → AreThoseBelow fact (n + 1) (ts ++ n ∷ [])
  one_more_listed n ts those holds = record {
    rising = increasing_from (ts ++ n ∷ []) (all_pairs_push (λ x y. x < y) ts n (AllPairs-from_increasing ts those.rising)
        (λ k d within. ((those.each (get_or ts k d)).0 (k, within, get_or_from_slice_get ts k (get_or ts k d) (get_or ts k d) (slice_get-get_or ts k d within))).1));
    each = λ t. (
      λ there. elim (Contains-append_cases ts (n ∷ []) t there) [
        | inl before ↦ let h = (those.each t).0 before in (h.0, omega (arith, h.1))
        | inr last ↦ let same : n ≡ t = only_there n t last in (subst fact same holds, omega (arith, same))
      ],
      λ (does, below). elim (same_or_other n t) [
        | inl same ↦ Contains-append_right ts (n ∷ []) t (subst (Contains (n ∷ [])) same (head_there n []))
        | inr other ↦ Contains-append_left ts (n ∷ []) t ((those.each t).1 (does, omega (arith, below, other)))
      ],
    );
  }

  no_more_listed : (n : ℕ) (ts : List ℕ) → AreThoseBelow fact n ts → (fact n → ⊥) → AreThoseBelow fact (n + 1) ts
  no_more_listed n ts those never = record {
    rising = those.rising;
    each = λ t. (
      λ there. let h = (those.each t).0 there in (h.0, omega (arith, h.1)),
      λ (does, below). elim (same_or_other n t) [
        | inl same ↦ absurd (never (subst fact (sym same) does))
        | inr other ↦ (those.each t).1 (does, omega (arith, below, other))
      ],
    );
  }

  all_listed : (n : ℕ) (ts : List ℕ) → AreThoseBelow fact n ts → ((t : ℕ) → fact t → t < n) → AreThose fact ts
  all_listed n ts those within = record {
    rising = those.rising;
    each = λ t. (λ there. ((those.each t).0 there).0, λ does. (those.each t).1 (does, within t does));
  }

pub threads_listed : (R : Type 0) (system : TurnSystem R) → ThreadsAreListed system
threads_listed R system = record {
  none = λ r. none_listed (system.enabled r);
  one_more = λ r. one_more_listed (system.enabled r);
  no_more = λ r. no_more_listed (system.enabled r);
  all = λ r. all_listed (system.enabled r);
}
