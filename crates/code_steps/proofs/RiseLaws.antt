-- Keys that rise, by places.
use Rattle.std.proofs.Common.{◌≡◌, ℕ, zero, suc, ◌<◌, Bool, true, false, List, [], ◌∷◌, length, get_or, refl, arith, add-one}
use Rattle.std.specs.Prelude.{ℤ, ◌&&◌}
use Rattle.std.specs.List.{IsAllAdjacentAnswer}
use Rattle.instructions.specs.declared.what.Case.{Case}
use Rattle.code_steps.specs.Reading.{is_below, rise}

all_rise : (cases : List (Case ℤ)) → ((k : ℕ) (d : Case ℤ) → suc k < length cases → true ≡ is_below (get_or cases k d) (get_or cases (suc k) d)) → true ≡ rise cases
unfolding rise
all_rise [] h = refl
all_rise (a ∷ []) h = refl
all_rise (a ∷ b ∷ cases) h =
    let first : true ≡ is_below a b = h 0 a (omega arith) in
    let others : true ≡ rise (b ∷ cases) = all_rise (b ∷ cases) (λ k d lt. h (suc k) d (omega arith)) in
    rw (← first, ← others) refl

some_falls : (cases : List (Case ℤ)) (k : ℕ) → suc k < length cases → ((d : Case ℤ) → false ≡ is_below (get_or cases k d) (get_or cases (suc k) d)) → false ≡ rise cases
unfolding rise
some_falls [] k lt h = absurd (omega arith)
some_falls (a ∷ []) k lt h = absurd (omega arith)
some_falls (a ∷ b ∷ cases) zero lt h = rw (← h a) refl
some_falls (a ∷ b ∷ cases) (suc k) lt h =
    let others : false ≡ rise (b ∷ cases) = some_falls (b ∷ cases) k (omega arith) h in
    rw (← others) (at (is_below a b))
  where
    at : (b : Bool) → false ≡ (b && false)
    at true = refl
    at false = refl

pub rise_is : (cases : List (Case ℤ)) (r : Bool) → IsAllAdjacentAnswer (λ x y b. b ≡ is_below x y) cases r → r ≡ rise cases
rise_is cases true h = all_rise cases (λ k d lt. rw add-one at (h k d (omega arith)))
rise_is cases false h = some_falls cases h.0 (omega (arith, h.1)) (λ d. rw add-one at (h.2 d))
