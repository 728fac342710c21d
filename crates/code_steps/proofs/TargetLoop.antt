-- Targets one after the other, as a loop finds them.
use Rattle.std.proofs.Common.{◌≡◌, ◌==◌, ℕ, ◌+◌, ◌<◌, ◌≤◌, ◌^◌, Bool, true, false, List, [], ◌∷◌, ◌++◌, length, get_or, drop, Option, Some, None, Result, Ok, Err, refl, sym, ap, ◌∙◌, append_assoc, arith, eqb}
use Rattle.std.specs.Prelude.{ℤ, pos, negsuc, option_map, All, unsigned_abs}
use Rattle.std.specs.List.{position_from}
use Rattle.std.specs.Int.{FitsUnsignedBits}
use Rattle.std.proofs.lemmas.Bool.{eqb-true}
use Rattle.std.proofs.lemmas.List.{append-nil, drop_all, drop_more}
use Rattle.std.proofs.lemmas.List.Elements.{All-head, All-tail}
use Rattle.instructions.specs.declared.what.Instr.{Instr}
use Rattle.instructions.specs.declared.what.Target.{Target}
use Rattle.code_steps.specs.declared.fault.StepFault.{StepFault}
use Rattle.code_steps.specs.declared.fault.StepRefusal.{StepRefusal}
use Rattle.code_steps.specs.declared.fault.StepRefusal.TheVariants as refusals
use Rattle.class_walk.specs.Reading.{◌>>=◌}
use Rattle.code_steps.specs.Reading.{Fails}
use Rattle.code_steps.specs.Targets.{target_of, all_of, step_of, steps_of}

-- ---- a list of options

abbrev pub with_found : {B : Type 0} → List B → Option (List B) → Option (List B)
with_found front rest = option_map (λ ys. front ++ ys) rest

regroup : {B : Type 0} (front : List B) (y : B) (rest : Option (List B)) → with_found front (option_map (λ ys. y ∷ ys) rest) ≡ with_found (front ++ y ∷ []) rest
regroup {B = B} front y None = refl
regroup {B = B} front y (Some ys) = ap (λ (zs : List B). Some zs) (simp append_assoc)

pub all_none : {A B : Type 0} (f : A → Option B) (xs : List A) → with_found [] (all_of f (drop 0 xs)) ≡ all_of f xs
all_none f xs = same (all_of f xs)
  where
    same : {B : Type 0} (o : Option (List B)) → with_found [] o ≡ o
    same None = refl
    same (Some ys) = refl

pub all_more : {A B : Type 0} (f : A → Option B) (xs : List A) (front : List B) (i : ℕ) (d : A) (y : B) → i < length xs → Some y ≡ f (get_or xs i d)
    → with_found front (all_of f (drop i xs)) ≡ all_of f xs → with_found (front ++ y ∷ []) (all_of f (drop (i + 1) xs)) ≡ all_of f xs
unfolding all_of
all_more f xs front i d y lt gives so_far =
    let one : drop i xs ≡ get_or xs i d ∷ drop (i + 1) xs = drop_more xs i d lt in
    let step : with_found front (all_of f (drop i xs)) ≡ with_found (front ++ y ∷ []) (all_of f (drop (i + 1) xs)) = rw (one, ← gives) (regroup front y (all_of f (drop (i + 1) xs))) in
    sym step ∙ so_far

pub all_end : {A B : Type 0} (f : A → Option B) (xs : List A) (front : List B) (i : ℕ) (d : A) → i < length xs → None ≡ f (get_or xs i d)
    → with_found front (all_of f (drop i xs)) ≡ all_of f xs → None ≡ all_of f xs
unfolding all_of
all_end f xs front i d lt gives so_far =
    let one : drop i xs ≡ get_or xs i d ∷ drop (i + 1) xs = drop_more xs i d lt in
    let step : with_found front (all_of f (drop i xs)) ≡ None = rw (one, ← gives) refl in
    sym step ∙ so_far

pub all_done : {A B : Type 0} (f : A → Option B) (xs : List A) (front : List B) (i : ℕ) → length xs ≤ i
    → with_found front (all_of f (drop i xs)) ≡ all_of f xs → Some front ≡ all_of f xs
unfolding all_of
all_done {B = B} f xs front i le so_far =
    let none : drop i xs ≡ [] = drop_all i xs le in
    let step : with_found front (all_of f (drop i xs)) ≡ Some front = rw none (ap (λ (zs : List B). Some zs) (append-nil front)) in
    sym step ∙ so_far

-- ---- instructions

abbrev pub with_steps : List (Instr Target) → Result (List (Instr Target)) StepFault → Result (List (Instr Target)) StepFault
with_steps front rest = rest >>= λ ys. Ok (front ++ ys)

regroup_steps : (front : List (Instr Target)) (y : Instr Target) (rest : Result (List (Instr Target)) StepFault) → with_steps front (rest >>= λ ys. Ok (y ∷ ys)) ≡ with_steps (front ++ y ∷ []) rest
regroup_steps front y (Err f) = refl
regroup_steps front y (Ok ys) = ap (λ (zs : List (Instr Target)). Ok zs) (simp append_assoc)

pub steps_none : (offsets : List ℕ) (xs : List (Instr ℤ)) → with_steps [] (steps_of offsets (drop 0 xs)) ≡ steps_of offsets xs
steps_none offsets xs = same (steps_of offsets xs)
  where
    same : (r : Result (List (Instr Target)) StepFault) → with_steps [] r ≡ r
    same (Err f) = refl
    same (Ok ys) = refl

pub steps_more : (offsets : List ℕ) (xs : List (Instr ℤ)) (front : List (Instr Target)) (i : ℕ) (x : Instr ℤ) (y : Instr Target) → i < length xs → x ≡ get_or xs i x → step_of offsets x ≡ Ok y
    → with_steps front (steps_of offsets (drop i xs)) ≡ steps_of offsets xs → with_steps (front ++ y ∷ []) (steps_of offsets (drop (i + 1) xs)) ≡ steps_of offsets xs
unfolding steps_of
steps_more offsets xs front i x y lt is gives so_far =
    let one : drop i xs ≡ x ∷ drop (i + 1) xs = drop_more xs i x lt ∙ ap (λ (z : Instr ℤ). z ∷ drop (i + 1) xs) (sym is) in
    let step : with_steps front (steps_of offsets (drop i xs)) ≡ with_steps (front ++ y ∷ []) (steps_of offsets (drop (i + 1) xs)) = rw (one, gives) (regroup_steps front y (steps_of offsets (drop (i + 1) xs))) in
    sym step ∙ so_far

pub steps_end : (e : StepRefusal) (offsets : List ℕ) (xs : List (Instr ℤ)) (front : List (Instr Target)) (i : ℕ) (x : Instr ℤ) → i < length xs → x ≡ get_or xs i x → Fails e (step_of offsets x)
    → with_steps front (steps_of offsets (drop i xs)) ≡ steps_of offsets xs → Fails e (steps_of offsets xs)
unfolding steps_of
steps_end refusals.NoMemory offsets xs front i x lt is fails so_far = tt
steps_end (refusals.Fault f) offsets xs front i x lt is fails so_far =
    let one : drop i xs ≡ x ∷ drop (i + 1) xs = drop_more xs i x lt ∙ ap (λ (z : Instr ℤ). z ∷ drop (i + 1) xs) (sym is) in
    let step : with_steps front (steps_of offsets (drop i xs)) ≡ Err f = rw (one, fails) refl in
    sym so_far ∙ step

pub steps_done : (offsets : List ℕ) (xs : List (Instr ℤ)) (front : List (Instr Target)) (i : ℕ) → length xs ≤ i
    → with_steps front (steps_of offsets (drop i xs)) ≡ steps_of offsets xs → steps_of offsets xs ≡ Ok front
unfolding steps_of
steps_done offsets xs front i le so_far =
    let none : drop i xs ≡ [] = drop_all i xs le in
    let step : with_steps front (steps_of offsets (drop i xs)) ≡ Ok front = rw none (ap (λ (zs : List (Instr Target)). Ok zs) (append-nil front)) in
    sym so_far ∙ step

-- ---- one target

far_position : (offsets : List ℕ) (n k : ℕ) → All (λ o. o < 2 ^ 32) offsets → 2 ^ 32 ≤ n → position_from (λ o. o == n) k offsets ≡ None
far_position [] n k small far = refl
far_position (o ∷ offsets) n k small far =
    let head : o < 4294967296 = All-head (λ o. o < 2 ^ 32) o offsets small in
    let other : eqb o n ≡ false = differs (eqb o n) refl in
    rw other (far_position offsets n (k + 1) (All-tail (λ o. o < 2 ^ 32) o offsets small) far)
  where
    differs : (b : Bool) → eqb o n ≡ b → eqb o n ≡ false
    differs true e = let same : o ≡ n = eqb-true o n e in let head : o < 4294967296 = All-head (λ o. o < 2 ^ 32) o offsets small in absurd (omega arith)
    differs false e = e

pub target_past : (offsets : List ℕ) (z : ℤ) → All (λ o. o < 2 ^ 32) offsets → ¬ FitsUnsignedBits 32 z → target_of offsets z ≡ None
target_past offsets (negsuc n) small far = refl
target_past offsets (pos n) small far = rw (far_position offsets n 0 small (omega (arith, far))) refl

pub target_found : (offsets : List ℕ) (z : ℤ) (at step : ℕ) → FitsUnsignedBits 32 z → at ≡ unsigned_abs z → Some step ≡ position_from (λ o. o == at) 0 offsets → Some (record { at = at; step = step }) ≡ target_of offsets z
target_found offsets (negsuc n) at step fits is found = absurd fits
target_found offsets (pos n) at step fits is found =
    let there : Some step ≡ position_from (λ o. o == n) 0 offsets = rw is at found in
    ap (λ (k : ℕ). Some (record { at = k; step = step })) is ∙ ap (λ (o : Option ℕ). option_map (λ s. record { at = n; step = s }) o) there
