-- Numbers of frames by the numbers of their instructions.
use Rattle.std.proofs.Common.{◌≡◌, ◌≢◌, ◌+◌, ℕ, cond, nat_eq, List, [], ◌∷◌, map, Some, refl, ap}
use Rattle.std.specs.List.{All, AllByRecursion, position_from}
use Rattle.std.proofs.lemmas.List.Elements.{All-nil, All-cons}
use Rattle.code_frames.specs.declared.types.MapFrame.{MapFrame}

-- a frame is found among the numbers of the instructions as among the frames
pub position_from-steps : (fs : List MapFrame) (step n : ℕ) → position_from (λ k. nat_eq k step) n (map (λ f. f.step) fs) ≡ position_from (λ f. nat_eq f.step step) n fs
position_from-steps [] step n = refl
position_from-steps (f ∷ fs) step n = ap (λ o. cond (nat_eq f.step step) (Some n) o) (position_from-steps fs step (n + 1))

pub steps_apart : (fs : List MapFrame) (step : ℕ) → AllByRecursion (λ f. f.step ≢ step) fs → All (λ k. k ≢ step) (map (λ f. f.step) fs)
steps_apart [] step apart = All-nil (λ k. k ≢ step)
steps_apart (f ∷ fs) step apart = All-cons (λ k. k ≢ step) f.step (map (λ f. f.step) fs) apart.0 (steps_apart fs step apart.1)
