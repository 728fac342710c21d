-- What is answered where rules are decided.
use Rattle.std.proofs.Common.{◌≡◌, ◌⊎◌, IfOk, IfErr, Result, Ok, Err}
use Rattle.rules.specs.Rules.{Rules}
use Rattle.program_accept.specs.declared.refusal.AcceptRefusal.{AcceptRefusal}
use Rattle.program_accept.specs.declared.refusal.AcceptRefusal.TheVariants.{NoMemory}
use Rattle.program_accept.specs.Answers.{Decides, IsRefused}

module _ {X : Type 0} (rules : Rules AcceptRefusal) (Is : X → Type 0) where
  pub is_accepted : (r : Result X AcceptRefusal) → Decides r rules Is → IfOk r Is
  is_accepted (Ok x) passes = passes.is
  is_accepted (Err e) fails = tt

  pub is_only : (r : Result X AcceptRefusal) → Decides r rules Is → rules.Hold → IfErr r (λ e. e ≡ NoMemory)
  is_only (Ok x) passes holds = tt
  is_only (Err e) fails holds = fails.broken holds

  pub is_exact : (r : Result X AcceptRefusal) → Decides r rules Is → IfErr r (λ e. (e ≡ NoMemory) ⊎ rules.Refuse e)
  is_exact (Ok x) passes = tt
  is_exact (Err e) fails = fails.refused

  pub is_first : (r : Result X AcceptRefusal) → Decides r rules Is → (e : AcceptRefusal) → rules.Refuse e → IsRefused r e
  is_first (Ok x) passes e broken = passes.none e broken
  is_first (Err d) fails e broken = fails.only e broken
