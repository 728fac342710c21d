-- What is answered by rules, where memory may run out.
use Rattle.std.specs.Prelude.{◌≡◌, ◌⊎◌, Result, Ok, Err}
use Rattle.rules.specs.Rules.{Rules}
use Rattle.program_accept.specs.declared.refusal.AcceptRefusal.{AcceptRefusal}
use Rattle.program_accept.specs.declared.refusal.AcceptRefusal.TheVariants.{NoMemory}

-- the rules hold, and refuse nothing
pub record Passes (rules : Rules AcceptRefusal) (Is : Type 0) : Type 0 where
  pub hold : rules.Hold
  pub is : Is
  pub none : (e : AcceptRefusal) → ¬ rules.Refuse e

-- unless memory ran out, this is what the rules refuse, they refuse nothing else, and they don't hold
pub record Fails (rules : Rules AcceptRefusal) (e : AcceptRefusal) : Type 0 where
  pub refused : (e ≡ NoMemory) ⊎ rules.Refuse e
  pub only : (other : AcceptRefusal) → rules.Refuse other → (e ≡ NoMemory) ⊎ (e ≡ other)
  pub broken : rules.Hold → e ≡ NoMemory

-- a function decides whether the rules hold, and gives this where they do
abbrev pub Decides : {X : Type 0} → Result X AcceptRefusal → Rules AcceptRefusal → (X → Type 0) → Type 0
Decides (Ok x) rules Is = Passes rules (Is x)
Decides (Err e) rules Is = Fails rules e

-- this refusal, unless memory ran out
abbrev pub IsRefused : {X : Type 0} → Result X AcceptRefusal → AcceptRefusal → Type 0
IsRefused (Ok x) refusal = ⊥
IsRefused (Err e) refusal = (e ≡ NoMemory) ⊎ (e ≡ refusal)
