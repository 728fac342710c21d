-- What functions answer by the rules of the type checker.
use Rattle.std.specs.Prelude.{◌≡◌, ◌⊎◌, Result, Ok, Err}
use Rattle.rules.specs.Rules.{Rules}
use Rattle.type_rules.specs.declared.refusal.VerifyRefusal.{VerifyRefusal}
use Rattle.type_rules.specs.declared.refusal.VerifyRefusal.TheVariants.{NoMemory}

-- what the rules refuse; memory may run out anywhere
abbrev pub Refuses : VerifyRefusal → Rules VerifyRefusal → Type 0
Refuses e rules = (e ≡ NoMemory) ⊎ rules.Refuse e

-- a function ends well only where the rules hold, and else refuses what they refuse
abbrev pub Gives : {X : Type 0} → Result X VerifyRefusal → Rules VerifyRefusal → Type 0
Gives (Ok x) rules = rules.Hold
Gives (Err e) rules = Refuses e rules

-- this refusal, unless memory ran out
abbrev pub IsRefused : {X : Type 0} → Result X VerifyRefusal → VerifyRefusal → Type 0
IsRefused (Ok x) refusal = ⊥
IsRefused (Err e) refusal = (e ≡ NoMemory) ⊎ (e ≡ refusal)
