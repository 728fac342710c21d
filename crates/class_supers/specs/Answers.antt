-- What functions answer by the rules of linking.
use Rattle.std.specs.Prelude.{◌≡◌, ◌⊎◌, Result, Ok, Err}
use Rattle.rules.specs.Rules.{Rules}
use Rattle.link_types.specs.declared.refusal.LinkRefusal.{LinkRefusal}
use Rattle.link_types.specs.declared.refusal.LinkRefusal.TheVariants.{NoMemory}

-- what the rules refuse; memory may run out anywhere
abbrev pub Refuses : LinkRefusal → Rules LinkRefusal → Type 0
Refuses e rules = (e ≡ NoMemory) ⊎ rules.Refuse e

-- A function ends well only where the rules hold, and gives this then; else it refuses what they refuse.
abbrev pub Gives : {X : Type 0} → Result X LinkRefusal → Rules LinkRefusal → (X → Type 0) → Type 0
Gives (Ok x) rules Is = rules.Hold × Is x
Gives (Err e) rules Is = Refuses e rules

-- the same of a function that takes no memory and gives nothing
abbrev pub KeepsExactly : {X : Type 0} → Result X LinkRefusal → Rules LinkRefusal → Type 0
KeepsExactly (Ok x) rules = rules.Hold
KeepsExactly (Err e) rules = rules.Refuse e

-- this refusal, unless memory ran out
abbrev pub IsRefused : {X : Type 0} → Result X LinkRefusal → LinkRefusal → Type 0
IsRefused (Ok x) refusal = ⊥
IsRefused (Err e) refusal = (e ≡ NoMemory) ⊎ (e ≡ refusal)
