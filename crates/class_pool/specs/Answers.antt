-- What functions answer by rules in order.
use Rattle.std.specs.Prelude.{◌≡◌, ◌⊎◌, Result, Ok, Err}
use Rattle.rules.specs.Rules.{Rules}
use Rattle.class_pool.specs.declared.refusal.ReadRefusal.{ReadRefusal}
use Rattle.class_pool.specs.declared.refusal.ReadRefusal.TheVariants.{NoMemory}

-- What a function refuses is what the rules refuse; memory may run out anywhere.
abbrev pub Refuses : ReadRefusal → Rules ReadRefusal → Type 0
Refuses e rules = (e ≡ NoMemory) ⊎ rules.Refuse e

-- A function ends well only where the rules hold, and else refuses what they refuse.
abbrev pub Keeps : {X : Type 0} → Result X ReadRefusal → Rules ReadRefusal → Type 0
Keeps (Ok x) rules = rules.Hold
Keeps (Err e) rules = Refuses e rules

-- The same, and what it gives then.
abbrev pub Gives : {X : Type 0} → Result X ReadRefusal → Rules ReadRefusal → (X → Type 0) → Type 0
Gives (Ok x) rules Is = rules.Hold × Is x
Gives (Err e) rules Is = Refuses e rules

-- Both of a function that takes no memory: it refuses nothing but what the rules refuse.
abbrev pub KeepsExactly : {X : Type 0} → Result X ReadRefusal → Rules ReadRefusal → Type 0
KeepsExactly (Ok x) rules = rules.Hold
KeepsExactly (Err e) rules = rules.Refuse e

abbrev pub GivesExactly : {X : Type 0} → Result X ReadRefusal → Rules ReadRefusal → (X → Type 0) → Type 0
GivesExactly (Ok x) rules Is = rules.Hold × Is x
GivesExactly (Err e) rules Is = rules.Refuse e
