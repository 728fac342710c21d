-- What a reader answers: the one value that is right, or the one refusal, unless memory ran out.
use Rattle.std.specs.Prelude.{◌≡◌, ◌⊎◌, Result, Ok, Err}
use Rattle.code_decode.specs.declared.refusal.CodeRefusal.{CodeRefusal}
use Rattle.code_decode.specs.declared.refusal.CodeRefusal.TheVariants.{NoMemory}

-- the value is right, no other one is, and nothing is refused
pub record IsOnly {X : Type 0} (Is : X → Type 0) (Refuses : CodeRefusal → Type 0) (x : X) : Type 0 where
  pub right : Is x
  pub only : (y : X) → Is y → x ≡ y
  pub accepted : (e : CodeRefusal) → ¬ Refuses e

-- the refusal is right, no other one is, and no value is
pub record IsRefusal {X : Type 0} (Is : X → Type 0) (Refuses : CodeRefusal → Type 0) (e : CodeRefusal) : Type 0 where
  pub right : Refuses e
  pub only : (other : CodeRefusal) → Refuses other → e ≡ other
  pub none : (x : X) → ¬ Is x

abbrev pub IsAnswer : {X : Type 0} → Result X CodeRefusal → (X → Type 0) → (CodeRefusal → Type 0) → Type 0
IsAnswer (Ok x) Is Refuses = IsOnly Is Refuses x
IsAnswer (Err e) Is Refuses = (e ≡ NoMemory) ⊎ IsRefusal Is Refuses e

-- this value, unless memory ran out
abbrev pub IsRead : {X : Type 0} → Result X CodeRefusal → X → Type 0
IsRead (Ok found) x = found ≡ x
IsRead (Err e) x = e ≡ NoMemory

-- this refusal, unless memory ran out
abbrev pub IsRefused : {X : Type 0} → Result X CodeRefusal → CodeRefusal → Type 0
IsRefused (Ok found) refusal = ⊥
IsRefused (Err e) refusal = (e ≡ NoMemory) ⊎ (e ≡ refusal)
