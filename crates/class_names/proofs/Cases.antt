-- What a choice, an option, a pair and a list say of their parts.
use Rattle.std.proofs.Common.{◌≡◌, Bool, true, false, cond, Option, Some, None, option_map, ◌⊎◌, inl, inr, refl, ap, sym, ◌∙◌, ◌≢◌, List, [], ◌∷◌, ◌++◌, length, eqb, arith}
use Rattle.std.specs.List.{AllByRecursion}
use Rattle.std.specs.Option.{option_and_then}
use Rattle.std.proofs.lemmas.Bool.{eqb-true}
use Rattle.std.proofs.lemmas.Option.{same_Some}

pub chosen : {A : Type 0} (b : Bool) (x y z : A) → cond b x y ≡ z → ((b ≡ true) × (x ≡ z)) ⊎ ((b ≡ false) × (y ≡ z))
chosen true x y z e = inl (refl, e)
chosen false x y z e = inr (refl, e)

pub mapped : {A B : Type 0} (f : A → B) (o : Option A) (y : B) → option_map f o ≡ Some y → (x : A) × (o ≡ Some x) × (f x ≡ y)
mapped f None y e = absurd cc
mapped f (Some x) y e = (x, refl, same_Some (f x) y e)

pub went_on : {A B : Type 0} (f : A → Option B) (o : Option A) (y : B) → option_and_then f o ≡ Some y → (x : A) × (o ≡ Some x) × (f x ≡ Some y)
went_on f None y e = absurd cc
went_on f (Some x) y e = (x, refl, e)

pub first_same : {A B : Type 0} (x y : A × B) → Some x ≡ Some y → x.0 ≡ y.0
first_same {A} {B} x y e = ap (λ (p : A × B). p.0) (same_Some x y e)

pub second_same : {A B : Type 0} (x y : A × B) → Some x ≡ Some y → x.1 ≡ y.1
second_same {A} {B} x y e = ap (λ (p : A × B). p.1) (same_Some x y e)

pub empty_is : {A : Type 0} (xs : List A) (b : Bool) → b ≡ eqb (length xs) 0 → b ≡ true → xs ≡ []
empty_is [] b e t = refl
empty_is (x ∷ xs) b e t = absurd (let h : length (x ∷ xs) ≡ 0 = eqb-true _ _ (sym e ∙ t) in omega arith)

pub full_is : {A : Type 0} (xs : List A) (b : Bool) → b ≡ eqb (length xs) 0 → b ≡ false → xs ≢ []
full_is [] b e f = λ _. cc
full_is (x ∷ xs) b e f = λ h. cc

-- what holds of each item, and of one more
pub all_pushed : {A : Type 0} (P : A → Type 0) (xs : List A) (x : A) → AllByRecursion P xs → P x → AllByRecursion P (xs ++ x ∷ [])
all_pushed P [] x all here = (here, tt)
all_pushed P (y ∷ ys) x all here = (all.0, all_pushed P ys x all.1 here)
