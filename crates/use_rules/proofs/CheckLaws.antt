-- The rules of what look-up finds.
use mathlib.Core.Bool.{beq}
use Rattle.std.proofs.Common.{◌≡◌, Bool, true, false, not, Option, None, Some, refl}
use Rattle.std.specs.Option.{option_map}
use Rattle.std.proofs.lemmas.Option.{same_Some}

pub mapped_some : {A B : Type 0} (f : A → B) (y : B) (o : Option A) → Some y ≡ option_map f o → (d : A) × (o ≡ Some d) × (y ≡ f d)
mapped_some f y None e = absurd cc
mapped_some f y (Some d) e = (d, refl, same_Some y (f d) e)

pub same_bools : (a b : Bool) → not (beq a b) ≡ false → a ≡ b
same_bools true true e = refl
same_bools false false e = refl
same_bools true false e = absurd cc
same_bools false true e = absurd cc
