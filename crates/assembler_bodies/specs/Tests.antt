-- Tests of facts, each with the fact that it decides: so a fact is stated once, where it belongs, and is tested where
-- something is made by it.
use Rattle.std.specs.Prelude.{◌<◌, ◌^◌, ℕ, ℤ, pos, negsuc, Bool, true, ◌&&◌, nat_lt, List, [], ◌∷◌, FitsSigned, Decides}
use Rattle.std.specs.Int.{Width}
use Rattle.std.specs.List.{All, AllByRecursion}
use Rattle.std.proofs.lemmas.List.Elements.{All-from_recursion, recursion_from_All}
use Rattle.std.proofs.lemmas.Bool.Decides.{Decides-and, Decides-like, Decides-ltb}
use mathlib.Core.Path.{refl}
use mir.Val.{hbits}

-- whether a fact holds
pub record Test (P : Type 0) : Type 0 where
  pub holds : Bool
  pub tells : Decides holds P

-- a fact that is known
abbrev pub known : {P : Type 0} → P → Test P
known p = record { holds = true; tells = (λ _. p, λ _. refl) }

-- the same fact in other words
abbrev pub like : {P Q : Type 0} → (P → Q) → (Q → P) → Test P → Test Q
like to from p = record { holds = p.holds; tells = Decides-like p.holds to from p.tells }

abbrev pub both : {P Q : Type 0} → Test P → Test Q → Test (P × Q)
both p q = record { holds = p.holds && q.holds; tells = Decides-and p.holds q.holds p.tells q.tells }

abbrev pub less : (a b : ℕ) → Test (a < b)
less a b = record { holds = nat_lt a b; tells = Decides-ltb a b }

-- a number fits in w bits with its sign
abbrev pub fits_signed : (w : Width) (n : ℤ) → Test (FitsSigned w n)
fits_signed w (pos n) = like (λ h. record { sfits = h }) (λ h. h.sfits) (less n (2 ^ hbits w))
fits_signed w (negsuc n) = like (λ h. record { sfits = h }) (λ h. h.sfits) (less n (2 ^ hbits w))

-- a fact of each item
abbrev pub each_of : {X : Type 0} (P : X → Type 0) → ((x : X) → Test (P x)) → (xs : List X) → Test (AllByRecursion P xs)
each_of P test [] = known tt
each_of P test (x ∷ xs) = both (test x) (each_of P test xs)

abbrev pub every : {X : Type 0} (P : X → Type 0) → ((x : X) → Test (P x)) → (xs : List X) → Test (All P xs)
every P test xs = like (All-from_recursion P xs) (recursion_from_All P xs) (each_of P test xs)
