-- A sink that was given nothing more.
use Rattle.std.proofs.Common.{◌≡◌, ℕ, List, [], ◌∷◌, ◌++◌, Option, Some, None, option_map, Result, Ok, Err, refl, sym, ◌∙◌, ap, append-nil, append_assoc}
use Rattle.std.specs.Result.{OnErr}
use Rattle.jr_ports.specs.Stream.{Gains, GainsPart}

pub OnErr-any : {T E : Type 0} (r : Result T E) (P : Type 0) → P → OnErr r P
OnErr-any (Ok x) P p = tt
OnErr-any (Err e) P p = p

pub GainsPart-none : (before after : List (List ℕ)) (piece : List ℕ) → after ≡ before → GainsPart (Some before) (Some after) (piece ∷ [])
GainsPart-none before after piece same =
    ([], tt, ap (λ (l : List (List ℕ)). let o : Option (List (List ℕ)) = Some l in o) (same ∙ sym (append-nil before)))

pub Gains-none : {A : Type 0} (a : Option (List A)) → Gains a a []
Gains-none None = refl
Gains-none {A} (Some told) = ap (λ (l : List A). let o : Option (List A) = Some l in o) (sym (append-nil told))

pub Gains-then : {A : Type 0} (a b c : Option (List A)) (x y : List A) → Gains a b x → Gains b c y → Gains a c (x ++ y)
Gains-then None b c x y first second = second ∙ ap (option_map (λ told. told ++ y)) first
Gains-then {A} (Some told) b c x y first second =
    second ∙ ap (option_map (λ t. t ++ y)) first ∙ ap (λ (l : List A). let o : Option (List A) = Some l in o) (append_assoc told x y)
