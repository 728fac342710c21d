-- A reader that is given a source piece by piece.
use Rattle.std.proofs.Common.{◌≡◌, ℕ, ◌-◌, List, [], ◌++◌, length, Option, ◌∷◌, append_assoc, refl, sym, subst, arith}
use Rattle.jr_ports.specs.Stream.{Taken}
use Rattle.program_input.specs.Feeding.{IsFed}
use Rattle.program_input.proofs.Inputs.{Reads}

-- what the loop keeps: the bytes so far, and what the reader makes of them
pub record FeedsSoFar {F Found : Type 0} (rest : F → List ℕ → Found → Type 0) (old now : F) (left left' : Option (List ℕ)) (calls calls' : Option (List Taken)) (count most faults faults' : ℕ) : Type 0 where
  pub bytes : List ℕ
  pub size : length bytes ≡ count
  pub reads : Reads left left' calls calls' bytes most faults faults'
  pub fed : IsFed rest old now bytes

pub fed_more : {F Found : Type 0} (rest : F → List ℕ → Found → Type 0) (a b c : F) (bytes piece : List ℕ) → IsFed rest a b bytes → IsFed rest b c piece → IsFed rest a c (bytes ++ piece)
fed_more rest a b c bytes piece first later more found h = subst (λ xs. rest a xs found) (sym (append_assoc bytes piece more)) (first (piece ++ more) found (later more found h))

pub none_came : (piece : List ℕ) → length piece ≡ 0 → piece ≡ []
none_came [] none = refl
none_came (b ∷ piece) none = absurd (omega (arith, none))
