-- Sources and sinks: the pieces that a sink was given, and what was taken of a source.
use Rattle.std.specs.Prelude.{◌≡◌, ℕ, ◌⊎◌, List, [], ◌∷◌, ◌++◌, Option, option_map, map, take, length}

-- part is how the list begins, and not all of it
abbrev pub IsProperPrefix : List ℕ → List ℕ → Type 0
IsProperPrefix part whole = (next : ℕ) × (rest : List ℕ) × (whole ≡ part ++ next ∷ rest)

-- Of the pieces of a whole the first were given, and of the next one nothing or a proper part: not all were.
abbrev pub IsBegun : List (List ℕ) → List (List ℕ) → Type 0
IsBegun begun [] = ⊥
IsBegun [] (first ∷ whole) = Unit {0}
IsBegun (piece ∷ begun) (first ∷ whole) = ((piece ≡ first) × IsBegun begun whole) ⊎ ((begun ≡ []) × IsProperPrefix piece first)

-- The list that was known before, where one was known, has these additional items at its end.
abbrev pub Gains : {A : Type 0} → Option (List A) → Option (List A) → List A → Type 0
Gains before after more = after ≡ option_map (λ told. told ++ more) before

-- a sink was given the first of these pieces and perhaps a proper part of the next one, but not all
abbrev pub GainsPart : Option (List (List ℕ)) → Option (List (List ℕ)) → List (List ℕ) → Type 0
GainsPart before after pieces = (begun : List (List ℕ)) × IsBegun begun pieces × Gains before after begun

-- a call of a source: how many bytes it asked for, and how many came
pub record Taken : Type 0 where
  pub asked : ℕ
  pub came : ℕ

-- what was asked for and what came, call by call
abbrev pub takes_of : List (ℕ × ℕ) → List Taken
takes_of calls = map (λ c. record { asked = c.0; came = c.1 }) calls

-- the piece is how what is left of a source begins, and there is none only at the end
pub record IsNext (left piece : List ℕ) : Type 0 where
  pub begins : piece ≡ take (length piece) left
  pub ends : piece ≡ [] → left ≡ []
