-- What is given a text piece by piece.
use Rattle.std.specs.Prelude.{List, ℕ, ◌++◌}

-- What one finds after a text, where these bytes come next, the other finds where they come after the text.
abbrev pub IsFed : {F Found : Type 0} → (F → List ℕ → Found → Type 0) → F → F → List ℕ → Type 0
IsFed {F} {Found} rest old new text = (more : List ℕ) (found : Found) → rest new more found → rest old (text ++ more) found
