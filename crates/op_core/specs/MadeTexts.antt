-- The texts of printed lines that a program made, as a state has them.
use Rattle.std.specs.Prelude.{◌≡◌, ◌↔◌, ◌%◌, ◌^◌, ℕ, List, map, All, Contains}
use Rattle.std.specs.List.{range_with_len}
use Rattle.std.specs.List.Sorted.{IsStrictlyIncreasing}
use Rattle.std.specs.Option.{option_map_or}
use Rattle.op_core.specs.declared.Line.{Line}
use Rattle.op_core.specs.declared.Line.TheVariants.{Made}
use Rattle.op_core.specs.declared.MadeText.{MadeText}
use Rattle.op_core.specs.OrdinaryState.{OrdinaryState, IsThere}

-- the UTF-16 code units that an array of chars has (JVMS 2.3.1): the low 16 bits of each of its words; none where no object is
abbrev pub units_at : {S : Type 0} → OrdinaryState S → ℕ → List ℕ
units_at s r = map (λ i. s.words r i % 2 ^ 16) (range_with_len 0 (option_map_or (λ o. o.words) (s.objects r) 0))

-- the references of these texts
abbrev pub references_of : List MadeText → List ℕ
references_of made = map (λ text. text.at) made

-- The texts of the lines that name arrays which are there: each array once, by rising reference, with its units.
pub record AreMadeTexts {S : Type 0} (s : OrdinaryState S) (lines : List Line) (made : List MadeText) : Type 0 where
  pub rising : IsStrictlyIncreasing (references_of made)
  pub each : (r : ℕ) → Contains (references_of made) r ↔ (Contains lines (Made r) × IsThere s.objects r)
  pub units : All (λ text. text.units ≡ units_at s text.at) made
