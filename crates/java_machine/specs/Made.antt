-- Texts that a program made, by the reference of their array.
use Rattle.std.specs.Prelude.{◌≡◌, ◌==◌, ℕ, List, [], fold, nat_eq, if◌then◌else◌}
use Rattle.std.specs.HashMap.{get}
use Rattle.std.specs.Option.{option_map_or}
use Rattle.op_core.specs.declared.MadeText.{MadeText}
use Rattle.text_units.specs.Units.{text_of_units}
use Rattle.java_machine.specs.declared.made.MadeLines.{MadeLines}

-- the UTF-16 code units of the array at a reference, none where it is not among the texts
abbrev pub units_in : List MadeText → ℕ → List ℕ
units_in made at = fold (λ units text. if text.at == at then text.units else units) [] made

-- the bytes that are kept for a reference
abbrev pub kept_at : MadeLines → ℕ → List ℕ
kept_at lines at = option_map_or (λ bytes. bytes) (get nat_eq lines.table at) []

-- these are kept: of each array its text
abbrev pub AreKept : List MadeText → MadeLines → Type 0
AreKept made lines = (at : ℕ) → kept_at lines at ≡ text_of_units (units_in made at)
