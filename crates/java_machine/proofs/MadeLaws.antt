-- Texts that are kept by the reference of their array.
use Rattle.std.proofs.Common.{◌≡◌, ℕ, Option, List, []}
use Rattle.std.specs.Option.{option_map_or}
use Rattle.op_core.specs.declared.MadeText.{MadeText}
use Rattle.text_units.specs.Units.{text_of_units}
use Rattle.java_machine.specs.Made.{units_in}

-- what is found at each reference is the text of these
abbrev pub AreFound : List MadeText → (ℕ → Option (List ℕ)) → Type 0
AreFound made found = (at : ℕ) → option_map_or (λ bytes. bytes) (found at) [] ≡ text_of_units (units_in made at)
