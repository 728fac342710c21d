-- Modified UTF-8 in its shortest forms (JVMS SE 8, 4.4.7).
use Rattle.std.specs.Prelude.{ℕ, ◌+◌, ◌/◌, ◌%◌, nat_le, ◌&&◌, if◌then◌else◌, List, [], ◌∷◌}
use Rattle.std.specs.List.{flat_map}

-- The form of a code unit: one byte for 1 to 7F, two up to 7FF and for 0, else three.
abbrev pub form_of : ℕ → List ℕ
form_of unit =
    if nat_le 1 unit && nat_le unit 127 then unit ∷ [] else
    if nat_le unit 2047 then (192 + unit / 64) ∷ (128 + unit % 64) ∷ [] else
    (224 + unit / 4096) ∷ (128 + unit / 64 % 64) ∷ (128 + unit % 64) ∷ []

-- the forms of code units, one after the other
abbrev pub encoded : List ℕ → List ℕ
encoded units = flat_map form_of units
