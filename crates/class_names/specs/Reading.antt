-- Reading names and descriptors byte by byte.
use Rattle.std.specs.Prelude.{ℕ, Bool, true, false, List, [], ◌∷◌, drop, Option, Some, None, option_map, nat_le, ◌==◌, ◌&&◌, if◌then◌else◌}
use Rattle.std.specs.List.{prefix_len}
use Rattle.class_names.specs.Names.{is_name_byte}
use Rattle.class_names.specs.declared.kind.BaseKind.{BaseKind}
use Rattle.class_names.specs.declared.kind.BaseKind.TheVariants.{Int, Byte, Char, Short, Boolean, Long, Float, Double, Class}
use Rattle.class_names.specs.declared.kind.Kind.{Kind}
use Rattle.class_names.specs.Descriptor.{kind_of_dimensions}

-- whether the bytes go on with a class name to its end, where a part has begun or hasn't
unfoldable pub spells_class_name : Bool → List ℕ → Bool
spells_class_name begun [] = begun
spells_class_name begun (b ∷ bs) = if is_name_byte b then spells_class_name true bs else if b == 47 && begun then spells_class_name false bs else false

-- what comes before the first ; and what comes after it
unfoldable pub split_at_semicolon : List ℕ → Option (List ℕ × List ℕ)
split_at_semicolon [] = None
split_at_semicolon (b ∷ bs) = if b == 59 then Some ([], bs) else option_map (λ x. (b ∷ x.0, x.1)) (split_at_semicolon bs)

abbrev pub class_from : Option (List ℕ × List ℕ) → Option (BaseKind × List ℕ)
class_from None = None
class_from (Some x) = if spells_class_name false x.0 then Some (Class x.0, x.1) else None

-- the kind at the front that is not an array, and what comes after it
unfoldable pub base_at : List ℕ → Option (BaseKind × List ℕ)
base_at [] = None
base_at (b ∷ bs) =
    if b == 73 then Some (Int, bs) else
    if b == 66 then Some (Byte, bs) else
    if b == 67 then Some (Char, bs) else
    if b == 83 then Some (Short, bs) else
    if b == 90 then Some (Boolean, bs) else
    if b == 74 then Some (Long, bs) else
    if b == 70 then Some (Float, bs) else
    if b == 68 then Some (Double, bs) else
    if b == 76 then class_from (split_at_semicolon bs) else
    None

abbrev pub is_bracket : ℕ → Bool
is_bracket b = b == 91

-- the kind at the front, and what comes after it
unfoldable pub kind_at : List ℕ → Option (Kind × List ℕ)
kind_at bs =
    if nat_le (prefix_len is_bracket bs) 255
    then option_map (λ x. (kind_of_dimensions (prefix_len is_bracket bs) x.0, x.1)) (base_at (drop (prefix_len is_bracket bs) bs))
    else None
