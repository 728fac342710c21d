-- The questions of Pool as tests.
use Rattle.std.specs.Prelude.{ℕ, Bool, true, false, List, Option, Some, slice_get}
use Rattle.std.specs.Str.{bytes_eq}
use Rattle.class_walk.specs.declared.class.Constant.{Constant}
use Rattle.class_walk.specs.declared.class.Constant.TheVariants.{Utf8, Class}

-- a Class entry of any name
abbrev pub is_class_entry : Option Constant → Bool
is_class_entry (Some (Class _)) = true
is_class_entry _ = false

abbrev pub is_text : List ℕ → Option Constant → Bool
is_text text (Some (Utf8 bytes)) = bytes_eq bytes text
is_text text _ = false

abbrev pub is_class : List Constant → List ℕ → Option Constant → Bool
is_class pool name (Some (Class n)) = is_text name (slice_get pool n)
is_class pool name _ = false
