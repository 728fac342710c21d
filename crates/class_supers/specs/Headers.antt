-- What classes name as their superclasses and interfaces, by numbers.
use Rattle.std.specs.Prelude.{ℕ, List, [], map}
use Rattle.std.specs.Option.{option_map_or}
use Rattle.builtin_world.specs.BuiltinClass.{ClassRow}
use Rattle.class_walk.specs.declared.class.Constant.{Constant}
use Rattle.class_walk.specs.declared.class.Constant.TheVariants.{Utf8}
use Rattle.link_rules.specs.Classes.{NamedClass}
use Rattle.class_supers.specs.declared.headers.ClassHeader.{ClassHeader}

-- the number of the text of an entry; an entry of another kind has no text
abbrev pub text_number : (List ℕ → ℕ) → Constant → ℕ
text_number f (Utf8 text) = f text
text_number f _ = f []

-- a class, by the numbers of names
abbrev pub header_by : (List ℕ → ℕ) → NamedClass → ClassHeader
header_by f k = record { flags = k.flags; superclass = option_map_or f k.super 0; interfaces = map f k.interfaces }

abbrev pub header_of_row : ClassRow → ClassHeader
header_of_row r = record { flags = r.flags; superclass = r.super_number; interfaces = r.interfaces }
