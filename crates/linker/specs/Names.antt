-- The names of classes (JVMS 4.2.1).
use Rattle.std.specs.Prelude.{ℕ, suc, Bool, false, Option, List, bytes_eq}
use Rattle.std.specs.List.{position_from}
use Rattle.std.specs.Option.{option_map, option_map_or}
use Rattle.link_rules.specs.Classes.{NamedClass, class_numbered}

-- the name of a class that is no array class
abbrev pub name_of_class : List NamedClass → ℕ → Option (List ℕ)
name_of_class cs c = option_map (λ (k : NamedClass). k.name) (class_numbered cs c)

abbrev pub has_name : List ℕ → NamedClass → Bool
has_name name k = bytes_eq k.name name

-- the class has this name
abbrev pub is_named : List NamedClass → ℕ → List ℕ → Bool
is_named cs c name = option_map_or (has_name name) (class_numbered cs c) false

-- the first class of a name
abbrev pub class_of_name : List NamedClass → List ℕ → Option ℕ
class_of_name cs name = option_map (λ place. suc place) (position_from (has_name name) 0 cs)
