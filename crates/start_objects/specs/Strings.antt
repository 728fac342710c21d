-- What string literals stand for.
use Rattle.std.specs.Prelude.{ℕ, Option, List}
use Rattle.std.specs.Option.{option_map_or, option_and_then}
use Rattle.class_walk.specs.declared.class.Constant.{Constant}
use Rattle.link_rules.specs.Strings.{literal_in}
use Rattle.link_rules.specs.Names.{ProgramNames, string_number}
use Rattle.link_rules.specs.FixedObjects.{string_object}

-- the reference of the string of a literal, 0 of another entry
abbrev pub string_at : ProgramNames → List Constant → Option Constant → ℕ
string_at p pool o = option_map_or (λ (text : List ℕ). string_object p (string_number p text)) (option_and_then (literal_in pool) o) 0
