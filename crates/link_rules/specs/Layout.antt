-- Words of objects and of class objects.
use Rattle.std.specs.Prelude.{ℕ, zero, suc, ◌+◌, ◌*◌, Bool, true, false, not, List, take, filter, length, sum_by, codes, bytes_eq, nat_le, slice_get, find, if◌then◌else◌}
use Rattle.std.specs.Option.{option_map_or}
use Rattle.builtin_world.specs.Library.{library}
use Rattle.builtin_world.specs.Library.{Class as LibraryClass}
use Rattle.builtin_world.specs.declared.number.TheConstants.{COUNT}
use Rattle.access_flags.specs.declared.TheConstants.{STATIC}
use Rattle.access_flags.specs.Flags.{has}
use Rattle.link_rules.specs.Classes.{NamedClass, NamedMember, fields_of, superclass_of}
use Rattle.link_rules.specs.Supers.{superclasses}
use Rattle.link_rules.specs.Names.{ProgramNames, array_numbered}

abbrev pub is_long : NamedMember → Bool
is_long f = bytes_eq f.descriptor (codes "J")

-- a long takes two words
abbrev pub field_words : NamedMember → ℕ
field_words f = if is_long f then 2 else 1

-- a field is stored in the class object, where it is static, or in each object
abbrev pub is_stored : Bool → NamedMember → Bool
is_stored true f = has f.flags STATIC
is_stored false f = not (has f.flags STATIC)

-- the words of the static fields among some, or of the others
abbrev pub own_words : Bool → List NamedMember → ℕ
own_words static fields = sum_by field_words (filter (is_stored static) fields)

abbrev pub is_built_in : ℕ → Bool
is_built_in c = nat_le c COUNT

-- the words of an object of a built-in class, the inherited ones among them
abbrev pub built_in_words : ℕ → ℕ
built_in_words zero = 0
built_in_words (suc i) = option_map_or (λ (c : LibraryClass). length c.words) (slice_get library i) 0

-- the words that a class of a file adds to an object
abbrev pub added_words : List NamedClass → ℕ → ℕ
added_words cs c = if is_built_in c then 0 else own_words false (fields_of cs c)

-- the words of an object, those of its superclasses first
abbrev pub instance_words : List NamedClass → ℕ → ℕ
instance_words cs c =
    option_map_or built_in_words (find is_built_in (superclasses cs c)) 0 + sum_by (added_words cs) (superclasses cs c)

-- the words of a class object; System's `out` is no word
abbrev pub static_words : List NamedClass → ℕ → ℕ
static_words cs c = if is_built_in c then 0 else own_words true (fields_of cs c)

-- the first word of the field at a place of a class: in the class object, or in each object. A long has its low half
-- first.
abbrev pub field_place : List NamedClass → ℕ → ℕ → NamedMember → ℕ
field_place cs c i f =
    if has f.flags STATIC then own_words true (take i (fields_of cs c))
    else instance_words cs (superclass_of cs c) + own_words false (take i (fields_of cs c))

abbrev pub array_words : List ℕ → ℕ → ℕ
array_words name elements = if bytes_eq name (codes "[J") then 2 * elements else elements

-- the words of a new object of a class, or of a new array of `elements` elements, without header and monitor
abbrev pub object_words : ProgramNames → ℕ → ℕ → ℕ
object_words p c elements =
    option_map_or (λ name. array_words name elements) (array_numbered p c) (instance_words p.classes c)
