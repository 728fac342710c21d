-- The classes of a program by their names: the built-in ones, then those of the files (JVMS 4.1).
use Rattle.std.specs.Prelude.{ℕ, zero, suc, ◌+◌, ◌-◌, ◌==◌, nat_le, if◌then◌else◌, Bool, false, not, Option, None, Some, List, [], ◌∷◌, ◌++◌, map, slice_get, bytes_eq, unwrap_or}
use Rattle.std.specs.List.{position_from, prefix_len}
use Rattle.std.specs.Option.{option_map_or}
use Rattle.builtin_world.specs.Library.{library}
use Rattle.builtin_world.specs.Library.{Class as LibraryClass, Field as LibraryField, Method as LibraryMethod}
use Rattle.builtin_world.specs.declared.number.TheConstants.{COUNT}
use Rattle.class_walk.specs.declared.class.Constant.{Constant}
use Rattle.class_names.specs.Reading.{is_bracket}
use Rattle.class_pool.specs.Pool.{Reference, reference_of}
use Rattle.class_pool.specs.Lookup.{utf8_of, class_name_of, reference_in}
use Rattle.class_read.specs.declared.class_file.Member.{Member}
use Rattle.code_decode.specs.declared.code.ClassUnit.{ClassUnit}
use Rattle.access_flags.specs.Flags.{has}

-- a field or a method; `name_at` is the index of its name in the class's pool, by which a refusal names it
pub record NamedMember : Type 0 where
  pub name : List ℕ
  pub descriptor : List ℕ
  pub flags : ℕ
  pub name_at : ℕ

-- a class: java/lang/Object alone has no superclass
pub record NamedClass : Type 0 where
  pub name : List ℕ
  pub flags : ℕ
  pub super : Option (List ℕ)
  pub interfaces : List (List ℕ)
  pub fields : List NamedMember
  pub methods : List NamedMember

-- the bytes of the Utf8 entry at an index, the name of the Class entry there, and the member that the entry there
-- names; empty where there is none
abbrev pub utf8_at : List Constant → ℕ → List ℕ
utf8_at pool i = unwrap_or (utf8_of (slice_get pool i)) []

abbrev pub class_name_at : List Constant → ℕ → List ℕ
class_name_at pool i = unwrap_or (class_name_of pool (slice_get pool i)) []

abbrev pub reference_at : List Constant → ℕ → Reference
reference_at pool i = unwrap_or (reference_in pool (slice_get pool i)) (reference_of [] [] [])

-- a name, and none where it is empty
abbrev pub name_or_none : List ℕ → Option (List ℕ)
name_or_none [] = None
name_or_none (b ∷ name) = Some (b ∷ name)

abbrev pub library_field : LibraryField → NamedMember
library_field f = record { name = f.name; descriptor = f.descriptor; flags = f.flags; name_at = 0 }

abbrev pub library_method : LibraryMethod → NamedMember
library_method m = record { name = m.name; descriptor = m.descriptor; flags = m.flags; name_at = 0 }

abbrev pub library_class : LibraryClass → NamedClass
library_class c = record {
  name = c.name;
  flags = c.flags;
  super = name_or_none c.super;
  interfaces = c.interfaces;
  fields = map library_field c.fields;
  methods = map library_method c.methods;
}

abbrev pub member_of_file : List Constant → Member → NamedMember
member_of_file pool m = record {
  name = utf8_at pool m.name;
  descriptor = utf8_at pool m.descriptor;
  flags = m.flags;
  name_at = m.name;
}

abbrev pub class_of_unit : ClassUnit → NamedClass
class_of_unit u = record {
  name = class_name_at u.file.pool u.file.this_class;
  flags = u.file.flags;
  super = class_name_of u.file.pool (slice_get u.file.pool u.file.super_class);
  interfaces = map (class_name_at u.file.pool) u.file.interfaces;
  fields = map (member_of_file u.file.pool) u.file.fields;
  methods = map (member_of_file u.file.pool) u.file.methods;
}

abbrev pub classes_of : List ClassUnit → List NamedClass
classes_of us = map library_class library ++ map class_of_unit us

-- the number of the class of the file at a place: the built-in classes have those from 1 to COUNT
abbrev pub number_of_file : ℕ → ℕ
number_of_file k = suc (COUNT + k)

-- the file of the class of a number
abbrev pub unit_numbered : List ClassUnit → ℕ → Option ClassUnit
unit_numbered us c = if nat_le c COUNT then None else slice_get us (c - suc COUNT)

-- the number of the class of a name, from 1; 0 where there is none
abbrev pub class_number : List NamedClass → List ℕ → ℕ
class_number cs name = option_map_or (λ i. suc i) (position_from (λ (c : NamedClass). bytes_eq c.name name) 0 cs) 0

abbrev pub class_numbered : List NamedClass → ℕ → Option NamedClass
class_numbered cs zero = None
class_numbered cs (suc i) = slice_get cs i

-- a class is there and has this flag
abbrev pub class_has : List NamedClass → ℕ → ℕ → Bool
class_has cs c flag = option_map_or (λ (k : NamedClass). has k.flags flag) (class_numbered cs c) false

-- the number of the superclass, 0 where there is none
abbrev pub superclass_of : List NamedClass → ℕ → ℕ
superclass_of cs c =
    option_map_or (λ (k : NamedClass). option_map_or (class_number cs) k.super 0) (class_numbered cs c) 0

abbrev pub interfaces_of : List NamedClass → ℕ → List ℕ
interfaces_of cs c = option_map_or (λ (k : NamedClass). map (class_number cs) k.interfaces) (class_numbered cs c) []

abbrev pub fields_of : List NamedClass → ℕ → List NamedMember
fields_of cs c = option_map_or (λ (k : NamedClass). k.fields) (class_numbered cs c) []

abbrev pub methods_of : List NamedClass → ℕ → List NamedMember
methods_of cs c = option_map_or (λ (k : NamedClass). k.methods) (class_numbered cs c) []

-- a Class entry names an array class by its descriptor (JVMS 4.4.1)
abbrev pub is_array_name : List ℕ → Bool
is_array_name name = not (prefix_len is_bracket name == 0)
