-- The rows of the table: the library's classes with numbers in place of names.
use Rattle.std.specs.Prelude.{ℕ, ◌==◌, List, length, map, find, Option, bytes_eq}
use Rattle.std.specs.Option.{option_map_or}
use Rattle.builtin_world.specs.declared.BuiltinClass.{BuiltinClass}
use Rattle.builtin_world.specs.declared.BuiltinField.{BuiltinField}
use Rattle.builtin_world.specs.declared.BuiltinMethod.{BuiltinMethod}
use Rattle.builtin_world.specs.Library.{Class, Field, Method, library}

pub record ClassRow : Type 0 where
  pub number : ℕ
  pub name : List ℕ
  pub super_number : ℕ
  pub interfaces : List ℕ
  pub flags : ℕ
  pub words : ℕ
  pub fields : List Field
  pub methods : List Method

-- the number of the library's class of a name, 0 where there is none
abbrev pub number_of : List ℕ → ℕ
number_of name = option_map_or (λ c. c.number) (find (λ c. bytes_eq c.name name) library) 0

-- a class of the library as a row
abbrev pub row_of : Class → ClassRow
row_of c = record {
  number = c.number;
  name = c.name;
  super_number = number_of c.super;
  interfaces = map number_of c.interfaces;
  flags = c.flags;
  words = length c.words;
  fields = c.fields;
  methods = c.methods;
}

-- the rows in the order of their numbers
unfoldable pub rows : List ClassRow
rows = map row_of library

-- the row of a name, and of a number
abbrev pub row_named : List ℕ → Option ClassRow
row_named name = find (λ r. bytes_eq r.name name) rows

abbrev pub row_numbered : ℕ → Option ClassRow
row_numbered number = find (λ r. r.number == number) rows

-- what a program sees in the fields of a `BuiltinField`, a `BuiltinMethod` and a `BuiltinClass`
abbrev pub shown_field : BuiltinField → Field
shown_field f = record { name = f.name.now; descriptor = f.descriptor.now; flags = f.flags }

abbrev pub shown_method : BuiltinMethod → Method
shown_method m = record {
  name = m.name.now;
  descriptor = m.descriptor.now;
  flags = m.flags;
  native = m.native;
}

abbrev pub shown_class : BuiltinClass → ClassRow
shown_class c = record {
  number = c.number;
  name = c.name.now;
  super_number = c.super_number;
  interfaces = c.interfaces.now;
  flags = c.flags;
  words = c.words;
  fields = map shown_field c.fields.now;
  methods = map shown_method c.methods.now;
}
