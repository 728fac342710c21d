-- The texts of class files by number.
use Rattle.std.specs.Prelude.{◌≡◌, ◌≢◌, ℕ, List, Option, Some, map, slice_get}
use Rattle.std.specs.Option.{option_map_or}
use Rattle.class_walk.specs.declared.class.Constant.{Constant}
use Rattle.class_pool.specs.Lookup.{utf8_of}
use Rattle.code_decode.specs.declared.code.ClassUnit.{ClassUnit}
use Rattle.builtin_world.specs.BuiltinClass.{ClassRow, rows as library_rows}
use Rattle.builtin_world.specs.Library.{Method}
use Rattle.text_numbers.specs.Numbers.{number_of}

-- the files of a program, and their texts in the order of their numbers
pub record ProgramTexts : Type 0 where
  pub units : List ClassUnit
  pub texts : List (List ℕ)

-- the number of the text of a Utf8 entry; 0 where there is none
abbrev pub entry_number : List (List ℕ) → Option Constant → ℕ
entry_number ts o = option_map_or (number_of ts) (utf8_of o) 0

-- numbers that were given stay
abbrev pub Extends : List (List ℕ) → List (List ℕ) → Type 0
Extends old new = (text : List ℕ) → number_of old text ≢ 0 → number_of new text ≡ number_of old text

-- the text of an entry has a number, if it has a text
abbrev pub KnowsEntry : List (List ℕ) → Option Constant → Type 0
KnowsEntry ts o = (text : List ℕ) → utf8_of o ≡ Some text → number_of ts text ≢ 0

abbrev pub KnowsPool : List (List ℕ) → List Constant → Type 0
KnowsPool ts pool = (i : ℕ) → KnowsEntry ts (slice_get pool i)

abbrev pub KnowsUnits : List (List ℕ) → List ClassUnit → Type 0
KnowsUnits ts us = (k : ℕ) (u : ClassUnit) → slice_get us k ≡ Some u → KnowsPool ts u.file.pool

-- the name and the descriptor of a built-in method have numbers
pub record KnowsMethod (ts : List (List ℕ)) (m : Method) : Type 0 where
  pub name : number_of ts m.name ≢ 0
  pub descriptor : number_of ts m.descriptor ≢ 0

abbrev pub KnowsMethods : List (List ℕ) → List Method → Type 0
KnowsMethods ts ms = (i : ℕ) (m : Method) → slice_get ms i ≡ Some m → KnowsMethod ts m

abbrev pub KnowsClasses : List (List ℕ) → List ClassRow → Type 0
KnowsClasses ts rs = (i : ℕ) (r : ClassRow) → slice_get rs i ≡ Some r → KnowsMethods ts r.methods

-- for each entry of a pool the number of its text
abbrev pub pool_row : List (List ℕ) → List Constant → List ℕ
pool_row ts pool = map (λ c. entry_number ts (Some c)) pool

-- the texts of all files and of the built-in methods have numbers, and rows have those of each pool
pub record AreTexts (us : List ClassUnit) (ts : List (List ℕ)) (rows : List (List ℕ)) : Type 0 where
  pub known : KnowsUnits ts us
  pub library : KnowsClasses ts library_rows
  pub rows_are : rows ≡ map (λ u. pool_row ts u.file.pool) us
