-- The members of classes as rows of numbers.
use Rattle.std.specs.Prelude.{◌≡◌, ℕ, ◌+◌, not, ◌||◌, Bool, List, [], ◌∷◌, filter, flat_map}
use Rattle.std.specs.List.{range_with_len}
use Rattle.access_flags.specs.declared.TheConstants.{STATIC, PRIVATE}
use Rattle.access_flags.specs.Flags.{has}
use Rattle.link_types.specs.declared.operands.MethodId.{MethodId}
use Rattle.code_decode.specs.declared.code.ClassUnit.{ClassUnit}
use Rattle.link_rules.specs.Classes.{NamedMember, classes_of, fields_of, methods_of}
use Rattle.text_numbers.specs.Numbers.{number_of}
use Rattle.member_table.specs.declared.table.MemberRow.{MemberRow}
use Rattle.member_lookup.specs.declared.tables.Tables.{Tables}

-- the row of the member at a place of a class
abbrev pub row_of : List (List ℕ) → ℕ → ℕ → NamedMember → MemberRow
row_of ts c i m = record { class = c; place = i; name = number_of ts m.name; descriptor = number_of ts m.descriptor; flags = m.flags }

-- the rows of members of a class, from a place on
abbrev pub rows_from : List (List ℕ) → ℕ → ℕ → List NamedMember → List MemberRow
rows_from ts c i [] = []
rows_from ts c i (m ∷ ms) = row_of ts c i m ∷ rows_from ts c (i + 1) ms

abbrev pub class_rows : List (List ℕ) → (ℕ → List NamedMember) → ℕ → List MemberRow
class_rows ts members c = rows_from ts c 0 (members c)

-- the rows of the first classes
abbrev pub rows_of_classes : List (List ℕ) → (ℕ → List NamedMember) → ℕ → List MemberRow
rows_of_classes ts members n = flat_map (class_rows ts members) (range_with_len 1 n)

-- the method of a row
abbrev pub id_of_row : MemberRow → MethodId
id_of_row m = record { class = m.class; method = m.place }

-- neither static nor private
abbrev pub is_virtual_row : MemberRow → Bool
is_virtual_row m = not (has m.flags STATIC || has m.flags PRIVATE)

-- the fields and the methods of the first classes, and those methods that are neither static nor private
pub record AreTables (us : List ClassUnit) (ts : List (List ℕ)) (n : ℕ) (t : Tables) : Type 0 where
  pub fields_are : t.fields ≡ rows_of_classes ts (fields_of (classes_of us)) n
  pub methods_are : t.methods ≡ rows_of_classes ts (methods_of (classes_of us)) n
  pub virtuals_are : t.virtuals ≡ filter is_virtual_row (rows_of_classes ts (methods_of (classes_of us)) n)
