-- Numbers of methods.
use Rattle.std.specs.Prelude.{◌≡◌, ℕ, zero, suc, Option, None, Some, List, [], slice_get, slice_index, slice_index_or}
use Rattle.class_texts.specs.Texts.{ProgramTexts}
use Rattle.link_types.specs.declared.operands.MethodId.{MethodId}
use Rattle.link_rules.specs.Classes.{classes_of, methods_of}
use Rattle.member_table.specs.declared.table.MemberRow.{MemberRow}
use Rattle.member_lookup.specs.Rows.{class_rows, id_of_row}

-- the method of a number, from 1
abbrev pub id_numbered : List MethodId → ℕ → Option MethodId
id_numbered ids zero = None
id_numbered ids (suc i) = slice_get ids i

-- the number at a class and a place, 0 where there is none
abbrev pub method_number : List (List ℕ) → ℕ → ℕ → ℕ
method_number numbers c i = slice_index (slice_index_or numbers c []) i

-- methods keep their numbers
abbrev pub Keeps : List MethodId → List MethodId → Type 0
Keeps old new = (n : ℕ) (id : MethodId) → id_numbered old n ≡ Some id → id_numbered new n ≡ Some id

-- a row has the numbers of some methods
abbrev pub AreNumbered : List MethodId → List MemberRow → List ℕ → Type 0
AreNumbered ids members row = (i : ℕ) (m : MemberRow) → slice_get members i ≡ Some m → id_numbered ids (slice_index row i) ≡ Some (id_of_row m)

abbrev pub rows_of_class : ProgramTexts → ℕ → List MemberRow
rows_of_class p c = class_rows p.texts (methods_of (classes_of p.units)) c

-- each method of each class has a number
abbrev pub AreMethodNumbers : ProgramTexts → List (List ℕ) → List MethodId → Type 0
AreMethodNumbers p numbers ids = (c : ℕ) → AreNumbered ids (rows_of_class p c) (slice_index_or numbers c [])
