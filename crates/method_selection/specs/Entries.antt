-- What selection has to know of each method.
use Rattle.std.specs.Prelude.{ℕ, Option, List, map, slice_get}
use Rattle.std.specs.Option.{option_map_or, option_and_then}
use Rattle.class_texts.specs.Texts.{ProgramTexts}
use Rattle.link_types.specs.declared.operands.MethodId.{MethodId}
use Rattle.member_table.specs.declared.table.MemberRow.{MemberRow}
use Rattle.member_lookup.specs.Found.{first_virtual}
use Rattle.method_selection.specs.declared.entries.MethodEntry.{MethodEntry}
use Rattle.method_selection.specs.Numbers.{method_number, rows_of_class}

abbrev pub number_of_row : List (List ℕ) → MemberRow → ℕ
number_of_row numbers m = method_number numbers m.class m.place

-- the number of a name and a descriptor: that of the first method that has them and is neither static nor private
abbrev pub signature_number : ProgramTexts → List (List ℕ) → ℕ → ℕ → ℕ
signature_number p numbers name descriptor = option_map_or (number_of_row numbers) (first_virtual p name descriptor) 0

abbrev pub entry_of : ProgramTexts → List (List ℕ) → MemberRow → MethodEntry
entry_of p numbers m = record {
  signature = signature_number p numbers m.name m.descriptor;
  number = number_of_row numbers m;
  flags = m.flags;
}

abbrev pub class_entries : ProgramTexts → List (List ℕ) → ℕ → List MethodEntry
class_entries p numbers c = map (entry_of p numbers) (rows_of_class p c)

abbrev pub entry_in : List (List MethodEntry) → MethodId → Option MethodEntry
entry_in entries id = option_and_then (λ (row : List MethodEntry). slice_get row id.method) (slice_get entries id.class)
