-- The methods that objects select, a row of numbers for each class.
use Rattle.std.specs.Prelude.{◌≡◌, ◌&&◌, ◌||◌, ℕ, suc, not, Bool, Option, None, Some, List, [], ◌∷◌, length, slice_get, if◌then◌else◌}
use Rattle.std.specs.List.{find}
use Rattle.std.specs.Option.{option_map_or}
use Rattle.access_flags.specs.declared.TheConstants.{STATIC, PRIVATE, ABSTRACT}
use Rattle.access_flags.specs.Flags.{has}
use Rattle.class_texts.specs.Texts.{ProgramTexts}
use Rattle.link_rules.specs.Classes.{classes_of}
use Rattle.link_rules.specs.Members.{first_some}
use Rattle.link_rules.specs.Supers.{superclasses}
use Rattle.shared_rows.specs.Rows.{number_at, set_at}
use Rattle.shared_rows.specs.declared.SharedRow.{SharedRow}
use Rattle.member_table.specs.declared.table.MemberRow.{MemberRow}
use Rattle.member_table.specs.Members.{has_signature}
use Rattle.member_lookup.specs.Rows.{is_virtual_row}
use Rattle.method_selection.specs.declared.entries.MethodEntry.{MethodEntry}
use Rattle.method_selection.specs.Numbers.{rows_of_class}
use Rattle.method_selection.specs.Entries.{number_of_row, signature_number}

abbrev pub is_virtual_entry : MethodEntry → Bool
is_virtual_entry e = not (has e.flags STATIC || has e.flags PRIVATE)

-- the number of a method, and 0 of an abstract one
abbrev pub answer_of : MethodEntry → ℕ
answer_of e = if has e.flags ABSTRACT then 0 else e.number

-- the numbers of a row with those of own methods; the first one of a name and a descriptor counts
abbrev pub with_own : List MethodEntry → (ℕ → ℕ) → ℕ → ℕ
with_own [] f = f
with_own (e ∷ es) f = if is_virtual_entry e then set_at (with_own es f) e.signature (answer_of e) else with_own es f

-- among the methods of a class the first one of a name and a descriptor that is neither static nor private
abbrev pub own_method : ProgramTexts → ℕ → ℕ → ℕ → Option MemberRow
own_method p name descriptor c = find (λ m. has_signature name descriptor m && is_virtual_row m) (rows_of_class p c)

-- the method that objects of a class select
abbrev pub selected_row : ProgramTexts → ℕ → ℕ → ℕ → Option MemberRow
selected_row p name descriptor c = first_some (own_method p name descriptor) (superclasses (classes_of p.units) c)

-- the number that stands for it: 0 where there is none, or an abstract one
abbrev pub answer : List (List ℕ) → Option MemberRow → ℕ
answer numbers None = 0
answer numbers (Some m) = if has m.flags ABSTRACT then 0 else number_of_row numbers m

abbrev pub IsSelectedRow : ProgramTexts → List (List ℕ) → ℕ → SharedRow → Type 0
IsSelectedRow p numbers c row =
    (name descriptor : ℕ) → number_at row (signature_number p numbers name descriptor) ≡ answer numbers (selected_row p name descriptor c)

-- each class has the row of what its objects select
pub record AreSelectedRows (p : ProgramTexts) (numbers : List (List ℕ)) (rows : List SharedRow) : Type 0 where
  pub count : length rows ≡ suc (length (classes_of p.units))
  pub each : (c : ℕ) (row : SharedRow) → slice_get rows c ≡ Some row → IsSelectedRow p numbers c row

abbrev pub row_number : List SharedRow → ℕ → ℕ → ℕ
row_number rows c signature = option_map_or (λ row. number_at row signature) (slice_get rows c) 0
