-- The tables of selection, and what they say.
use Rattle.std.specs.Prelude.{◌≡◌, ◌≤◌, ℕ, Option, Some, List, length, option_map, if◌then◌else◌}
use Rattle.std.specs.Option.{option_and_then}
use Rattle.access_flags.specs.declared.TheConstants.{PRIVATE}
use Rattle.access_flags.specs.Flags.{has}
use Rattle.code_decode.specs.declared.code.ClassUnit.{ClassUnit}
use Rattle.link_types.specs.declared.operands.MethodId.{MethodId}
use Rattle.link_rules.specs.Classes.{NamedClass, NamedMember, classes_of}
use Rattle.link_rules.specs.Members.{method_id, selected, signature_of}
use Rattle.link_rules.specs.Methods.{implemented, method_named}
use Rattle.method_selection.specs.declared.entries.MethodEntry.{MethodEntry}
use Rattle.method_selection.specs.declared.selection.MethodSelection.{MethodSelection}
use Rattle.method_selection.specs.Entries.{entry_in}
use Rattle.method_selection.specs.Numbers.{id_numbered}
use Rattle.method_selection.specs.Rows.{row_number}

-- the method that a call of a method executes where selection begins at a class
abbrev pub select_from : List NamedClass → ℕ → MethodId → Option MethodId
select_from cs start id =
    option_and_then (λ (m : NamedMember). if has m.flags PRIVATE then Some id else option_map method_id (implemented (selected cs start (signature_of m))))
    (method_named cs id)

-- the same by tables
abbrev pub select_in : MethodSelection → ℕ → MethodId → Option MethodId
select_in s start id =
    option_and_then (λ (e : MethodEntry). if has e.flags PRIVATE then Some id else id_numbered s.ids.items (row_number s.rows.items start e.signature))
    (entry_in s.entries.items id)

-- tables have the selection of a program
pub record IsSelectionOf (us : List ClassUnit) (s : MethodSelection) : Type 0 where
  pub selects : (start : ℕ) (id : MethodId) → start ≤ length (classes_of us) → select_in s start id ≡ select_from (classes_of us) start id
