use Rattle.std.proofs.Common.{◌≡◌, ◌+◌, ℕ, length, slice_get, Some}
use Rattle.shared_rows.specs.Rows.{number_at}
use Rattle.shared_rows.specs.declared.SharedRow.{SharedRow}
use Rattle.method_selection.proofs.selected_rows.first_rows.Given as goal

abbrev pub invariant-loop : goal.invariant-loop
invariant-loop l = (length l.rows.items ≡ l.counter + 1) × ((row : SharedRow) → slice_get l.rows.items 0 ≡ Some row → (place : ℕ) → number_at row place ≡ 0)
