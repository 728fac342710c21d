use Rattle.std.proofs.Common.{◌≡◌, drop}
use Rattle.shared_rows.specs.Rows.{number_at}
use Rattle.method_selection.specs.Rows.{with_own}
use Rattle.method_selection.proofs.selected_rows.class_row.Given as goal

abbrev pub invariant-loop-place : goal.invariant-loop-place
invariant-loop-place l = number_at l.row ≡ with_own (drop l.place l.entries) (number_at l.inherited)
