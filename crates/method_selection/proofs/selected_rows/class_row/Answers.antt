use Rattle.std.proofs.Common.{length, sym, ◌∙◌, ap, arith}
use Rattle.shared_rows.specs.Rows.{number_at}
use Rattle.method_selection.specs.Rows.{with_own}
use Rattle.std.proofs.lemmas.List.{drop_all}
use Rattle.method_selection.proofs.selected_rows.class_row.Goals as goal

pub loop-place-init : goal.loop-place-init
loop-place-init c =
    let es = c.args.entries.now in
    c.in_ok-row.ensures ∙ ap (λ xs. with_own xs (number_at c.args.inherited.now)) (sym (drop_all (length c.args.entries.now) c.args.entries.now (omega arith)))
