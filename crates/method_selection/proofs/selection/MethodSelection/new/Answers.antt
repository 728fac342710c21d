use Rattle.std.proofs.Common.{map, ◌∙◌, ap, suc, length}
use Rattle.std.specs.List.{range_with_len}
use Rattle.link_rules.specs.Classes.{classes_of}
use Rattle.method_selection.specs.Entries.{class_entries}
use Rattle.method_selection.proofs.SelectionLaws.{are_selected}
use Rattle.method_selection.proofs.selection.MethodSelection.new.Goals as goal

pub returns : goal.returns
returns c =
    let p = c.args.lookup.now in
    let n = c.in_ok-numbers.numbers in
    let entries = c.in_ok-entries.ensures ∙ ap (λ ns. map (class_entries p ns) (range_with_len 0 (suc (length (classes_of p.units))))) c.deref.ensures.value in
    record { selects = are_selected p n.numbers.items n.ids.items c.in_ok-numbers.ensures c.in_ok-rows.rows.items c.in_ok-rows.ensures c.methods_have_numbers.ensures c.in_ok-entries.entries.items entries }
