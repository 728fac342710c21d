use Rattle.std.proofs.Common.{[], ◌∷◌, ◌++◌, sym, ap, ◌∙◌}
use Rattle.op_core.specs.Script.{script_code}
use Rattle.table_words.specs.Tables.{setup_in}
use Rattle.table_hosts.proofs.Families.{first_is_all}
use Rattle.table_cases.specs.Program.{script_state, script_saved}
use Rattle.table_cases.proofs.SliceLemmas.{only_begins, two_are_all}
use Rattle.table_port_tests.proofs.left.words_of_table.Goals as goal

pub run_slice-requires-2-clause-stands : goal.run_slice-requires-2-clause-stands
run_slice-requires-2-clause-stands c =
    (only_begins script_state script_saved script_code c.in_ok-table.table c.in-Ok.first.born.items c.in_ok-other.other c.in_ok-other.ensures c.in-Ok.ensures.born).0

pub finish-requires-clause-all : goal.finish-requires-clause-all
finish-requires-clause-all c =
    two_are_all script_state script_saved script_code c.in_ok-table.table _ _ _ c.in-Ok.first c.in_ok-other.other c.in-Ok-run_slice.second _
    (first_is_all (setup_in c.in_ok-table.table) _ c.in_ok-table.ensures.view) c.in-Ok.ensures c.in_ok-other.ensures c.in-Ok-run_slice.ensures (sym c.as_slice.ensures.value ∙ c.in_ok-none.ensures)
    (c.in_ok-push.ensures.items ∙ ap (λ xs. xs ++ c.in-Ok-run_slice.second.seated.seat ∷ []) c.new-rest.ensures.items)
