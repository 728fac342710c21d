use Rattle.std.proofs.Common.{◌≡◌, ◌+◌, List, Some, length, slice_get, refl, sym, subst}
use Rattle.std.proofs.lemmas.Option.{slice_get_read}
use Rattle.class_walk.specs.declared.class.Constant.{Constant}
use Rattle.link_rules.specs.Classes.{number_of_file}
use Rattle.link_rules.specs.Names.{program_names}
use Rattle.operand_table.specs.Table.{AreOperands}
use Rattle.operand_table.proofs.TableLaws.{one_more}
use Rattle.operand_table.proofs.table.file_operands.Goals as goal

pub loop-index-preserved : goal.loop-index-preserved
loop-index-preserved c = λ us are.
    let items = c.as_slice-pool.result.now in
    let pool = c.args.unit.now.file.pool in
    let n = c.loop-index.index in
    let entry = c.index-pool-index.result in
    let read = slice_get_read items (length items) n entry refl c.loop-index-test.true c.index-pool-index.is in
    let at : slice_get pool n ≡ Some entry = subst (λ (xs : List Constant). slice_get xs n ≡ Some entry) c.as_slice-pool.ensures read in
    let more = one_more (program_names us) (number_of_file c.args.file) n pool c.loop-index.row.items entry c.entry_operand.result
    (c.loop-index.invariant us are) at (c.entry_operand.ensures us are at) in
    subst (AreOperands (program_names us) (number_of_file c.args.file) pool (n + 1)) (sym c.in_ok-push.ensures.items) more
