use Rattle.std.proofs.Common.{◌≡◌, ◌+◌, List, Some, length, slice_get, refl, sym, ◌∙◌, ap, subst, arith}
use Rattle.std.proofs.lemmas.Option.{slice_get_read}
use Rattle.class_texts.specs.Texts.{ProgramTexts}
use Rattle.code_decode.specs.declared.code.ClassUnit.{ClassUnit}
use Rattle.code_laws.proofs.FileLaws.{small}
use Rattle.link_rules.specs.Classes.{number_of_file}
use Rattle.link_rules.specs.Names.{program_names}
use Rattle.operand_table.specs.Table.{AreOperands}
use Rattle.operand_table.proofs.TableLaws.{AreRows, one_row_more}
use Rattle.operand_table.proofs.table.OperandTable.new.Goals as goal

pub file_operands-requires-clause-few : goal.file_operands-requires-clause-few
file_operands-requires-clause-few c =
    let units = c.units-units.result.now in
    let u = c.index-units-file.result in
    let read = slice_get_read units (length units) c.loop-file.file u refl c.loop-file-test.true c.index-units-file.is in
    let same = c.units-units.ensures ∙ ap (λ (p : ProgramTexts). p.units) c.texts.ensures in
    let at = subst (λ (x : List ClassUnit). slice_get x c.loop-file.file ≡ Some u) same read in
    (small u.file (c.requires.decoded c.loop-file.file u at).file).pool

pub loop-file-preserved : goal.loop-file-preserved
loop-file-preserved c = λ us are.
    let units = c.units-units.result.now in
    let u = c.index-units-file.result in
    let k = c.loop-file.file in
    let read = slice_get_read units (length units) k u refl c.loop-file-test.true c.index-units-file.is in
    let same = c.units-units.ensures ∙ ap (λ (p : ProgramTexts). p.units) c.texts.ensures ∙ are.lookup in
    let at = subst (λ (x : List ClassUnit). slice_get x k ≡ Some u) same read in
    let here = subst (AreOperands (program_names us) (number_of_file k) u.file.pool (length u.file.pool)) (sym c.from_vec.ensures) (c.in_ok-file_operands.ensures us are) in
    let more = one_row_more (program_names us) us k c.loop-file.rows.items u c.from_vec.result (c.loop-file.invariant us are) at here in
    subst (AreRows (program_names us) us (k + 1)) (sym c.in_ok-push.ensures.items) more

pub returns : goal.returns
returns c = λ us are.
    let rows = c.loop-file.invariant us are in
    let same = c.units-units.ensures ∙ ap (λ (p : ProgramTexts). p.units) c.texts.ensures ∙ are.lookup in
    record {
      count = omega (arith, rows.count, ap length same, c.loop-file-test.false, c.loop-file.auto.file-end);
      each = rows.each;
    }
