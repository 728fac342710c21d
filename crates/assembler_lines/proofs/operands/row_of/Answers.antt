use Rattle.assembler_lines.proofs.RowLaws.{no_text_no_row}
use Rattle.assembler_lines.proofs.operands.row_of.Goals as goal

pub returns-in-Err : goal.returns-in-Err
returns-in-Err c = no_text_no_row c.args.mnemonic.now c.in-Err.ensures.cases.0
