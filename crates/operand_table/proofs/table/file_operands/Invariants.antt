use Rattle.code_decode.specs.declared.code.ClassUnit.{ClassUnit}
use Rattle.std.proofs.Common.{List}
use Rattle.link_rules.specs.Classes.{number_of_file}
use Rattle.link_rules.specs.Names.{program_names}
use Rattle.operand_table.specs.Sources.{AreSourcesOf}
use Rattle.operand_table.specs.Table.{AreOperands}
use Rattle.operand_table.proofs.table.file_operands.Given as goal

abbrev pub invariant-loop-index : goal.invariant-loop-index
invariant-loop-index l = (us : List ClassUnit) → AreSourcesOf us l.sources → AreOperands (program_names us) (number_of_file l.file) l.unit.file.pool l.index l.row.items
