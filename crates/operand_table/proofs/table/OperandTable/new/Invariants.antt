use Rattle.std.proofs.Common.{List}
use Rattle.code_decode.specs.declared.code.ClassUnit.{ClassUnit}
use Rattle.link_rules.specs.Names.{program_names}
use Rattle.operand_table.specs.Sources.{AreSourcesOf}
use Rattle.operand_table.proofs.TableLaws.{AreRows}
use Rattle.operand_table.proofs.table.OperandTable.new.Given as goal

abbrev pub invariant-loop-file : goal.invariant-loop-file
invariant-loop-file l = (us : List ClassUnit) → AreSourcesOf us l.sources → AreRows (program_names us) us l.file l.rows.items
