-- A linked program.
use Rattle.std.specs.Prelude.{List}
use Rattle.code_decode.specs.declared.code.ClassUnit.{ClassUnit}
use Rattle.link_rules.specs.Units.{AreUnits}
use Rattle.link_rules.specs.LinkRules.{link_rules}
use Rattle.linker.specs.declared.tables.Tables.{Tables}
use Rattle.linker.specs.Tables.{AreTables}

-- the decoded files of a program that keeps the rules of linking, and its tables
pub record IsWorld (us : List ClassUnit) (tables : Tables) : Type 0 where
  pub decoded : AreUnits us
  pub linked : (link_rules us).Hold
  pub are : AreTables us tables
