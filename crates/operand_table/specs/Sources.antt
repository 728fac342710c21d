-- What operands are made of.
use Rattle.std.specs.Prelude.{◌≡◌, List}
use Rattle.code_decode.specs.declared.code.ClassUnit.{ClassUnit}
use Rattle.link_rules.specs.Units.{AreUnits}
use Rattle.pool_types.specs.Types.{ArePoolTypes}
use Rattle.class_layout.specs.Layout.{IsLayoutOf}
use Rattle.string_literals.specs.Literals.{IsLiteralsOf}
pub use Rattle.array_classes.specs.ArrayClasses.{AreArraysOf}
use Rattle.operand_table.specs.declared.sources.Sources.{Sources}
use Rattle.operand_table.specs.FieldTypes.{AreFieldTypes}

-- this is known of a program
pub record AreSourcesOf (us : List ClassUnit) (s : Sources) : Type 0 where
  pub decoded : AreUnits us
  pub lookup : s.lookup.now.units ≡ us
  pub types : ArePoolTypes us s.types.now
  pub fields : AreFieldTypes s.lookup.now s.fields.now
  pub layout : IsLayoutOf us s.layout.now
  pub literals : IsLiteralsOf us s.literals.now
  pub arrays : AreArraysOf us s.arrays.now
