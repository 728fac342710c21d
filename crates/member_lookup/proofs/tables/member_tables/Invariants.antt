use Rattle.std.proofs.Common.{◌-◌}
use Rattle.member_lookup.specs.Rows.{AreTables}
use Rattle.member_lookup.proofs.tables.member_tables.Given as goal

abbrev pub invariant-loop-class : goal.invariant-loop-class
invariant-loop-class l = AreTables l.texts.units l.texts.texts (l.class - 1) l.tables
