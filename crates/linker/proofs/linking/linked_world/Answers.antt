use Rattle.std.proofs.Common.{refl, sym, subst}
use Rattle.link_rules.specs.Units.{AreUnits}
use Rattle.link_rules.specs.LinkRules.{link_rules}
use Rattle.class_supers.specs.Answers.{Refuses}
use Rattle.linker.specs.Tables.{AreTables, HasOrder}
use Rattle.linker.proofs.WorldLaws.{given_ok, given_err}
use Rattle.linker.proofs.linking.linked_world.Goals as goal

pub checked_tables-requires : goal.checked_tables-requires
checked_tables-requires c = record { decoded = subst AreUnits (sym c.deref.ensures.value) c.requires.decoded }

pub invariant_of-result : goal.invariant_of-result
invariant_of-result c =
    let units = c.deref.result.now in
    let given = given_ok (link_rules units) (AreTables units) c.checked_tables.result c.in-Ok.tables c.in-Ok.is c.checked_tables.ensures in
    record {
      decoded = c.requires.decoded;
      linked = subst (λ us. (link_rules us).Hold) c.deref.ensures.value given.0;
      are = subst (λ us. AreTables us c.in-Ok.tables) c.deref.ensures.value given.1;
    }

pub returns-in-Ok : goal.returns-in-Ok
returns-in-Ok c =
    let units = c.deref.result.now in
    let given = given_ok (link_rules units) (AreTables units) c.checked_tables.result c.in-Ok.tables c.in-Ok.is c.checked_tables.ensures in
    (subst (λ us. (link_rules us).Hold) c.deref.ensures.value given.0, (refl, subst HasOrder c.deref.ensures.value given.1.order))

pub returns-in-Err : goal.returns-in-Err
returns-in-Err c =
    let units = c.deref.result.now in
    subst (λ us. Refuses c.in-Err.refusal (link_rules us)) c.deref.ensures.value
    (given_err (link_rules units) (AreTables units) c.checked_tables.result c.in-Err.refusal c.in-Err.is c.checked_tables.ensures)
