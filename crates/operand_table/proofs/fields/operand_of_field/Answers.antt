use Rattle.std.proofs.Common.{List, refl, sym, ◌∙◌, ap}
use Rattle.std.proofs.lemmas.Bool.{ne_eqb}
use Rattle.code_decode.specs.declared.code.ClassUnit.{ClassUnit}
use Rattle.operand_table.specs.FieldTypes.{field_type}
use Rattle.operand_table.proofs.fields.operand_of_field.Goals as goal

pub returns-in-Some : goal.returns-in-Some
returns-in-Some c = λ us text are is.
    let kind = sym c.in-Some.is ∙ c.of.ensures c.args.sources.lookup.now are.fields text is ∙ ap (λ (x : List ClassUnit). field_type x text) are.lookup in
    sym (rw (ne_eqb c.args.found.class 4 c.if-found-eq-SYSTEM.false, sym kind, sym (c.field_place.ensures us are.layout), sym c.has.ensures) refl)
