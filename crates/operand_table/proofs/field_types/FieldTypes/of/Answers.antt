use Rattle.std.proofs.Common.{◌-◌, slice_get, ◌∙◌, ap}
use Rattle.std.specs.Option.{option_flatten}
use Rattle.operand_table.specs.FieldTypes.{field_type}
use Rattle.operand_table.proofs.FieldLaws.{at_number}
use Rattle.operand_table.proofs.field_types.FieldTypes.of.Goals as goal

pub returns : goal.returns
returns c = λ p are text is.
    let at = at_number (field_type p.units) p.texts text c.args.descriptor is c.requires in
    c.type_at.ensures ∙ ap (λ xs. option_flatten (slice_get xs (c.args.descriptor - 1))) c.deref.ensures.value ∙ ap (λ xs. option_flatten (slice_get xs (c.args.descriptor - 1))) are.are ∙ ap option_flatten at
