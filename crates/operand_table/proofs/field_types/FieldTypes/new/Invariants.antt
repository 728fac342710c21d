use Rattle.std.proofs.Common.{◌≡◌, map, take}
use Rattle.operand_table.specs.FieldTypes.{field_type}
use Rattle.operand_table.proofs.field_types.FieldTypes.new.Given as goal

abbrev pub invariant-loop-text : goal.invariant-loop-text
invariant-loop-text l = l.of_texts.items ≡ map (λ t. field_type l.types t.now) (take l.text-index l.text-items)
