use Rattle.std.proofs.Common.{List}
use Rattle.rules.specs.Rules.{HoldBelow}
use Rattle.link_rules.specs.Classes.{NamedClass, member_of_file}
use Rattle.link_rules.specs.LinkRules.{declared_field_rules}
use Rattle.member_rules.proofs.fields.check_fields.Given as goal

abbrev pub invariant-loop-field : goal.invariant-loop-field
invariant-loop-field l = (cs : List NamedClass) → HoldBelow (λ i m. declared_field_rules cs l.place (member_of_file l.unit.file.pool m)) l.field-items l.field-index
