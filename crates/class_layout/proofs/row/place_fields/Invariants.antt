use Rattle.std.proofs.Common.{map}
use Rattle.link_rules.specs.Classes.{member_of_file}
use Rattle.class_layout.proofs.FieldLaws.{FirstArePlaced}
use Rattle.class_layout.proofs.row.place_fields.Given as goal

abbrev pub invariant-loop-field : goal.invariant-loop-field
invariant-loop-field l = FirstArePlaced (map (member_of_file l.pool) l.fields) l.inherited l.field-index l.placed
