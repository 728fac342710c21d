use Rattle.std.proofs.Common.{sym, ◌∙◌, ap}
use Rattle.std.proofs.lemmas.List.{drop_all}
use Rattle.class_names.specs.Reading.{spells_class_name}
use Rattle.class_names.proofs.NameLaws.{spells_byte, spells_slash, spells_no_slash, spells_empty_part}
use Rattle.class_names.proofs.names.is_spelled_class_name.Goals as goal
use Rattle.class_names.proofs.names.is_spelled_class_name.Goals.{else-byte-eq47-via-then-byte-eq47+else-part_begun, else-byte-eq47-via-else-byte-eq47, then-is_name_byte, else-is_name_byte+then-byte-eq47+then-part_begun}

pub returns-else-byte-eq47 : goal.returns-else-byte-eq47
returns-else-byte-eq47 c =
    elim c.else-byte-eq47.branch [
      | else-byte-eq47-via-then-byte-eq47+else-part_begun w ↦
          spells_empty_part c.loop-byte.part_begun c.args.bytes.now c.loop-byte.byte-index _ c.loop-byte-test.true c.loop-byte.invariant (sym c.is_name_byte.ensures ∙ c.if-is_name_byte.false) w.if-byte-eq47.true w.if-part_begun.false
      | else-byte-eq47-via-else-byte-eq47 w ↦
          spells_no_slash c.loop-byte.part_begun c.args.bytes.now c.loop-byte.byte-index _ c.loop-byte-test.true c.loop-byte.invariant (sym c.is_name_byte.ensures ∙ c.if-is_name_byte.false) w.if-byte-eq47.false
    ]

pub loop-byte-preserved : goal.loop-byte-preserved
loop-byte-preserved c =
    elim c.if-is_name_byte.branch [
      | then-is_name_byte w ↦
          rw w.part_begun-is (spells_byte c.loop-byte.part_begun c.args.bytes.now c.loop-byte.byte-index _ c.loop-byte-test.true c.loop-byte.invariant (sym c.is_name_byte.ensures ∙ w.if-is_name_byte.true))
      | else-is_name_byte+then-byte-eq47+then-part_begun w ↦
          rw w.part_begun-is (spells_slash c.loop-byte.part_begun c.args.bytes.now c.loop-byte.byte-index _ c.loop-byte-test.true c.loop-byte.invariant (sym c.is_name_byte.ensures ∙ w.if-is_name_byte.false) w.if-byte-eq47.true w.if-part_begun.true)
    ]

pub returns : goal.returns
unfolding spells_class_name
returns c = let end = drop_all c.loop-byte.byte-index c.args.bytes.now c.loop-byte-test.false in sym (ap (spells_class_name c.loop-byte.part_begun) end) ∙ c.loop-byte.invariant
