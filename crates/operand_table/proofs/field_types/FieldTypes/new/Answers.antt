use Rattle.std.proofs.Common.{List, map, sym, ◌∙◌, ap}
use Rattle.std.proofs.lemmas.List.{take_all}
use Rattle.std.proofs.lemmas.Simd.{map-map}
use Rattle.code_decode.specs.declared.code.ClassUnit.{ClassUnit}
use Rattle.operand_table.specs.FieldTypes.{field_type}
use Rattle.operand_table.proofs.field_types.FieldTypes.new.Goals as goal

pub returns : goal.returns
returns c =
    let items = c.all-text-items.result.now in
    let us : List ClassUnit = c.args.texts.now.units in
    record {
      are = c.loop-text.invariant ∙ ap (λ x. map (λ t. field_type x t.now) (Rattle.std.proofs.Common.take c.loop-text.text-index items)) c.requires
          ∙ ap (map (λ t. field_type us t.now)) (take_all c.loop-text.text-index items c.loop-text-test.false)
          ∙ sym (map-map (field_type us) (λ t. t.now) items) ∙ ap (map (field_type us)) c.all-text-items.ensures;
    }
