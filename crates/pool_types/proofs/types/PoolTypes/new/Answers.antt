use Rattle.std.proofs.Common.{◌∙◌, ap, length, map, refl}
use Rattle.std.proofs.lemmas.List.{take_all}
use Rattle.std.proofs.lemmas.Option.{slice_get_read}
use Rattle.code_decode.specs.declared.code.ClassUnit.{ClassUnit}
use Rattle.link_rules.specs.Names.{program_names}
use Rattle.pool_types.specs.Types.{text_types, entry_types}
use Rattle.pool_types.proofs.TypeLaws.{rows_more}
use Rattle.pool_types.proofs.types.PoolTypes.new.Goals as goal

pub loop-unit-preserved : goal.loop-unit-preserved
loop-unit-preserved c =
    let us = c.units-units.result.now in
    let u = c.unit-item.result in
    let at = slice_get_read us (length us) c.loop-unit.unit-index u refl c.loop-unit-test.true c.unit-item.is in
    rows_more (program_names c.args.types.now) us c.loop-unit.unit-index u c.loop-unit.rows.items c.push.new.self.items c.in_ok-class_types.field-0 at c.loop-unit.invariant
    (c.in_ok-class_types.ensures ∙ ap (λ pool. entry_types (text_types (program_names c.args.types.now) pool) pool) c.as_slice.ensures)
    c.in_ok-push.ensures.items

pub returns : goal.returns
returns c =
    record {
      rows_are = c.loop-unit.invariant
          ∙ ap (map (λ (x : ClassUnit). entry_types (text_types (program_names c.args.types.now) x.file.pool) x.file.pool))
          (take_all c.loop-unit.unit-index c.units-units.result.now c.loop-unit-test.false ∙ c.units-units.ensures);
    }
