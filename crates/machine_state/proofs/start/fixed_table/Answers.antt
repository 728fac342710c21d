use Rattle.std.proofs.Common.{◌≡◌, Some, length, take, ap, ◌∙◌, arith}
use Rattle.std.proofs.Math.Seq.{take-length}
use Rattle.std.specs.Option.{option_map}
use Rattle.op_core.specs.OrdinaryState.{set_at}
use Rattle.machine_tables.specs.declared.objects.MonitorState.TheVariants.{Free}
use Rattle.fixed_objects.specs.declared.FixedObject.{FixedObject}
use Rattle.machine_tables.specs.Tables.{object_at}
use Rattle.fixed_objects.specs.Fixed.{fixed_at}
use Rattle.machine_state.specs.Start.{heap_object}
use Rattle.machine_state.proofs.StartLemmas.{fixed_next}
use Rattle.machine_state.proofs.start.fixed_table.Goals as goal

pub loop-object-preserved : goal.loop-object-preserved
loop-object-preserved c =
    let before = object_at c.loop-object.table in
    let item : FixedObject = c.object-item.result in
    let put = ap (λ words. set_at before item.reference (Some (record { class = item.class; length = item.length; words = words; monitor = Free; started = item.started }))) (c.in_ok-copy_of.ensures ∙ c.as_slice.ensures) in
    fixed_next c.args.objects.now c.loop-object.object-index item before (object_at c.insert.new.self) c.loop-object-test.true c.loop-object.invariant
    (c.in_ok-insert.ensures.ok ∙ put ∙ ap (λ (x : FixedObject). set_at before x.reference (Some (heap_object x))) c.object-item.is)

pub returns : goal.returns
returns c =
    let objects = c.args.objects.now in
    let all : c.loop-object.object-index ≡ length objects = omega arith in
    c.loop-object.invariant ∙ ap (λ xs r. option_map heap_object (fixed_at xs r)) (ap (λ n. take n objects) all ∙ take-length objects)
