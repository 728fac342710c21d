use Rattle.std.proofs.Common.{refl, ap, ◌∙◌}
use Rattle.std.specs.Option.{option_map}
use Rattle.fixed_objects.specs.Fixed.{fixed_at}
use Rattle.fixed_objects.specs.Opening.{class_at_start}
use Rattle.machine_state.specs.Start.{heap_object}
use Rattle.machine_state.proofs.StartLemmas.{started}
use Rattle.machine_state.proofs.state.MachineState.start.Goals as goal

pub returns : goal.returns
returns g c =
    started g.C.ThreadCode.state
    (record { alloc = c.args.alloc; objects = c.in_ok-fixed_table.field-0; classes = c.in_ok-ready_classes.field-0; threads = c.in_ok-main_thread.field-0; lines = c.new.result; first = c.args.opening.now.first; taken = 0 })
    c.args.opening.now c.args.code
    (c.in_ok-fixed_table.ensures ∙ ap (λ xs r. option_map heap_object (fixed_at xs r)) c.as_slice.ensures)
    (c.in_ok-ready_classes.ensures ∙ ap class_at_start c.as_slice-2.ensures) c.in_ok-main_thread.ensures c.new.ensures refl refl
