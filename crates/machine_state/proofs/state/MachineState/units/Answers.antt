use Rattle.std.proofs.Common.{sym, ◌∙◌, ap}
use Rattle.std.specs.Option.{option_copied}
use Rattle.machine_tables.specs.Tables.{object_at}
use Rattle.machine_state.proofs.UnitLemmas.{object_units}
use Rattle.machine_state.proofs.state.MachineState.units.Goals as goal

pub returns-in_ok-units-in-Some : goal.returns-in_ok-units-in-Some
returns-in_ok-units-in-Some g c =
    object_units (object_at c.args.self.now.objects) c.args.reference c.in-Some.object.now c.in_ok-units-in-Some.field-0 (sym c.get.ensures ∙ ap option_copied c.in-Some.is) c.in_ok-units-in-Some.ensures
