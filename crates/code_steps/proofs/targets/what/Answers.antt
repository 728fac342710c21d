use Rattle.std.proofs.Common.{rules, w32, w64}
use Rattle.std.specs.Prelude.{FitsSigned}
use Rattle.std.proofs.lemmas.Int.{to_z-of_z}
use Rattle.code_steps.proofs.targets.what.Goals as goal

pub returns-in-TableSwitch : goal.returns-in-TableSwitch
returns-in-TableSwitch c =
    let default_fits : FitsSigned w64 c.in-TableSwitch.default = search rules in
    let low_fits : FitsSigned w32 c.in-TableSwitch.low = search rules in
    rw c.in-TableSwitch.is (simp (to_z-of_z w64 c.in-TableSwitch.default default_fits, to_z-of_z w32 c.in-TableSwitch.low low_fits, c.as_slice.ensures) at c.table_switch.ensures)

pub returns-in-LookupSwitch : goal.returns-in-LookupSwitch
returns-in-LookupSwitch c =
    let default_fits : FitsSigned w64 c.in-LookupSwitch.default = search rules in
    rw c.in-LookupSwitch.is (simp (to_z-of_z w64 c.in-LookupSwitch.default default_fits, c.as_slice-in-LookupSwitch.ensures) at c.lookup_switch.ensures)
