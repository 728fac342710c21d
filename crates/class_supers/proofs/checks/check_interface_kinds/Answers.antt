use Rattle.class_supers.proofs.InterfaceLaws.{as_many, are_interfaces}
use Rattle.class_supers.proofs.checks.check_interface_kinds.Goals as goal

pub check_kinds-requires : goal.check_kinds-requires
check_kinds-requires c = as_many c.args.supers.now c.args.place c.args.unit.now c.requires.there c.number_of_file.result c.number_of_file.ensures c.interfaces-numbers.result.now c.interfaces-numbers.ensures c.as_slice.result.now c.as_slice.ensures

pub returns : goal.returns
returns c = are_interfaces c.args.supers.now c.args.place c.args.unit.now c.requires.there c.number_of_file.result c.number_of_file.ensures c.interfaces-numbers.result.now c.interfaces-numbers.ensures c.as_slice.result.now c.as_slice.ensures c.check_kinds.result c.check_kinds.ensures
