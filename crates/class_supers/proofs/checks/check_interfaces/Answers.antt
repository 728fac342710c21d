use Rattle.class_supers.proofs.InterfaceLaws.{as_many, are_there}
use Rattle.class_supers.proofs.checks.check_interfaces.Goals as goal

pub check_numbers-requires : goal.check_numbers-requires
check_numbers-requires c = as_many c.args.supers.now c.args.place c.args.unit.now c.requires.there c.number_of_file.result c.number_of_file.ensures c.interfaces-numbers.result.now c.interfaces-numbers.ensures c.as_slice.result.now c.as_slice.ensures

pub returns : goal.returns
returns c = are_there c.args.supers.now c.args.place c.args.unit.now c.requires.there c.number_of_file.result c.number_of_file.ensures c.interfaces-numbers.result.now c.interfaces-numbers.ensures c.as_slice.result.now c.as_slice.ensures c.check_numbers.result c.check_numbers.ensures
