use Rattle.class_supers.specs.Numbers.{number_named}
use Rattle.class_supers.proofs.HeaderLaws.{header_of_file}
use Rattle.class_supers.proofs.headers.file_header.Goals as goal

pub returns : goal.returns
returns c = header_of_file (number_named c.args.numbers.now) c.args.unit.now c.superclass_number.result _ _ c.superclass_number.ensures c.from_vec.ensures c.in_ok-interfaces.ensures
