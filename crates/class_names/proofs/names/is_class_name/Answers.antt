use Rattle.class_names.proofs.NameLaws.{spells_name, name_spelled}
use Rattle.class_names.proofs.names.is_class_name.Goals as goal

pub returns : goal.returns
returns c = rw c.is_spelled_class_name.ensures (name_spelled c.args.bytes.now, spells_name c.args.bytes.now)
