use Rattle.link_rules.specs.Names.{program_names}
use Rattle.array_kinds.proofs.Names.{type_spells}
use Rattle.array_classes.proofs.classes.ArrayClasses.number.Goals as goal

pub returns : goal.returns
returns c = λ us arrays name typed. c.number.ensures us name arrays.are (type_spells (program_names us) name c.args.dimensions c.args.base typed)
