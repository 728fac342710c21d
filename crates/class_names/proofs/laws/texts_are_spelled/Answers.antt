use Rattle.class_names.proofs.UnitLaws.{text_is, units_are}
use Rattle.class_names.proofs.laws.texts_are_spelled.Goals as goal

pub returns : goal.returns
returns c = record { text = text_is; units = units_are }
