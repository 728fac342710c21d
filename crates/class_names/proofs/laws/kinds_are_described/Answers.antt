use Rattle.class_names.proofs.BytesLaws.{field_kind_is, method_kinds_are}
use Rattle.class_names.proofs.laws.kinds_are_described.Goals as goal

pub returns : goal.returns
returns c = record { field = field_kind_is; method = method_kinds_are }
