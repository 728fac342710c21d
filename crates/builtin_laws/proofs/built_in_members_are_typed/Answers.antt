use Rattle.builtin_laws.proofs.TypeLaws.{fields_are_typed, methods_are_typed}
use Rattle.builtin_laws.proofs.built_in_members_are_typed.Goals as goal

pub returns : goal.returns
returns c = record { fields = fields_are_typed; methods = methods_are_typed }
