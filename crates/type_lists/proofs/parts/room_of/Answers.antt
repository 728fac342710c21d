use Rattle.std.proofs.Common.{◌≡◌, arith, ap}
use Rattle.type_lists.specs.Parts.{room}
use Rattle.type_lists.proofs.parts.room_of.Goals as goal

pub returns-in_default-clause-room : goal.returns-in_default-clause-room
returns-in_default-clause-room c = let e : 3 ≡ c.args.height = omega (arith, c.requires) in ap room e
