use Rattle.std.proofs.Common.{rules}
use Rattle.builtin_world.specs.Library.{library}
use Rattle.builtin_world.specs.BuiltinClass.{rows}
use Rattle.builtin_world.proofs.builtins.Goals as goal

pub returns : goal.returns
unfolding rows library
returns c = search rules
