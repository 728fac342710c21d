use Rattle.builtin_world.proofs.LawLemmas.{native_at-member_of}
use Rattle.builtin_world.proofs.laws.natives_are_used.Goals as goal

pub returns : goal.returns
returns c = native_at-member_of c.args.native
