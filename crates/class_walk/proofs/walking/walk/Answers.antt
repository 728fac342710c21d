use Rattle.std.proofs.Common.{subst, arith}
use Rattle.class_walk.specs.Reading.{Gives}
use Rattle.class_walk.proofs.ClassLaws.{walk_found, walk_again}
use Rattle.class_walk.proofs.walking.walk.Goals as goal

pub returns-clause-found : goal.returns-clause-found
returns-clause-found c = walk_found c.args.bytes.now c.whole.result (λ i. omega (arith, c.type_inv.bytes i)) c.whole.ensures.exact

pub returns-clause-only : goal.returns-clause-only
returns-clause-only c = λ class is. subst (λ read. Gives c.whole.result read) (walk_again c.args.bytes.now class is) c.whole.ensures.exact
