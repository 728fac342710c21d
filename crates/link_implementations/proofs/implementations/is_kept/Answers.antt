use Rattle.std.proofs.Common.{sym}
use Rattle.link_implementations.proofs.TestedLaws.{numbers_of_first}
use Rattle.link_implementations.proofs.implementations.is_kept.Goals as goal

pub returns-then-knows-clause-answer : goal.returns-then-knows-clause-answer
returns-then-knows-clause-answer c = λ m are.
    let p = c.args.lookup.now in
    sym (c.knows.ensures c.if-knows.true p c.requires.memo m (numbers_of_first p m c.args.methods.now c.in-Some.first.now are c.in-Some.ensures))
