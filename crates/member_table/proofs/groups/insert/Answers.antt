use Rattle.member_table.proofs.GroupLaws.{inserted}
use Rattle.member_table.proofs.groups.insert.Goals as goal

pub returns-clause-ok : goal.returns-clause-ok
returns-clause-ok c = λ n d. inserted c.args.numbers.now c.insert.new.self c.args.name c.args.descriptor c.args.number c.in_ok-insert.ensures.updates n d
