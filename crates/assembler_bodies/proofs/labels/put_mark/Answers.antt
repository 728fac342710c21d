use Rattle.assembler_bodies.proofs.MarkLaws.{mark_put, mark_stays}
use Rattle.assembler_bodies.proofs.labels.put_mark.Goals as goal

pub returns-then-contains_key : goal.returns-then-contains_key
returns-then-contains_key c = λ q. mark_stays c.args.marks.now c.args.mark c.args.name.now q cc

pub returns : goal.returns
returns c = λ q. mark_put c.args.marks.now c.insert.new.self c.in_ok-key.key c.args.mark c.args.name.now q c.in_ok-key.ensures.items (cc) c.in_ok-insert.ensures.updates
