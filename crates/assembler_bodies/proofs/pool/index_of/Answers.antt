use Rattle.assembler_bodies.specs.Operands.{item_of}
use Rattle.assembler_bodies.proofs.RoomLaws.{makes_ok, makes_full, makes_kept}
use Rattle.assembler_bodies.proofs.pool.index_of.Goals as goal

pub returns-in-Ok-clause-gives : goal.returns-in-Ok-clause-gives
returns-in-Ok-clause-gives c = makes_ok (item_of c.args.named) c.in-Ok.index c.args.pool.now c.made.new.pool c.in-Ok.ensures

pub returns-in-Ok-clause-kept : goal.returns-in-Ok-clause-kept
returns-in-Ok-clause-kept c = makes_kept (item_of c.args.named) c.in-Ok.index c.args.pool.now c.made.new.pool c.in-Ok.ensures

pub returns-in-Err-Full-clause-gives : goal.returns-in-Err-Full-clause-gives
returns-in-Err-Full-clause-gives c = makes_full (item_of c.args.named) c.args.pool.now c.made.new.pool (rw c.in-Err-Full.field-0-is at c.in-Err-Full.ensures)
