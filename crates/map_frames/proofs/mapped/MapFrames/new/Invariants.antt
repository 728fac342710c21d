use Rattle.type_rules.specs.MapFrames.{item_type}
use Rattle.map_frames.proofs.MadeLaws.{Making}
use Rattle.map_frames.proofs.mapped.MapFrames.new.Given as goal

abbrev pub invariant-loop-frame : goal.invariant-loop-frame
invariant-loop-frame g l = Making l.fn.stores l.stores l.locals l.made.items (item_type (g.P.PoolOperands.operands l.pool) l.entry.words.items) l.entry.constructs l.entry.values.items l.frames l.frame-index
