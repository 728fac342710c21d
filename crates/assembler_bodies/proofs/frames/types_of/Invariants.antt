use Rattle.std.proofs.Common.{◌≡◌, drop}
use Rattle.assembler_pool.specs.Uses.{Extends}
use Rattle.assembler_bodies.specs.Making.{each_made}
use Rattle.assembler_bodies.specs.Marks.{marks_of}
use Rattle.assembler_bodies.specs.Body.{type_of}
use Rattle.assembler_bodies.proofs.EachLaws.{made_front}
use Rattle.assembler_bodies.proofs.frames.types_of.Given as goal

abbrev pub invariant-loop-item : goal.invariant-loop-item
invariant-loop-item l =
    (made_front l.types.items (each_made (type_of (marks_of l.labels)) (drop l.item-index l.items) l.pool) ≡ each_made (type_of (marks_of l.labels)) l.items l.fn.pool)
    × Extends l.fn.pool l.pool
