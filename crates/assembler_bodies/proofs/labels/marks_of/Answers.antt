use Rattle.assembler_bodies.proofs.MarkLaws.{marks_go_on, marks_at_end, marks_done}
use Rattle.assembler_bodies.proofs.labels.marks_of.Goals as goal

pub returns-then-is_end : goal.returns-then-is_end
returns-then-is_end c = λ q.
    marks_at_end c.args.lines.now c.loop-numbered.numbered-index c.numbered-item.result c.loop-numbered.offset q _ _ c.loop-numbered-test.true c.numbered-item.is (cc) (c.loop-numbered.invariant q)

pub loop-numbered-preserved : goal.loop-numbered-preserved
loop-numbered-preserved c = λ q.
    marks_go_on c.args.lines.now c.loop-numbered.numbered-index c.numbered-item.result c.loop-numbered.offset _ q _ _ _ c.loop-numbered-test.true c.numbered-item.is (cc) c.offset_behind-offset.ensures (c.in_ok-put_label.ensures q) (c.loop-numbered.invariant q)

pub returns : goal.returns
returns c = λ q. marks_done c.args.lines.now c.loop-numbered.numbered-index c.loop-numbered.offset q _ _ c.loop-numbered-test.false (c.loop-numbered.invariant q)
