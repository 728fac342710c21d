use Rattle.class_names.proofs.TextLaws.{test_more, test_answer}
use Rattle.class_names.proofs.modified_utf8.is_modified_utf8.Goals as goal

pub loop-after-preserved : goal.loop-after-preserved
loop-after-preserved c = test_more c.args.bytes.now c.loop-after.rest.now c.in-Some.field-0-0 c.in-Some.after.now c.loop-after.invariant c.in-Some.ensures

pub returns : goal.returns
returns c = test_answer c.args.bytes.now c.loop-after.rest.now c.is_empty.result c.loop-after.invariant c.in_default.ensures c.is_empty.ensures
