use Rattle.code_decode.proofs.MethodLaws.{with_entry}
use Rattle.code_decode.proofs.method.method_code.Goals as goal

pub returns : goal.returns
returns c = with_entry c.args.pool.now c.args.method.now c.args.attribute.now c.entry_count-entry.result c.code.result c.entry_count-entry.ensures c.code.ensures
