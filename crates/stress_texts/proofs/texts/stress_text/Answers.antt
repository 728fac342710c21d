use Rattle.std.proofs.Common.{arith}
use Rattle.stress_texts.proofs.TextLemmas.{one_more, all_made}
use Rattle.stress_texts.proofs.texts.stress_text.Goals as goal

pub loop-place-preserved : goal.loop-place-preserved
loop-place-preserved c = one_more c.args.number c.loop-place.place _ _ c.loop-place.invariant c.in_ok-push_worker.ensures

pub returns : goal.returns
returns c = all_made c.args.number c.loop-place.place _ _ c.loop-place.invariant (omega arith) c.in_ok-push_str-2.ensures.bytes
