use Rattle.stress_texts.proofs.TextLemmas.{worker_made}
use Rattle.stress_texts.proofs.texts.push_worker.Goals as goal

pub returns : goal.returns
returns c =
    worker_made c.args.number c.args.place _ _ _ _ _ c.in_ok-push_number.ensures c.in_ok-push_number-2.ensures c.in_ok-push_number-3.ensures
    c.in_ok-push_str.ensures.bytes
