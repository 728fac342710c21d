use Rattle.std.proofs.Common.{Result, Ok, Err, [], ◌∷◌, ◌++◌, subst, sym}
use Rattle.std.specs.Prelude.{OnOk}
use Rattle.epoch_host.specs.Work.{AreSameThreads}
use Rattle.epoch_host.proofs.Chunking.{parted_first, parted_second}
use Rattle.epoch_host.proofs.chunks.put_apart.Goals as goal

on_ok : {A E P Q : Type 0} (r : Result A E) → OnOk r P → (P → Q) → OnOk r Q
on_ok (Ok x) p more = more p
on_ok (Err e) p more = tt

pub returns-then-is_over : goal.returns-then-is_over
returns-then-is_over g c = on_ok c.push.result c.push.ensures (λ pushed threads same.
    subst (λ xs. AreSameThreads (threads ++ c.args.seated ∷ []) (xs ++ c.args.live.now.items)) (sym pushed) (parted_first threads c.args.over.now.items c.args.live.now.items c.args.seated same))

pub returns : goal.returns
returns g c = on_ok c.push-2.result c.push-2.ensures (λ pushed threads same.
    subst (λ xs. AreSameThreads (threads ++ c.args.seated ∷ []) (c.args.over.now.items ++ xs)) (sym pushed) (parted_second threads c.args.over.now.items c.args.live.now.items c.args.seated same))
