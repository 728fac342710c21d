use Rattle.std.proofs.Common.{arith, refl}
use Rattle.std.proofs.Math.Path.{fun_ext}
use Rattle.type_lists.proofs.StoreLaws.{is_kept, top_at}
use Rattle.type_lists.proofs.store.WordStore.tops.Goals as goal

pub returns-clause-kept : goal.returns-clause-kept
returns-clause-kept c = is_kept c.args.self.now _ (omega arith)

pub returns-clause-words : goal.returns-clause-words
returns-clause-words c = fun_ext (λ n. top_at c.args.self.now _ n refl)
