use Rattle.journal_rows.proofs.ListLemmas.{there, ok_gives, err_gives}
use Rattle.journal_rows.proofs.RowLemmas.{word_parts, same_parts}
use Rattle.journal_rows.proofs.journal_rows.JournalRows.put_back.Goals as goal

pub returns-clause-ok : goal.returns-clause-ok
returns-clause-ok c = ok_gives c.put_back.result _ _ (λ more s are. word_parts c.args.self.now.items.items c.args.self.now.left.items c.args.self.now.threads.items s are c.args.thread c.index_mut.result.now c.put_back.new.self
    (there c.args.self.now.threads.items 256 c.args.thread c.index_mut.result.now c.args.self.now.whole c.ranges.thread.fits c.index_mut.ensures.value)
    c.put_back.ensures.opened c.put_back.ensures.events more) c.put_back.ensures.ok

pub returns-clause-err : goal.returns-clause-err
returns-clause-err c = err_gives c.put_back.result _ _ (λ same s are. same_parts c.args.self.now.items.items c.args.self.now.left.items c.args.self.now.threads.items s are c.args.thread c.index_mut.result.now c.put_back.new.self
    (there c.args.self.now.threads.items 256 c.args.thread c.index_mut.result.now c.args.self.now.whole c.ranges.thread.fits c.index_mut.ensures.value)
    c.put_back.ensures.opened c.put_back.ensures.events same) c.put_back.ensures.err
