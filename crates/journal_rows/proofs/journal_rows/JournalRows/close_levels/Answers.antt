use Rattle.journal_rows.proofs.ListLemmas.{there}
use Rattle.journal_rows.proofs.RowLemmas.{closed_parts}
use Rattle.journal_rows.proofs.journal_rows.JournalRows.close_levels.Goals as goal

pub returns : goal.returns
returns c = λ s are. closed_parts c.args.self.now.items.items c.args.self.now.left.items c.args.self.now.threads.items s are c.args.thread c.args.outermost c.index_mut.result.now c.close_to.new.self
    (there c.args.self.now.threads.items 256 c.args.thread c.index_mut.result.now c.args.self.now.whole c.ranges.thread.fits c.index_mut.ensures.value)
    c.close_to.ensures.opened c.close_to.ensures.back c.close_to.ensures.events
