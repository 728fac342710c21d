use Rattle.std.proofs.Common.{refl}
use Rattle.journal_rows.proofs.ListLemmas.{there, parts_are}
use Rattle.journal_rows.proofs.RowLemmas.{out_parts}
use Rattle.journal_rows.proofs.journal_rows.JournalRows.leave_levels_out.Goals as goal

pub returns : goal.returns
returns c = λ s are. parts_are c.args.self.now.items.items c.args.self.now.items.items _ c.leave_out.new.left.items _ _ _ refl c.leave_out.ensures.left refl
    (out_parts c.args.self.now.items.items c.args.self.now.left.items c.args.self.now.threads.items s are c.args.thread c.args.outermost c.index_mut.result.now c.leave_out.new.thread
    (there c.args.self.now.threads.items 256 c.args.thread c.index_mut.result.now c.args.self.now.whole c.ranges.thread.fits c.index_mut.ensures.value)
    c.leave_out.ensures.opened c.leave_out.ensures.back c.leave_out.ensures.events)
