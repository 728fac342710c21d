use Rattle.std.proofs.Common.{refl}
use Rattle.journal_rows.proofs.ListLemmas.{there, ok_gives, err_gives}
use Rattle.journal_rows.proofs.journal_rows.JournalRows.note.Goals as goal

pub returns-clause-ok : goal.returns-clause-ok
returns-clause-ok c = ok_gives c.note.result _ _ (λ noted. record {
  before = c.index_mut.result.now;
  after = c.note.new.self;
  at = there c.args.self.now.threads.items 256 c.args.thread c.index_mut.result.now c.args.self.now.whole c.ranges.thread.fits c.index_mut.ensures.value;
  put = refl;
  so = record { opened = c.note.ensures.opened; back = c.note.ensures.back; events = noted };
}) c.note.ensures.ok

pub returns-clause-err : goal.returns-clause-err
returns-clause-err c = err_gives c.note.result _ _ (λ same. record {
  before = c.index_mut.result.now;
  after = c.note.new.self;
  at = there c.args.self.now.threads.items 256 c.args.thread c.index_mut.result.now c.args.self.now.whole c.ranges.thread.fits c.index_mut.ensures.value;
  put = refl;
  so = record { opened = c.note.ensures.opened; back = c.note.ensures.back; events = same };
}) c.note.ensures.err
