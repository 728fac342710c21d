use Rattle.std.proofs.Common.{◌≡◌, take}
use Rattle.trace_journal.specs.Text.{events_in, undos_in}
use Rattle.journal_rows.specs.Rows.{flag_at}
use Rattle.journal_rows.specs.Told.{kept_items}
use Rattle.journal_rows.proofs.journal_rows.JournalRows.finish.Given as goal

abbrev pub invariant-loop-number : goal.invariant-loop-number
invariant-loop-number l = record {
  events : l.events.items ≡ events_in (kept_items 0 (flag_at l.self.left.items) (take l.number l.self.items.items));
  undos : l.undos.items ≡ undos_in 0 (kept_items 0 (flag_at l.self.left.items) (take l.number l.self.items.items));
}
