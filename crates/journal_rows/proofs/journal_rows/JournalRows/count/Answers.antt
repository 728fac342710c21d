use Rattle.std.proofs.Common.{length, ◌∙◌, ap}
use Rattle.journal_rows.proofs.journal_rows.JournalRows.count.Goals as goal

pub returns : goal.returns
returns c = λ s are. c.len.ensures ∙ c.args.self.now.items.ok.0 ∙ ap length are.items
