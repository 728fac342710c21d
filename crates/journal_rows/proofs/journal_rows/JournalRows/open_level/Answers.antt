use Rattle.std.proofs.Common.{◌∷◌, [], ◌++◌, ◌∙◌, ap}
use Rattle.journal_rows.proofs.ListLemmas.{there, ok_gives, err_gives}
use Rattle.journal_rows.proofs.RowLemmas.{opened_parts, same_parts}
use Rattle.journal_rows.proofs.journal_rows.JournalRows.open_level.Goals as goal

pub returns-clause-ok : goal.returns-clause-ok
returns-clause-ok c = ok_gives c.open.result _ _ (λ more s are. opened_parts c.args.self.now.items.items c.args.self.now.left.items c.args.self.now.threads.items s are c.args.thread c.index_mut.result.now c.open.new.self
    (there c.args.self.now.threads.items 256 c.args.thread c.index_mut.result.now c.args.self.now.whole c.ranges.thread.fits c.index_mut.ensures.value)
    (more ∙ ap (λ n. c.index_mut.result.now.opened.items ++ n ∷ []) (c.in_ok-number.ensures ∙ c.len.ensures ∙ c.args.self.now.items.ok.0)) c.open.ensures.back c.open.ensures.events) c.open.ensures.ok

pub returns-clause-err : goal.returns-clause-err
returns-clause-err c = err_gives c.open.result _ _ (λ same s are. same_parts c.args.self.now.items.items c.args.self.now.left.items c.args.self.now.threads.items s are c.args.thread c.index_mut.result.now c.open.new.self
    (there c.args.self.now.threads.items 256 c.args.thread c.index_mut.result.now c.args.self.now.whole c.ranges.thread.fits c.index_mut.ensures.value)
    same c.open.ensures.events c.open.ensures.back) c.open.ensures.err
