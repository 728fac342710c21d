use Rattle.std.proofs.Common.{◌∷◌, [], ◌++◌, ◌+◌, true, slice_get, slice_set, sym, ◌∙◌, ap}
use Rattle.trace_journal.specs.declared.item.JournalItem.TheVariants.{Undone}
use Rattle.journal_rows.specs.Leaving.{marked_since}
use Rattle.journal_rows.specs.Told.{with_levels_out}
use Rattle.journal_rows.proofs.ListLemmas.{there, parts_are, set_again, hit}
use Rattle.journal_rows.proofs.RowLemmas.{out_parts, undoing_parts}
use Rattle.journal_rows.proofs.journal_rows.JournalRows.undo_levels.Goals as goal

pub returns-clause-ok : goal.returns-clause-ok
returns-clause-ok c = λ s are.
    let items = c.reserve.new.self.items.items in
    let rows = c.reserve.new.self.threads.items in
    let x = c.index_mut-undone.result.now in
    let y = c.leave_out.new.thread in
    let marks = marked_since (slice_get x.opened.items c.args.outermost) x.events c.reserve.new.self.left.items in
    let at = there rows 256 c.args.thread x c.reserve.new.self.whole c.ranges.thread.fits c.index_mut-undone.ensures.value in
    let same = parts_are c.args.self.now.items.items items c.args.self.now.left.items c.reserve.new.self.left.items c.args.self.now.threads.items rows s
    c.reserve.ensures.items c.reserve.ensures.left (ap (λ v. v.items) c.reserve.ensures.threads) are in
    let out = out_parts items c.reserve.new.self.left.items rows s same c.args.thread c.args.outermost x y at c.leave_out.ensures.opened c.leave_out.ensures.back c.leave_out.ensures.events in
    let undone = undoing_parts items marks (slice_set rows c.args.thread y) (with_levels_out c.args.thread c.args.outermost s) out c.args.thread c.args.outermost y c.take_words-words.new.self
    (hit rows 256 c.args.thread y c.reserve.new.self.whole c.ranges.thread.fits) c.take_words-words.ensures.opened c.take_words-words.ensures.events c.take_words-words.ensures.back in
    parts_are (items ++ Undone c.args.thread (c.args.outermost + 1) y.back ∷ []) c.push.new.self.items.items (marks ++ true ∷ []) c.push.new.self.left.items
    (slice_set (slice_set rows c.args.thread y) c.args.thread c.take_words-words.new.self) c.push.new.self.threads.items _
    (c.push.ensures.items ∙ ap (λ n. items ++ Undone c.args.thread (c.args.outermost + 1) n ∷ []) c.take_words-words.ensures.result)
    (c.push.ensures.left ∙ ap (λ xs. xs ++ true ∷ []) c.leave_out.ensures.left)
    (ap (λ v. v.items) c.push.ensures.threads ∙ sym (set_again rows c.args.thread y c.take_words-words.new.self)) undone
