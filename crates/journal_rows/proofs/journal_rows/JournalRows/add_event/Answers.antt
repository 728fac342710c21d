use Rattle.std.proofs.Common.{◌∷◌, [], ◌++◌, true, length, sym, ◌∙◌, ap}
use Rattle.std.specs.Prelude.{if◌then◌else◌}
use Rattle.trace_journal.specs.declared.item.JournalItem.TheVariants.{Event as event_item}
use Rattle.journal_rows.specs.Leaving.{none_open}
use Rattle.journal_rows.proofs.ListLemmas.{err_has, parts_are}
use Rattle.journal_rows.proofs.RowLemmas.{event_parts, same_parts}
use Rattle.journal_rows.proofs.journal_rows.JournalRows.add_event.Goals as goal

pub returns-in_err-note-clause-err : goal.returns-in_err-note-clause-err
returns-in_err-note-clause-err c = err_has c.from_residual-in_err-note.result _ (λ s are.
    let told = parts_are c.args.self.now.items.items c.reserve.new.self.items.items c.args.self.now.left.items c.reserve.new.self.left.items c.args.self.now.threads.items c.reserve.new.self.threads.items s
    c.reserve.ensures.items c.reserve.ensures.left (ap (λ v. v.items) c.reserve.ensures.threads) are in
    let same = c.in_err-note.ensures.err in
    parts_are c.reserve.new.self.items.items c.note.new.self.items.items c.reserve.new.self.left.items c.note.new.self.left.items _ c.note.new.self.threads.items s
    (ap (λ v. v.items) c.note.ensures.items) (ap (λ v. v.items) c.note.ensures.left) same.put
    (same_parts c.reserve.new.self.items.items c.reserve.new.self.left.items c.reserve.new.self.threads.items s told
    c.args.event.thread same.before same.after same.at same.so.opened same.so.events same.so.back))

pub returns-clause-ok : goal.returns-clause-ok
returns-clause-ok c = λ s are.
    let told = parts_are c.args.self.now.items.items c.reserve.new.self.items.items c.args.self.now.left.items c.reserve.new.self.left.items c.args.self.now.threads.items c.reserve.new.self.threads.items s
    c.reserve.ensures.items c.reserve.ensures.left (ap (λ v. v.items) c.reserve.ensures.threads) are in
    let noted = c.in_ok-note.ensures.ok in
    parts_are (c.reserve.new.self.items.items ++ event_item c.args.event ∷ []) c.push.new.self.items.items (c.reserve.new.self.left.items ++ true ∷ []) c.push.new.self.left.items _ c.push.new.self.threads.items _
    (c.push.ensures.items ∙ ap (λ v. v.items ++ event_item c.args.event ∷ []) c.note.ensures.items) (c.push.ensures.left ∙ ap (λ v. v.items ++ true ∷ []) c.note.ensures.left)
    (ap (λ v. v.items) c.push.ensures.threads ∙ noted.put)
    (event_parts c.reserve.new.self.items.items c.reserve.new.self.left.items c.reserve.new.self.threads.items s told
    c.args.event noted.before noted.after noted.at noted.so.opened noted.so.back
    (noted.so.events ∙ ap (λ n. if none_open noted.before.opened.items then noted.before.events else n ∷ noted.before.events)
    (c.in_ok-number.ensures ∙ c.len.ensures ∙ c.args.self.now.items.ok.0 ∙ ap length (sym c.reserve.ensures.items))))
