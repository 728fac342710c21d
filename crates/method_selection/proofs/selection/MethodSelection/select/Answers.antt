use Rattle.std.proofs.Common.{sym, ◌∙◌, ap}
use Rattle.method_selection.specs.Entries.{entry_in}
use Rattle.method_selection.specs.Numbers.{id_numbered}
use Rattle.method_selection.specs.Rows.{row_number}
use Rattle.method_selection.proofs.SelectionLaws.{selects, no_entry, private_entry, open_entry}
use Rattle.method_selection.proofs.selection.MethodSelection.select.Goals as goal

pub returns-in_err-entry : goal.returns-in_err-entry
returns-in_err-entry c = λ us k is le begins.
    let s = c.args.self.now in
    let entry = ap (λ es. entry_in es c.args.method) (sym c.deref.ensures.value) ∙ sym c.entry_at.ensures ∙ c.in_err-entry.was in
    c.from_residual.ensures ∙ sym (no_entry s c.args.start c.args.method entry) ∙ selects us s c.args.start k c.args.method is le begins

pub returns-then-has : goal.returns-then-has
returns-then-has c = λ us k is le begins.
    let s = c.args.self.now in
    let entry = ap (λ es. entry_in es c.args.method) (sym c.deref.ensures.value) ∙ sym c.entry_at.ensures ∙ c.in_ok-entry.was in
    sym (private_entry s c.args.start c.args.method c.in_ok-entry.entry entry (sym c.has.ensures ∙ c.if-has.true)) ∙ selects us s c.args.start k c.args.method is le begins

pub returns : goal.returns
returns c = λ us k is le begins.
    let s = c.args.self.now in
    let entry = ap (λ es. entry_in es c.args.method) (sym c.deref.ensures.value) ∙ sym c.entry_at.ensures ∙ c.in_ok-entry.was in
    let number = c.number_selected-number.ensures ∙ ap (λ rows. row_number rows c.args.start c.in_ok-entry.entry.signature) c.deref-2.ensures.value in
    c.id_at.ensures ∙ ap (λ ids. id_numbered ids c.number_selected-number.result) c.deref-3.ensures.value ∙ ap (id_numbered s.ids.items) number
    ∙ sym (open_entry s c.args.start c.args.method c.in_ok-entry.entry entry (sym c.has.ensures ∙ c.if-has.false)) ∙ selects us s c.args.start k c.args.method is le begins
