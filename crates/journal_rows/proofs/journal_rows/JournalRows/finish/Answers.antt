use Rattle.std.proofs.Common.{◌<◌, ◌≤◌, ◌∷◌, [], ◌++◌, length, refl, sym, ◌∙◌, ap, subst, take}
use Rattle.trace_journal.specs.Text.{events_in, undos_in}
use Rattle.journal_rows.specs.Rows.{flag_at}
use Rattle.journal_rows.specs.Told.{kept_items}
use Rattle.journal_rows.proofs.ListLemmas.{there, first_kept_is, first_unkept, all_kept, events_more, undos_after}
use Rattle.journal_rows.proofs.journal_rows.JournalRows.finish.Goals as goal
use Rattle.journal_rows.proofs.journal_rows.JournalRows.finish.Goals.{then-is_left+in_ok-add_kept, else-is_left}

pub loop-number-preserved : goal.loop-number-preserved
loop-number-preserved c =
    let items = c.args.self.items.items in
    let flags = c.args.self.left.items in
    let k = c.loop-number.number in
    let kept = kept_items 0 (flag_at flags) (take k items) in
    let low = subst (λ n. k < n) (c.len-number-end.ensures ∙ c.args.self.items.ok.0) c.loop-number-test.true in
    let flag = ap (λ xs. flag_at xs k) (sym c.deref.ensures.value) in
    elim c.if-is_left.branch [
      | then-is_left+in_ok-add_kept w ↦
          let x = w.index.result.now in
          let same = first_kept_is flags items k x (there items (length items) k x refl low w.index.ensures) (flag ∙ sym w.if-is_left.ensures) in record {
            events = ap (λ v. v.items) w.events-is ∙ w.in_ok-add_kept.ensures.events ∙ ap (λ es. es ++ events_in (x ∷ [])) c.loop-number.invariant.events ∙ sym (events_more kept (x ∷ [])) ∙ ap events_in (sym same);
            undos = ap (λ v. v.items) w.undos-is ∙ w.in_ok-add_kept.ensures.undos ∙ undos_after c.loop-number.events.items c.loop-number.undos.items kept x c.loop-number.invariant.events c.loop-number.invariant.undos ∙ ap (undos_in 0) (sym same);
          }
      | else-is_left w ↦ let same = first_unkept flags items k low (flag ∙ sym w.if-is_left.ensures) in record {
        events = ap (λ v. v.items) w.events-is ∙ c.loop-number.invariant.events ∙ ap events_in (sym same);
        undos = ap (λ v. v.items) w.undos-is ∙ c.loop-number.invariant.undos ∙ ap (undos_in 0) (sym same);
      }
    ]

pub returns-clause-events : goal.returns-clause-events
returns-clause-events c = λ s are. c.from_vec.ensures ∙ c.loop-number.invariant.events
    ∙ ap events_in (all_kept c.args.self.items.items c.args.self.left.items c.args.self.threads.items s c.loop-number.number (subst (λ n. n ≤ c.loop-number.number) (c.len-number-end.ensures ∙ c.args.self.items.ok.0) c.loop-number-test.false) are)

pub returns-clause-undos : goal.returns-clause-undos
returns-clause-undos c = λ s are. c.from_vec-2.ensures ∙ c.loop-number.invariant.undos
    ∙ ap (undos_in 0) (all_kept c.args.self.items.items c.args.self.left.items c.args.self.threads.items s c.loop-number.number (subst (λ n. n ≤ c.loop-number.number) (c.len-number-end.ensures ∙ c.args.self.items.ok.0) c.loop-number-test.false) are)
