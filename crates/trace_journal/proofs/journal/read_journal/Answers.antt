use Rattle.std.proofs.Common.{◌≡◌, ◌≤◌, length, subst, sym}
use Rattle.std.specs.List.{AllByRecursion}
use Rattle.trace_journal.specs.Spelling.{IsItem}
use Rattle.trace_journal.specs.declared.item.TheConstants.{LARGEST}
use Rattle.trace_journal.proofs.LawLemmas.{few_items, readings_are_journals}
use Rattle.trace_journal.proofs.journal.read_journal.Goals as goal

pub journal_of-requires-clause-few : goal.journal_of-requires-clause-few
journal_of-requires-clause-few c = subst (λ items. length items ≤ 4194304) (sym c.deref.ensures.value) (few_items LARGEST c.args.text.now _ c.in_ok-read.ensures.ok)

pub journal_of-requires-clause-all : goal.journal_of-requires-clause-all
journal_of-requires-clause-all c =
    let is = readings_are_journals LARGEST c.args.text.now _ c.in_ok-read.ensures.ok in
    subst (AllByRecursion (IsItem c.in_ok-read.read.version)) (sym c.deref.ensures.value) is.2
