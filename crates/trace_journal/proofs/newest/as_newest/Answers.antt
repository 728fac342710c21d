use Rattle.std.proofs.Common.{List, ℕ, ◌<◌, Ok, refl, subst, arith}
use Rattle.trace_journal.specs.declared.item.JournalItem.{JournalItem}
use Rattle.trace_journal.specs.declared.item.TheConstants.{LARGEST}
use Rattle.trace_journal.specs.Reading.{IsRead}
use Rattle.trace_journal.proofs.NewestLemmas.{has_version, newest}
use Rattle.trace_journal.proofs.newest.as_newest.Goals as goal

pub index_mut-requires : goal.index_mut-requires
index_mut-requires c =
    let As : List ℕ → Type 0 = λ text. (items : List JournalItem) × IsRead LARGEST text (Ok (record { version = c.in_ok-read_through.field-0; items = items })) in
    let long = has_version c.args.text.items c.in_ok-read_through.field-0 (subst As c.deref.ensures.value c.in_ok-read_through.ensures.ok) in
    let known = c.args.text.ok in
    omega (arith, long, known)

pub returns-clause-ok : goal.returns-clause-ok
returns-clause-ok c =
    let As : List ℕ → Type 0 = λ text. (items : List JournalItem) × IsRead LARGEST text (Ok (record { version = c.in_ok-read_through.field-0; items = items })) in
    newest c.args.text.items c.in_ok-read_through.field-0 _ (subst As c.deref.ensures.value c.in_ok-read_through.ensures.ok) refl
