use Rattle.std.proofs.Common.{◌≡◌, ◌∙◌, List, [], ◌++◌, sym, ap, subst, take-append-drop, Err}
use Rattle.trace_journal.specs.declared.item.JournalItem.{JournalItem}
use Rattle.trace_journal.specs.Reader.{Feeds}
use Rattle.trace_journal.proofs.NewestLemmas.{nothing_read, piece_read, no_rest, all_read, all_wrong}
use Rattle.trace_journal.specs.declared.item.JournalFault.{JournalFault}
use Rattle.trace_journal.specs.declared.item.TheConstants.{LARGEST}
use Rattle.trace_journal.specs.Reading.{IsRead}
use Rattle.trace_journal.proofs.newest.read_through.Goals as goal

pub loop-rest-init : goal.loop-rest-init
loop-rest-init c = nothing_read c.new-reader.result c.args.text.now c.new-reader.ensures.reads

pub loop-rest-preserved : goal.loop-rest-preserved
loop-rest-preserved c =
    let front = c.split_at.result.0.now in
    let back = c.split_at.result.1.now in
    let parts : c.loop-rest.rest.now ≡ front ++ back = sym (take-append-drop _ c.loop-rest.rest.now) ∙ (λ i. sym c.split_at.ensures.front i ++ sym c.split_at.ensures.back i) in
    piece_read c.loop-rest.reader c.feed.new.self c.args.text.now c.loop-rest.rest.now front back c.feed.new.items.items c.loop-rest.invariant parts
    (subst (λ (before : List JournalItem). Feeds c.loop-rest.reader c.feed.new.self front before c.feed.new.items.items) c.new-items.ensures.items c.in_ok-feed.ensures)

pub returns-in-Ok-clause-ok : goal.returns-in-Ok-clause-ok
returns-in-Ok-clause-ok c =
    all_read c.loop-rest.reader c.args.text.now c.loop-rest.rest.now c.in-Ok.version c.loop-rest.invariant (no_rest c.loop-rest.rest.now c.is_empty.result c.is_empty.ensures c.loop-rest-test.false) c.in-Ok.ensures

pub returns-in-Err-clause-err : goal.returns-in-Err-clause-err
returns-in-Err-clause-err c fault is =
    let same : c.in-Err.fault ≡ fault = cc in
    subst (λ (f : JournalFault). IsRead LARGEST c.args.text.now (Err f)) same
    (all_wrong c.loop-rest.reader c.args.text.now c.loop-rest.rest.now c.in-Err.fault c.loop-rest.invariant (no_rest c.loop-rest.rest.now c.is_empty.result c.is_empty.ensures c.loop-rest-test.false) c.in-Err.ensures)
