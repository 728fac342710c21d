use Rattle.std.proofs.Common.{length, refl}
use Rattle.std.proofs.lemmas.Option.{slice_get_read}
use Rattle.string_literals.proofs.LiteralLaws.{entries_more}
use Rattle.string_literals.proofs.file.file_numbers.Goals as goal

pub loop-entry-preserved : goal.loop-entry-preserved
loop-entry-preserved c =
    let pool = c.args.pool.now in
    let entry = c.entry-item.result in
    let at = slice_get_read pool (length pool) c.loop-entry.entry-index entry refl c.loop-entry-test.true c.entry-item.is in
    entries_more c.args.known.now c.loop-entry.known c.entry_number.new.known pool c.loop-entry.entry-index entry c.in_ok-entry_number.field-0 c.loop-entry.numbers.items c.push.new.self.items c.loop-entry.by_text.items c.entry_number.new.by_text.items
    at c.loop-entry.invariant c.in_ok-entry_number.ensures.known c.in_ok-entry_number.ensures.kept c.in_ok-entry_number.ensures.number c.in_ok-push.ensures.items
