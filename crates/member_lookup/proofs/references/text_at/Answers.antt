use Rattle.std.proofs.Common.{slice_get}
use Rattle.class_pool.specs.Lookup.{utf8_of}
use Rattle.member_lookup.proofs.ReferenceLaws.{a_text, no_text}
use Rattle.member_lookup.proofs.references.text_at.Goals as goal

pub returns-then-number-eq0-clause-number : goal.returns-then-number-eq0-clause-number
returns-then-number-eq0-clause-number c = λ u there.
    no_text c.args.texts.now.texts (utf8_of (slice_get u.file.pool c.args.index)) c.at-number.result (c.at-number.ensures.number u there) c.if-number-eq0.true (c.at-number.ensures.known u there)

pub returns-else-number-eq0-clause-number : goal.returns-else-number-eq0-clause-number
returns-else-number-eq0-clause-number c = λ u there.
    a_text c.args.texts.now.texts (utf8_of (slice_get u.file.pool c.args.index)) c.at-number.result (c.at-number.ensures.number u there) c.if-number-eq0.false
