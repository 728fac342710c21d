use Rattle.std.proofs.Common.{◌∙◌, slice_get}
use Rattle.class_pool.specs.Lookup.{utf8_of}
use Rattle.member_rules.proofs.FieldLaws.{float_is, float_none}
use Rattle.member_rules.proofs.fields.has_float_at.Goals as goal

pub returns-then-number-eq0 : goal.returns-then-number-eq0
returns-then-number-eq0 c = λ u there.
    float_none c.args.texts.now.texts (utf8_of (slice_get u.file.pool c.args.index)) c.at-number.result (c.at-number.ensures.number u there) c.if-number-eq0.true (c.at-number.ensures.known u there)

pub returns : goal.returns
returns c = λ u there.
    c.is_float_text.ensures
    ∙ float_is c.args.texts.now.texts c.args.floats.now (utf8_of (slice_get u.file.pool c.args.index)) c.at-number.result c.requires (c.at-number.ensures.number u there) c.if-number-eq0.false
