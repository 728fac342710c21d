use Rattle.std.specs.Prelude.{string_bytes}
use Rattle.class_names.proofs.TextLaws.{text_more, text_found, text_only, character_shorter}
use Rattle.class_names.proofs.modified_utf8.decode_text.Goals as goal

pub loop-character-smaller : goal.loop-character-smaller
loop-character-smaller c = character_shorter c.loop-character.rest.now c.in-Some.character c.in-Some.after.now c.in-Some.ensures

pub loop-character-preserved : goal.loop-character-preserved
loop-character-preserved c =
    rw c.in_ok-push.ensures.bytes (text_more c.args.bytes.now c.loop-character.rest.now (string_bytes c.loop-character.text) c.in-Some.character c.in-Some.after.now c.loop-character.invariant c.in-Some.ensures)

pub returns-clause-found : goal.returns-clause-found
returns-clause-found c =
    rw c.from_string.ensures (text_found c.args.bytes.now c.loop-character.rest.now (string_bytes c.loop-character.text) c.loop-character.invariant c.in_default.ensures c.requires)

pub returns-clause-only : goal.returns-clause-only
returns-clause-only c text is =
    rw c.from_string.ensures (text_only c.args.bytes.now c.loop-character.rest.now (string_bytes c.loop-character.text) text c.loop-character.invariant c.in_default.ensures is)
