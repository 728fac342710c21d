use Rattle.std.proofs.Common.{length}
use Rattle.std.specs.Prelude.{string_bytes}
use Rattle.class_names.proofs.TextLaws.{TextSoFar}
use Rattle.class_names.proofs.modified_utf8.decode_text.Given as goal

abbrev pub invariant-loop-character : goal.invariant-loop-character
invariant-loop-character l = TextSoFar l.bytes l.rest (string_bytes l.text)

abbrev pub decreases-loop-character : goal.decreases-loop-character
decreases-loop-character l = length l.rest
