use Rattle.std.proofs.Common.{◌≡◌, ◌++◌, length, string_bytes, encode_utf8_all}
use Rattle.class_names.specs.ModifiedUtf8.{characters}
use Rattle.text_units.specs.Units.{text_of_units}
use Rattle.text_units.proofs.writing.text_of_units.Given as goal

abbrev pub invariant-loop-character : goal.invariant-loop-character
invariant-loop-character l = string_bytes l.text ++ encode_utf8_all (characters l.rest) ≡ text_of_units l.units

abbrev pub decreases-loop-character : goal.decreases-loop-character
decreases-loop-character l = length l.rest
