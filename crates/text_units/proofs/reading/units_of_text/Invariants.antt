use Rattle.std.proofs.Common.{◌≡◌, ◌++◌, IsUtf8, chars}
use Rattle.std.specs.Prelude.{flat_map}
use Rattle.std.specs.Str.Iter.{chars_rest}
use Rattle.std.specs.Char.Escape.{encode_utf16}
use Rattle.text_units.specs.Units.{units_of_text}
use Rattle.text_units.proofs.reading.units_of_text.Given as goal

abbrev pub invariant-loop-character : goal.invariant-loop-character
invariant-loop-character l = IsUtf8 (chars_rest l.character-iterator)
    × (l.units.items ++ flat_map encode_utf16 (chars (chars_rest l.character-iterator)) ≡ units_of_text l.fn.text)
