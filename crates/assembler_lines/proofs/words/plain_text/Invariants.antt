use Rattle.std.proofs.Common.{◌≡◌, take}
use Rattle.class_names.specs.ShortestForms.{encoded}
use Rattle.assembler_lines.proofs.words.plain_text.Given as goal

abbrev pub invariant-loop-byte : goal.invariant-loop-byte
invariant-loop-byte l = l.text.items ≡ encoded (take l.byte-index l.word)
