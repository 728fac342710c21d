use Rattle.std.proofs.Common.{◌≡◌, map, take}
use Rattle.class_supers.specs.Numbers.{number_named}
use Rattle.class_supers.specs.Headers.{text_number}
use Rattle.class_supers.proofs.headers.text_numbers.Given as goal

abbrev pub invariant-loop-constant : goal.invariant-loop-constant
invariant-loop-constant l = l.texts.items ≡ map (text_number (number_named l.numbers)) (take l.constant-index l.pool)
