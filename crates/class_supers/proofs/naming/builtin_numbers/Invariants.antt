use Rattle.std.proofs.Common.{map, take}
use Rattle.builtin_world.specs.Library.{library}
use Rattle.link_rules.specs.Classes.{library_class}
use Rattle.class_supers.specs.Numbers.{number_named, AreNumbersOf}
use Rattle.class_supers.proofs.naming.builtin_numbers.Given as goal

abbrev pub invariant-loop-i : goal.invariant-loop-i
invariant-loop-i l = AreNumbersOf (number_named l.numbers) (map library_class (take l.i library))
