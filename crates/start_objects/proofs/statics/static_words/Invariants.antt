use Rattle.std.proofs.Common.{◌≡◌, map, take}
use Rattle.link_rules.specs.Names.{program_names}
use Rattle.link_rules.specs.FixedObjects.{class_words_of_unit}
use Rattle.start_objects.proofs.statics.static_words.Given as goal

abbrev pub invariant-loop-file : goal.invariant-loop-file
invariant-loop-file l = l.words.items ≡ map (class_words_of_unit (program_names l.units)) (take l.file l.units)
