use Rattle.std.proofs.Common.{◌≡◌, take}
use Rattle.link_rules.specs.FixedObjects.{class_object_at_start}
use Rattle.link_rules.specs.Names.{program_names}
use Rattle.java_machine.proofs.objects.class_words.Given as goal

abbrev pub invariant-loop-place : goal.invariant-loop-place
invariant-loop-place l = l.words ≡ take l.place (class_object_at_start (program_names l.world) l.world l.class).words
