use Rattle.std.proofs.Common.{◌≡◌, List, take, filter, flat_map}
use Rattle.class_read.specs.declared.class_file.Member.{Member}
use Rattle.code_decode.specs.declared.code.ClassUnit.{ClassUnit}
use Rattle.access_flags.specs.declared.TheConstants.{STATIC}
use Rattle.access_flags.specs.Flags.{has}
use Rattle.link_rules.specs.Names.{program_names}
use Rattle.link_rules.specs.FixedObjects.{first_words}
use Rattle.start_objects.specs.Constants.{AreConstantsOf}
use Rattle.start_objects.proofs.statics.file_words.Given as goal

abbrev pub invariant-loop-field : goal.invariant-loop-field
invariant-loop-field l =
    (us : List ClassUnit) (u : ClassUnit) → AreConstantsOf us u l.constants
    → l.words.items ≡ flat_map (first_words (program_names us) u.file.pool) (filter (λ (m : Member). has m.flags STATIC) (take l.field-index l.fields))
