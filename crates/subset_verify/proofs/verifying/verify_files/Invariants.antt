use Rattle.rules.specs.Rules.{HoldBelow}
use Rattle.subset_verify.specs.Files.{file_type_rules}
use Rattle.subset_verify.proofs.verifying.verify_files.Given as goal

abbrev pub invariant-loop-file : goal.invariant-loop-file
invariant-loop-file l = HoldBelow (file_type_rules l.world) l.world l.file
