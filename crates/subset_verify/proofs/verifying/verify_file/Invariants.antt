use Rattle.rules.specs.Rules.{HoldBelow}
use Rattle.subset_verify.specs.Files.{code_type_rules}
use Rattle.subset_verify.proofs.verifying.verify_file.Given as goal

abbrev pub invariant-loop-method : goal.invariant-loop-method
invariant-loop-method l = HoldBelow (code_type_rules l.world l.file) l.unit.codes l.method
