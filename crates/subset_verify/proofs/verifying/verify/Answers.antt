use Rattle.type_rules.specs.VerifyRules.{verify_rules}
use Rattle.type_laws.proofs.Verdicts.{one_answer}
use Rattle.subset_verify.proofs.FileLaws.{first_is_refused}
use Rattle.subset_verify.proofs.verifying.verify.Goals as goal

pub returns-clause-first : goal.returns-clause-first
returns-clause-first c =
    let us = c.args.world.now in
    first_is_refused (verify_rules us) c.verify_files.result (one_answer us) c.verify_files.ensures
