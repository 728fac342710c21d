use Rattle.std.proofs.Common.{refl, sym, subst}
use Rattle.type_rules.specs.declared.refusal.VerifyRefusal.TheVariants as verifying
use Rattle.type_rules.specs.VerifyRules.{verify_rules}
use Rattle.program_accept.specs.Accepted.{told}
use Rattle.program_accept.specs.Answers.{Fails}
use Rattle.program_accept.specs.Refusals.{verify_refused}
use Rattle.program_accept.proofs.StageLaws.{told_passes, told_fails, sharp_verify}
use Rattle.program_accept.proofs.program.verified.Goals as goal

pub returns-in-Ok : goal.returns-in-Ok
returns-in-Ok c = told_passes verify_refused (verify_rules c.args.world.now) _ (sharp_verify c.args.world.now) c.in-Ok.ensures.safe tt

pub returns-in-Err : goal.returns-in-Err
returns-in-Err c =
    subst (Fails (told verify_refused (verify_rules c.args.world.now))) (sym c.verify_refused.ensures)
    (told_fails verify_refused (verify_rules c.args.world.now) verifying.NoMemory c.in-Err.refusal refl (sharp_verify c.args.world.now) c.in-Err.ensures.exact)
