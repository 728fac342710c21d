use Rattle.std.proofs.Common.{refl, sym, subst}
use Rattle.link_types.specs.declared.refusal.LinkRefusal.TheVariants as linking
use Rattle.link_rules.specs.LinkRules.{link_rules}
use Rattle.link_rules.proofs.Sharp.{sharp_link}
use Rattle.program_accept.specs.Accepted.{told}
use Rattle.program_accept.specs.Answers.{Fails}
use Rattle.program_accept.specs.Refusals.{link_refused}
use Rattle.program_accept.proofs.StageLaws.{told_passes, told_fails}
use Rattle.program_accept.proofs.program.linked.Goals as goal

pub returns-in-Ok : goal.returns-in-Ok
returns-in-Ok c =
    told_passes link_refused (link_rules c.args.units.items) _ (sharp_link c.args.units.items) c.in-Ok.ensures.linked.1 c.in-Ok.ensures.linked.0

pub returns-in-Err : goal.returns-in-Err
returns-in-Err c =
    subst (Fails (told link_refused (link_rules c.args.units.items))) (sym c.link_refused.ensures)
    (told_fails link_refused (link_rules c.args.units.items) linking.NoMemory c.in-Err.refusal refl (sharp_link c.args.units.items) c.in-Err.ensures.exact)
