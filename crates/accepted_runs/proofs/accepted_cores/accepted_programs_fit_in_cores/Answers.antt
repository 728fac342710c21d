use Rattle.std.proofs.Common.{ap, subst, ◌∙◌}
use Rattle.link_rules.specs.LinkRules.{link_rules}
use Rattle.link_rules.specs.FixedObjects.{first_free}
use Rattle.link_rules.specs.Names.{program_names}
use Rattle.link_rules.specs.Units.{AreUnits}
use Rattle.linker.specs.Tables.{HasOrder}
use Rattle.accepted_runs.proofs.accepted_cores.AcceptedCores.{cores_are_fit}
use Rattle.accepted_runs.proofs.accepted_cores.accepted_programs_fit_in_cores.Goals as goal

pub returns : goal.returns
returns c files name is =
    cores_are_fit c.args.program.now files name (subst AreUnits c.world-world.ensures c.is_linked.ensures.decoded) (subst (λ us. (link_rules us).Hold) c.world-world.ensures c.is_linked.ensures.linked) (subst HasOrder c.world-world.ensures c.is_linked.ensures.order) is
    c.first_free-first.result (c.first_free-first.ensures.value ∙ ap (λ us. first_free (program_names us)) c.world-world.ensures) c.first_free-first.ensures.small
