use Rattle.std.proofs.Common.{ap, subst, ◌∙◌}
use Rattle.link_rules.specs.LinkRules.{link_rules}
use Rattle.link_rules.specs.FixedObjects.{first_free}
use Rattle.link_rules.specs.Names.{program_names}
use Rattle.link_rules.specs.Units.{AreUnits}
use Rattle.linker.specs.Tables.{HasOrder}
use Rattle.accepted_runs.proofs.ErasureLemmas.{accepted_are_erased}
use Rattle.accepted_runs.proofs.erasure_laws.accepted_runs_are_erased.Goals as goal

pub returns-clause-runs : goal.returns-clause-runs
returns-clause-runs c files name is =
    (accepted_are_erased c.args.program.now files name (subst AreUnits c.world-world.ensures c.is_linked.ensures.decoded) (subst (λ us. (link_rules us).Hold) c.world-world.ensures c.is_linked.ensures.linked) (subst HasOrder c.world-world.ensures c.is_linked.ensures.order) is
    c.first_free-first.result (c.first_free-first.ensures.value ∙ ap (λ us. first_free (program_names us)) c.world-world.ensures) c.first_free-first.ensures.small).0

pub returns-clause-turns : goal.returns-clause-turns
returns-clause-turns c files name is =
    (accepted_are_erased c.args.program.now files name (subst AreUnits c.world-world.ensures c.is_linked.ensures.decoded) (subst (λ us. (link_rules us).Hold) c.world-world.ensures c.is_linked.ensures.linked) (subst HasOrder c.world-world.ensures c.is_linked.ensures.order) is
    c.first_free-first.result (c.first_free-first.ensures.value ∙ ap (λ us. first_free (program_names us)) c.world-world.ensures) c.first_free-first.ensures.small).1

pub returns-clause-lists : goal.returns-clause-lists
returns-clause-lists c files name is =
    (accepted_are_erased c.args.program.now files name (subst AreUnits c.world-world.ensures c.is_linked.ensures.decoded) (subst (λ us. (link_rules us).Hold) c.world-world.ensures c.is_linked.ensures.linked) (subst HasOrder c.world-world.ensures c.is_linked.ensures.order) is
    c.first_free-first.result (c.first_free-first.ensures.value ∙ ap (λ us. first_free (program_names us)) c.world-world.ensures) c.first_free-first.ensures.small).2
