use Rattle.std.proofs.Common.{ap, subst, ◌∙◌}
use Rattle.link_rules.specs.LinkRules.{link_rules}
use Rattle.link_rules.specs.FixedObjects.{first_free}
use Rattle.link_rules.specs.Names.{program_names}
use Rattle.link_rules.specs.Units.{AreUnits}
use Rattle.linker.specs.Tables.{HasOrder}
use Rattle.accepted_runs.proofs.accepted_programs.MainMethods.{has_room, is_sound, is_orderly, runs_are_fit, stuck_waits}
use Rattle.accepted_runs.proofs.accepted_programs.accepted_programs_go_in_order.Goals as goal

pub returns-clause-sound : goal.returns-clause-sound
returns-clause-sound c files name is =
    is_sound c.args.program.now files name (subst AreUnits c.world-world.ensures c.is_linked.ensures.decoded) (subst (λ us. (link_rules us).Hold) c.world-world.ensures c.is_linked.ensures.linked) (subst HasOrder c.world-world.ensures c.is_linked.ensures.order) is

pub returns-clause-orderly : goal.returns-clause-orderly
returns-clause-orderly c files name classes is below =
    is_orderly c.args.program.now files name classes (subst AreUnits c.world-world.ensures c.is_linked.ensures.decoded) (subst (λ us. (link_rules us).Hold) c.world-world.ensures c.is_linked.ensures.linked) (subst HasOrder c.world-world.ensures c.is_linked.ensures.order) is below

pub returns-clause-room : goal.returns-clause-room
returns-clause-room c files name is =
    has_room c.args.program.now files name (subst AreUnits c.world-world.ensures c.is_linked.ensures.decoded) (subst (λ us. (link_rules us).Hold) c.world-world.ensures c.is_linked.ensures.linked) (subst HasOrder c.world-world.ensures c.is_linked.ensures.order) is
    c.first_free-first.result (c.first_free-first.ensures.value ∙ ap (λ us. first_free (program_names us)) c.world-world.ensures) c.first_free-first.ensures.small

pub returns-clause-runs : goal.returns-clause-runs
returns-clause-runs c files name is =
    runs_are_fit c.args.program.now files name (subst AreUnits c.world-world.ensures c.is_linked.ensures.decoded) (subst (λ us. (link_rules us).Hold) c.world-world.ensures c.is_linked.ensures.linked) (subst HasOrder c.world-world.ensures c.is_linked.ensures.order) is
    c.first_free-first.result (c.first_free-first.ensures.value ∙ ap (λ us. first_free (program_names us)) c.world-world.ensures) c.first_free-first.ensures.small

pub returns-clause-stuck : goal.returns-clause-stuck
returns-clause-stuck c files name is =
    stuck_waits c.args.program.now files name (subst AreUnits c.world-world.ensures c.is_linked.ensures.decoded) (subst (λ us. (link_rules us).Hold) c.world-world.ensures c.is_linked.ensures.linked) (subst HasOrder c.world-world.ensures c.is_linked.ensures.order) is
    c.first_free-first.result (c.first_free-first.ensures.value ∙ ap (λ us. first_free (program_names us)) c.world-world.ensures) c.first_free-first.ensures.small
