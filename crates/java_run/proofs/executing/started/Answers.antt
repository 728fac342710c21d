use Rattle.std.proofs.Common.{ap, ◌∙◌}
use Rattle.std.proofs.lemmas.Result.{IfOk-weaker}
use Rattle.ordinary_machine.specs.Start.{start_of}
use Rattle.java_rows.specs.Start.{opening_of}
use Rattle.java_rows.specs.Thread.{first_state}
use Rattle.java_run.specs.Check.{state_in}
use Rattle.java_run.proofs.executing.started.Goals as goal

pub returns : goal.returns
returns g c =
    let us = c.args.accepted.now.units in
    let main = c.args.accepted.now.main in
    let code = c.in_ok-code.code in
    let units = c.world.ensures in
    let first = c.in_ok-code.ensures.state ∙ ap (λ u. first_state u c.main.result) c.requires ∙ ap (first_state us) c.main.ensures in
    let begun = c.in_ok-opening.ensures.value ∙ ap opening_of units in
    IfOk-weaker c.start.result _ _ (λ machine is. is ∙ ap (λ o. start_of o (state_in g.P.Constants.units code)) begun ∙ ap (start_of (opening_of us)) first) c.start.ensures
