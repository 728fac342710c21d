use Rattle.std.proofs.Common.{ap, ◌∙◌}
use Rattle.std.proofs.lemmas.Result.{IfOk-weaker}
use Rattle.java_run.specs.Run.{answer_of}
use Rattle.java_run.proofs.executing.execute_printed.Goals as goal

pub returns : goal.returns
returns g c =
    let outcome = c.in_ok-outcome.outcome in
    IfOk-weaker c.printed_run.result _ _ (λ run is. record {
      outcome = outcome;
      run = c.in_ok-outcome.ensures;
      answered = is ∙ ap (λ u. answer_of u c.args.counts outcome) c.world.ensures;
    }) c.printed_run.ensures
