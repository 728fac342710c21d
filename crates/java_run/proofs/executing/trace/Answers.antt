use Rattle.std.proofs.Common.{◌≤◌, ◌+◌, Option, Some, List, IfSome, length, ap, ◌∙◌, sym, subst, arith}
use Rattle.std.proofs.lemmas.Result.{IfOk-weaker}
use Rattle.op_core.specs.declared.Event.{Event}
use Rattle.java_run.specs.Run.{journal_answer}
use Rattle.java_run.proofs.executing.trace.Goals as goal

pub journal_answer-requires : goal.journal_answer-requires
journal_answer-requires g c =
    let run = c.in_ok-outcome.ensures in
    let fits = run.fits in
    let few : length run.executed.events ≤ 4194304 = omega (arith, fits) in
    subst (λ (o : Option (List Event)). IfSome o (λ events. length events ≤ 4194304)) (sym run.executed.kept) few

pub returns : goal.returns
returns g c =
    let outcome = c.in_ok-outcome.outcome in
    let run = c.in_ok-outcome.ensures in
    IfOk-weaker c.journal_answer.result _ _ (λ answer is. record {
      outcome = outcome;
      run = run;
      answered = is ∙ ap (λ u. journal_answer u run.executed.events run.undos outcome) c.world.ensures;
    }) (c.journal_answer.ensures run.executed.events run.undos run.executed.kept run.kept)
