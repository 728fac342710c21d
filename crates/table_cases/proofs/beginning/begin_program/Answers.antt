use Rattle.std.proofs.lemmas.Result.{IfOk-weaker}
use Rattle.table_words.specs.Tables.{setup_in}
use Rattle.table_cases.proofs.ProgramLemmas.{programs_go_on}
use Rattle.table_cases.proofs.beginning.begin_program.Goals as goal

pub returns-clause-can : goal.returns-clause-can
returns-clause-can c =
    IfOk-weaker c.begin_steps.result _ _ (λ t is. programs_go_on (setup_in t.0) (record { opening = is.opening; limits = is.limits; code = is.code })) c.begin_steps.ensures.program
