use Rattle.std.proofs.lemmas.Result.{IfOk-weaker}
use Rattle.table_words.specs.Tables.{setup_in}
use Rattle.table_cases.proofs.ProgramLemmas.{kinds_go_on}
use Rattle.table_cases.proofs.beginning.begin_kinds.Goals as goal

pub returns-clause-can : goal.returns-clause-can
returns-clause-can c = IfOk-weaker c.begin_steps.result _ _ (λ t is. kinds_go_on (setup_in t.0) is) c.begin_steps.ensures.program
