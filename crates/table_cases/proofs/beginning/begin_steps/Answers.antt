use Rattle.std.proofs.Common.{ap, ◌∙◌}
use Rattle.op_core.specs.declared.script.Script.{Script}
use Rattle.table_words.specs.declared.setup.Setup.{Setup}
use Rattle.table_cases.specs.Program.{script_state}
use Rattle.table_cases.proofs.ProgramLemmas.{script_begins_at}
use Rattle.table_cases.proofs.beginning.begin_steps.Goals as goal

pub returns-in-Ok-clause-program : goal.returns-in-Ok-clause-program
returns-in-Ok-clause-program c =
    let is = c.in-Ok.ensures.setup in
    record {
      opening = ap (λ (j : Setup Script). j.opening) is ∙ c.in_ok-opening.ensures;
      limits = ap (λ (j : Setup Script). j.limits) is;
      code = ap (λ (j : Setup Script). script_state j.code) is ∙ script_begins_at c.args.steps.now c.new.result c.new.ensures.steps c.new.ensures.place;
    }
