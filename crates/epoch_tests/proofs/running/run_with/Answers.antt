use Rattle.std.proofs.Common.{◌≡◌, inl, inr, List, refl, ◌∙◌}
use Rattle.op_core.specs.declared.script.ScriptStep.{ScriptStep}
use Rattle.op_core.specs.Script.{script_code}
use Rattle.table_words.specs.Setups.{setup}
use Rattle.table_hosts.specs.Standing.{ThreadsCanGoOn}
use Rattle.table_cases.specs.Program.{program_steps, waiting_steps, limits_with, script_state}
use Rattle.table_cases.proofs.PremiseLemmas.{IsFitScript, program_fits, waiting_fits}
use Rattle.table_cases.proofs.ProgramLemmas.{scripts_go_on, script_begins_at}
use Rattle.epoch_tests.proofs.running.run_with.Goals as goal

pub run_hosts-requires-clause-can : goal.run_hosts-requires-clause-can
run_hosts-requires-clause-can g c κs within =
    let k = setup c.in_ok-opening.opening (limits_with c.args.turns) c.new-code.result in
    let can : (steps : List ScriptStep) → IsFitScript steps → c.args.steps.now ≡ steps → ThreadsCanGoOn script_state script_code k
    = λ steps fits is. scripts_go_on steps fits c.args.turns c.requires.turns k (record {
      opening = c.in_ok-opening.ensures;
      limits = refl;
      code = script_begins_at steps c.new-code.result (c.new-code.ensures.steps ∙ is) c.new-code.ensures.place;
    }) in
    elim c.requires.steps [
      | inl is ↦ can program_steps program_fits is
      | inr is ↦ can waiting_steps waiting_fits is
    ]
