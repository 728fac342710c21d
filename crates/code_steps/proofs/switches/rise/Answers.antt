use Rattle.std.proofs.Common.{rules}
use Rattle.std.proofs.lemmas.List.Sorted.{answers_always}
use Rattle.code_steps.specs.Reading.{is_below}
use Rattle.code_steps.proofs.RiseLaws.{rise_is}
use Rattle.code_steps.proofs.switches.rise.Goals as goal

pub returns : goal.returns
returns c = rise_is c.args.cases.now c.is_sorted_by.result (c.is_sorted_by.ensures.cases is_below (answers_always _ _ _ (λ f a r g h. search rules)))
