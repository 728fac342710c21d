use Rattle.std.proofs.Common.{length, refl}
use Rattle.std.proofs.lemmas.Option.{slice_get_read}
use Rattle.std.proofs.lemmas.Result.{err_from_is_err_and}
use Rattle.rules.proofs.RuleLaws.{one_more, all_hold}
use Rattle.link_rules.specs.LinkRules.{code_use_rules}
use Rattle.use_rules.proofs.uses.check_codes.Goals as goal

pub returns-in_err-check_code : goal.returns-in_err-check_code
returns-in_err-check_code c =
    let items = c.args.codes.now in
    let at = slice_get_read items (length items) c.loop-code.code-index c.code-item.result refl c.loop-code-test.true c.code-item.is in
    let p = err_from_is_err_and c.from_residual.result c.from_residual.ensures.1 in
    rw (p.1, p.2) (c.loop-code.code-index, c.code-item.result, at, c.loop-code.invariant, c.in_err-check_code.ensures)

pub loop-code-preserved : goal.loop-code-preserved
loop-code-preserved c =
    let n = c.args.names.now in
    let items = c.args.codes.now in
    let at = slice_get_read items (length items) c.loop-code.code-index c.code-item.result refl c.loop-code-test.true c.code-item.is in
    one_more (λ j code. code_use_rules n.classes n.place n.pool code) items c.loop-code.code-index c.code-item.result at c.loop-code.invariant c.in_ok-check_code.ensures

pub returns : goal.returns
returns c =
    let n = c.args.names.now in
    all_hold (λ j code. code_use_rules n.classes n.place n.pool code) c.args.codes.now c.loop-code.code-index c.loop-code-test.false c.loop-code.invariant
