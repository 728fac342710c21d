use Rattle.class_names.specs.Names.{IsMethodName}
use Rattle.class_read.proofs.TextUseLaws.{right_text, wrong_text, is_so, not_so}
use Rattle.class_read.proofs.members.check_method_name.Goals as goal

pub returns-then-not-found : goal.returns-then-not-found
returns-then-not-found c =
    let found = c.in_ok-found.found in
    wrong_text IsMethodName c.args.pool.now c.args.index found c.in_ok-found.ensures.1 (λ text is. not_so found.is_method_name c.if-not-found.true is.method_name)

pub returns : goal.returns
returns c =
    let found = c.in_ok-found.found in
    right_text IsMethodName c.args.pool.now c.args.index found c.in_ok-found.ensures.1 (λ text is. is_so found.is_method_name c.if-not-found.false is.method_name)
