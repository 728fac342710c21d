use Rattle.class_pool.specs.PoolRules.{IsFieldType}
use Rattle.class_read.proofs.TextUseLaws.{right_text, wrong_text, is_so, not_so}
use Rattle.class_read.proofs.members.check_field_type.Goals as goal

pub returns-then-not-found : goal.returns-then-not-found
returns-then-not-found c =
    let found = c.in_ok-found.found in
    wrong_text IsFieldType c.args.pool.now c.args.index found c.in_ok-found.ensures.1 (λ text is. not_so found.is_field_type c.if-not-found.true is.field_type)

pub returns : goal.returns
returns c =
    let found = c.in_ok-found.found in
    right_text IsFieldType c.args.pool.now c.args.index found c.in_ok-found.ensures.1 (λ text is. is_so found.is_field_type c.if-not-found.false is.field_type)
