use Rattle.class_names.specs.Names.{IsMemberName}
use Rattle.class_read.proofs.TextUseLaws.{right_text, wrong_text, is_so, not_so}
use Rattle.class_read.proofs.members.check_field_name.Goals as goal

pub returns-then-not-found : goal.returns-then-not-found
returns-then-not-found c =
    let found = c.in_ok-found.found in
    wrong_text IsMemberName c.args.pool.now c.args.index found c.in_ok-found.ensures.1 (λ text is. not_so found.is_member_name c.if-not-found.true is.member_name)

pub returns : goal.returns
returns c =
    let found = c.in_ok-found.found in
    right_text IsMemberName c.args.pool.now c.args.index found c.in_ok-found.ensures.1 (λ text is. is_so found.is_member_name c.if-not-found.false is.member_name)
