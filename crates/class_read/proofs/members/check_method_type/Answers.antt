use Rattle.std.proofs.Common.{refl, sym, ◌∙◌}
use Rattle.class_read.specs.MemberRules.{IsTypeOfMethod}
use Rattle.class_read.proofs.TextUseLaws.{right_text, wrong_text, taken, not_taken}
use Rattle.class_read.proofs.members.check_method_type.Goals as goal

pub returns-then-not-may_take : goal.returns-then-not-may_take
returns-then-not-may_take c =
    let found = c.in_ok-found.found in
    let flags = c.args.flags in
    wrong_text (IsTypeOfMethod flags) c.args.pool.now c.args.index found c.in_ok-found.ensures.1
    (λ text is. not_taken flags text found is (sym c.may_take.ensures ∙ c.if-not-may_take.true))

pub returns : goal.returns
returns c =
    let found = c.in_ok-found.found in
    let flags = c.args.flags in
    right_text (IsTypeOfMethod flags) c.args.pool.now c.args.index found c.in_ok-found.ensures.1
    (λ text is. taken flags text found found.parameters refl is (sym c.may_take.ensures ∙ c.if-not-may_take.false))
