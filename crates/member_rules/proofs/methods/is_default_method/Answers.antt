use Rattle.std.proofs.Common.{◌&&◌, sym, ◌∙◌, ap}
use Rattle.link_rules.specs.Classes.{member_of_file}
use Rattle.link_rules.specs.LinkRules.{is_default}
use Rattle.member_rules.proofs.methods.is_default_method.Goals as goal

pub returns-then-interface : goal.returns-then-interface
returns-then-interface c = λ cs k.
    c.has_code.ensures cs k ∙ sym (ap (λ b. b && is_default cs k (member_of_file c.args.pool.now c.args.method.now)) c.if-interface.true)
