use Rattle.std.proofs.Common.{inr, refl, sym, ◌∙◌, ap}
use Rattle.access_flags.specs.declared.TheConstants.{STATIC}
use Rattle.access_flags.specs.Flags.{has}
use Rattle.use_rules.specs.declared.members.MethodFacts.{MethodFacts}
use Rattle.use_rules.proofs.CheckLaws.{same_bools}
use Rattle.use_rules.proofs.checks.check_found_method.Goals as goal

pub returns-then-not-may_access : goal.returns-then-not-may_access
returns-then-not-may_access c = λ cs r d is.
    let found = ap (λ (m : MethodFacts). m.found) is in
    let static = sym (c.has.ensures ∙ ap (λ (m : MethodFacts). has m.found.flags STATIC) is) ∙ same_bools c.has.result c.is_static_call.result c.if-has-is_static_call.false ∙ c.is_static_call.ensures in
    rw c.refuse-then-not-may_access.ensures (inr (
      (c.may_be_called.ensures cs c.args.place r d is).0 c.if-not-may_be_called.false,
      inr (static, ((λ may. let t = (c.may_access.ensures cs d found).1 may in let f = c.if-not-may_access.true in cc), refl)),
    ))

pub returns : goal.returns
returns c = λ cs r d is.
    let found = ap (λ (m : MethodFacts). m.found) is in
    let static = sym (c.has.ensures ∙ ap (λ (m : MethodFacts). has m.found.flags STATIC) is) ∙ same_bools c.has.result c.is_static_call.result c.if-has-is_static_call.false ∙ c.is_static_call.ensures in
    ((c.may_be_called.ensures cs c.args.place r d is).0 c.if-not-may_be_called.false, (static, (c.may_access.ensures cs d found).0 c.if-not-may_access.false))
