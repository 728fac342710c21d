use Rattle.std.proofs.Common.{inr, refl, sym, ◌∙◌, ap}
use Rattle.access_flags.specs.declared.TheConstants.{STATIC}
use Rattle.access_flags.specs.Flags.{has}
use Rattle.member_lookup.specs.declared.found.Found.{Found}
use Rattle.use_rules.proofs.CheckLaws.{same_bools}
use Rattle.use_rules.proofs.checks.check_found_field.Goals as goal

pub returns-then-not-may_access : goal.returns-then-not-may_access
returns-then-not-may_access c = λ cs d is.
    let static = sym (c.has.ensures ∙ ap (λ (f : Found). has f.flags STATIC) is) ∙ same_bools c.has.result c.wants_static.result c.if-has-wants_static.false ∙ c.wants_static.ensures in
    rw c.refuse-then-not-may_access.ensures (inr (
      (c.may_set.ensures d is).0 c.if-not-may_set.false,
      inr (static, ((λ may. let t = (c.may_access.ensures cs d is).1 may in let f = c.if-not-may_access.true in cc), refl)),
    ))

pub returns : goal.returns
returns c = λ cs d is.
    let static = sym (c.has.ensures ∙ ap (λ (f : Found). has f.flags STATIC) is) ∙ same_bools c.has.result c.wants_static.result c.if-has-wants_static.false ∙ c.wants_static.ensures in
    ((c.may_set.ensures d is).0 c.if-not-may_set.false, (static, (c.may_access.ensures cs d is).0 c.if-not-may_access.false))
