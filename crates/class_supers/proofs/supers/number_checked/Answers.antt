use Rattle.std.proofs.Common.{inr, subst}
use Rattle.std.proofs.lemmas.Result.{err_from_is_err_and}
use Rattle.link_rules.specs.Classes.{classes_of}
use Rattle.link_rules.specs.LinkRules.{all_supers_rules}
use Rattle.class_supers.proofs.supers.number_checked.Goals as goal

pub returns-in_err-check_supers : goal.returns-in_err-check_supers
returns-in_err-check_supers c =
    let p = err_from_is_err_and c.from_residual-in_err-check_supers.result c.from_residual-in_err-check_supers.ensures.1 in
    let e = c.in_err-check_supers.field-0.0 in
    rw (p.1, p.2) (inr (inr (
      c.if-units-gt-MOST_FILES.false,
      inr (c.in_ok-supers.ensures.0, subst (λ us. (all_supers_rules (classes_of us) us).Refuse e) c.in_ok-supers.ensures.1 c.in_err-check_supers.ensures),
    )))

pub returns : goal.returns
returns c = (
  (
    c.if-units-gt-MOST_FILES.false,
    (c.in_ok-supers.ensures.0, subst (λ us. (all_supers_rules (classes_of us) us).Hold) c.in_ok-supers.ensures.1 c.in_ok-check_supers.ensures),
  ),
  c.in_ok-supers.ensures.1,
)
