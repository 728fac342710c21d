use Rattle.std.proofs.Common.{◌≡◌, true, false, inl, inr, refl, sym, ◌∙◌, ap, subst}
use Rattle.std.proofs.lemmas.Result.{err_from_is_err_and}
use Rattle.access_flags.specs.declared.TheConstants.{FINAL}
use Rattle.link_rules.specs.Classes.{classes_of, class_has, superclass_of, number_of_file}
use Rattle.link_rules.specs.LinkRules.{MayExtend}
use Rattle.link_rules.specs.Supers.{IsAbove}
use Rattle.class_supers.proofs.checks.check_file.Goals as goal

pub returns-then-not-may_extend : goal.returns-then-not-may_extend
returns-then-not-may_extend c =
    let cs = classes_of c.args.supers.now in
    let k = c.args.place in
    let flags = c.args.unit.now.file.flags in
    let is : c.superclass-superclass.result ≡ superclass_of cs (number_of_file k) = c.superclass-superclass.ensures ∙ ap (superclass_of cs) c.number_of_file-class.ensures in
    rw c.refuse-then-not-may_extend.ensures (inr (
      (λ z. c.if-superclass-eq0.false (is ∙ z)),
      inr (c.in_ok-check_interfaces.ensures, inl ((λ may. let t = (c.may_extend.ensures k).1 (subst (MayExtend cs k flags) (sym is) may) in let f = c.if-not-may_extend.true in cc), refl)),
    ))

pub returns-in_err-check_interface_kinds : goal.returns-in_err-check_interface_kinds
returns-in_err-check_interface_kinds c =
    let cs = classes_of c.args.supers.now in
    let k = c.args.place in
    let flags = c.args.unit.now.file.flags in
    let is : c.superclass-superclass.result ≡ superclass_of cs (number_of_file k) = c.superclass-superclass.ensures ∙ ap (superclass_of cs) c.number_of_file-class.ensures in
    let p = err_from_is_err_and c.from_residual-in_err-check_interface_kinds.result c.from_residual-in_err-check_interface_kinds.ensures.1 in
    rw (p.1, p.2) (inr (
      (λ z. c.if-superclass-eq0.false (is ∙ z)),
      inr (c.in_ok-check_interfaces.ensures, inr (subst (MayExtend cs k flags) is ((c.may_extend.ensures k).0 c.if-not-may_extend.false), inl c.in_err-check_interface_kinds.ensures)),
    ))

pub returns-then-has_flag : goal.returns-then-has_flag
returns-then-has_flag c =
    let cs = classes_of c.args.supers.now in
    let k = c.args.place in
    let flags = c.args.unit.now.file.flags in
    let is : c.superclass-superclass.result ≡ superclass_of cs (number_of_file k) = c.superclass-superclass.ensures ∙ ap (superclass_of cs) c.number_of_file-class.ensures in
    let final : class_has cs (superclass_of cs (number_of_file k)) FINAL ≡ true = ap (λ s. class_has cs s FINAL) (sym is) ∙ sym c.has_flag.ensures ∙ c.if-has_flag.true in
    rw c.refuse-then-has_flag.ensures (inr (
      (λ z. c.if-superclass-eq0.false (is ∙ z)),
      inr (
        c.in_ok-check_interfaces.ensures,
        inr (
          subst (MayExtend cs k flags) is ((c.may_extend.ensures k).0 c.if-not-may_extend.false),
          inr (c.in_ok-check_interface_kinds.ensures, inl ((λ not_final. cc), refl)),
        ),
      ),
    ))

pub returns-then-is_above : goal.returns-then-is_above
returns-then-is_above c =
    let cs = classes_of c.args.supers.now in
    let k = c.args.place in
    let flags = c.args.unit.now.file.flags in
    let is : c.superclass-superclass.result ≡ superclass_of cs (number_of_file k) = c.superclass-superclass.ensures ∙ ap (superclass_of cs) c.number_of_file-class.ensures in
    let final : class_has cs (superclass_of cs (number_of_file k)) FINAL ≡ false = ap (λ s. class_has cs s FINAL) (sym is) ∙ sym c.has_flag.ensures ∙ c.if-has_flag.false in
    let above : IsAbove cs (number_of_file k) (number_of_file k) = subst (λ x. IsAbove cs x x) c.number_of_file-class.ensures (c.is_above.ensures.0 c.if-is_above.true) in
    rw c.refuse-then-is_above.ensures (inr (
      (λ z. c.if-superclass-eq0.false (is ∙ z)),
      inr (
        c.in_ok-check_interfaces.ensures,
        inr (
          subst (MayExtend cs k flags) is ((c.may_extend.ensures k).0 c.if-not-may_extend.false),
          inr (c.in_ok-check_interface_kinds.ensures, inr (final, ((λ apart. apart above), refl))),
        ),
      ),
    ))

pub returns : goal.returns
returns c =
    let cs = classes_of c.args.supers.now in
    let k = c.args.place in
    let flags = c.args.unit.now.file.flags in
    let is : c.superclass-superclass.result ≡ superclass_of cs (number_of_file k) = c.superclass-superclass.ensures ∙ ap (superclass_of cs) c.number_of_file-class.ensures in
    let final : class_has cs (superclass_of cs (number_of_file k)) FINAL ≡ false = ap (λ s. class_has cs s FINAL) (sym is) ∙ sym c.has_flag.ensures ∙ c.if-has_flag.false in (
      (λ z. c.if-superclass-eq0.false (is ∙ z)),
      (
        c.in_ok-check_interfaces.ensures,
        (
          subst (MayExtend cs k flags) is ((c.may_extend.ensures k).0 c.if-not-may_extend.false),
          (
            c.in_ok-check_interface_kinds.ensures,
            (final, λ above. let t = c.is_above.ensures.1 (subst (λ x. IsAbove cs x x) (sym c.number_of_file-class.ensures) above) in let f = c.if-is_above.false in cc),
          ),
        ),
      ),
    )
