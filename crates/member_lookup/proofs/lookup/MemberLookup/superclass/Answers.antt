use Rattle.std.proofs.Common.{◌≤◌, length, sym, ◌∙◌, ap, subst}
use Rattle.class_texts.specs.Texts.{ProgramTexts}
use Rattle.link_rules.specs.Classes.{classes_of, superclass_of}
use Rattle.link_rules.proofs.Numbers.{superclass_within}
use Rattle.member_lookup.proofs.lookup.MemberLookup.superclass.Goals as goal

pub returns-clause-superclass : goal.returns-clause-superclass
returns-clause-superclass c =
    c.superclass.ensures
    ∙ ap (λ us. superclass_of (classes_of us) c.args.class) (c.supers.ensures ∙ sym c.self.invariant.units)
    ∙ ap (λ (p : ProgramTexts). superclass_of (classes_of p.units) c.args.class) c.self.view_is

pub returns-clause-within : goal.returns-clause-within
returns-clause-within c =
    let cs = classes_of c.args.self.now.units in
    let is = c.superclass.ensures
    ∙ ap (λ us. superclass_of (classes_of us) c.args.class) (c.supers.ensures ∙ sym c.self.invariant.units)
    ∙ ap (λ (p : ProgramTexts). superclass_of (classes_of p.units) c.args.class) c.self.view_is in
    subst (λ n. n ≤ length cs) (sym is) (superclass_within cs c.args.class)
