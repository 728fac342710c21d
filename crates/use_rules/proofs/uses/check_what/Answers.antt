use Rattle.std.proofs.Common.{sym, subst}
use Rattle.instructions.specs.declared.what.What.{What}
use Rattle.instructions.specs.declared.what.Target.{Target}
use Rattle.class_supers.specs.Answers.{KeepsExactly}
use Rattle.link_rules.specs.Classes.{reference_at}
use Rattle.link_rules.specs.LinkRules.{what_rules, field_use_rules, call_rules, interface_call_rules}
use Rattle.use_rules.specs.Facts.{AreFactsOf}
use Rattle.use_rules.proofs.uses.check_what.Goals as goal

pub returns-in-Field : goal.returns-in-Field
returns-in-Field c =
    let n = c.args.names.now in
    let r = reference_at n.pool c.in-Field.index in
    let facts = subst (λ k. AreFactsOf n.classes k r c.member.result) (sym c.place-place.ensures.place) c.member.ensures in
    let keeps = subst (λ k. KeepsExactly c.check_field.result (field_use_rules n.classes k c.in-Field.access c.in-Field.index r)) c.place-place.ensures.place (c.check_field.ensures n.classes r facts) in
    subst (λ (w : What Target). KeepsExactly c.check_field.result (what_rules n.classes n.place n.pool w)) (sym c.in-Field.is) keeps

pub returns-in-Call : goal.returns-in-Call
returns-in-Call c =
    let n = c.args.names.now in
    let r = reference_at n.pool c.in-Call.index in
    let facts = subst (λ k. AreFactsOf n.classes k r c.member-in-Call.result) (sym c.place-place.ensures.place) c.member-in-Call.ensures in
    let keeps = subst (λ k. KeepsExactly c.check_call.result (call_rules n.classes k c.in-Call.call c.in-Call.index r)) c.place-place.ensures.place (c.check_call.ensures n.classes r facts) in
    subst (λ (w : What Target). KeepsExactly c.check_call.result (what_rules n.classes n.place n.pool w)) (sym c.in-Call.is) keeps

pub returns-in-InterfaceCall : goal.returns-in-InterfaceCall
returns-in-InterfaceCall c =
    let n = c.args.names.now in
    let r = reference_at n.pool c.in-InterfaceCall.index in
    let facts = subst (λ k. AreFactsOf n.classes k r c.member-in-InterfaceCall.result) (sym c.place-place.ensures.place) c.member-in-InterfaceCall.ensures in
    let keeps = subst (λ k. KeepsExactly c.check_interface_call.result (interface_call_rules n.classes k c.in-InterfaceCall.index r)) c.place-place.ensures.place (c.check_interface_call.ensures n.classes r facts) in
    subst (λ (w : What Target). KeepsExactly c.check_interface_call.result (what_rules n.classes n.place n.pool w)) (sym c.in-InterfaceCall.is) keeps
