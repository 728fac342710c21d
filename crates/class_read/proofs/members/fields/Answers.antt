use Rattle.std.proofs.Common.{length, inr, refl, sym, ◌∙◌, ap, List, map}
use Rattle.std.proofs.lemmas.List.{take_all}
use Rattle.std.proofs.lemmas.Option.{slice_get_read}
use Rattle.std.proofs.lemmas.Result.{err_from_is_err_and}
use Rattle.class_walk.specs.declared.class.RawMember.{RawMember}
use Rattle.class_pool.specs.declared.refusal.ReadRefusal.{ReadRefusal}
use Rattle.class_read.specs.MemberRules.{lone_field_rules, field_of}
use Rattle.rules.specs.Rules.{Rules}
use Rattle.class_read.proofs.MemberLaws.{with_new, refuses_lone, refuses_repeat, one_more_new, mapped_more}
use Rattle.rules.proofs.RuleLaws.{all_hold}
use Rattle.class_read.proofs.members.fields.Goals as goal

pub returns-in_err-field : goal.returns-in_err-field
returns-in_err-field c =
    let members = c.args.members.now in
    let i = c.loop-index.index in
    let m = c.index-members-index.result in
    let at = slice_get_read members (length members) i m refl c.loop-index-test.true c.index-members-index.is in
    let lone : RawMember → Rules ReadRefusal = λ x. lone_field_rules c.args.pool.now c.args.is_interface x in
    let p = err_from_is_err_and c.from_residual.result c.from_residual.ensures.1 in
    rw (p.1, p.2) (refuses_lone c.args.pool.now members lone i m c.in_err-field.field-0.0 at c.loop-index.invariant.below (inr c.in_err-field.ensures))

pub returns-then-eq : goal.returns-then-eq
returns-then-eq c =
    let members = c.args.members.now in
    let i = c.loop-index.index in
    let m = c.index-members-index.result in
    let at = slice_get_read members (length members) i m refl c.loop-index-test.true c.index-members-index.is in
    let lone : RawMember → Rules ReadRefusal = λ x. lone_field_rules c.args.pool.now c.args.is_interface x in
    refuses_repeat c.args.pool.now members lone c.args.repeat i m c.requires (sym c.eq.ensures ∙ c.if-eq.true) at c.loop-index.invariant.below c.in_ok-field.ensures.0

pub loop-index-preserved : goal.loop-index-preserved
loop-index-preserved c =
    let members = c.args.members.now in
    let i = c.loop-index.index in
    let m = c.index-members-index.result in
    let at = slice_get_read members (length members) i m refl c.loop-index-test.true c.index-members-index.is in
    let lone : RawMember → Rules ReadRefusal = λ x. lone_field_rules c.args.pool.now c.args.is_interface x in
    record {
      below = one_more_new c.args.pool.now members lone c.args.repeat i m c.requires (sym c.eq.ensures ∙ c.if-eq.false) at c.loop-index.invariant.below c.in_ok-field.ensures.0;
      fields = rw c.in_ok-push.ensures.ok (mapped_more (field_of c.args.pool.now) members i m c.in_ok-field.field c.loop-index.fields at c.in_ok-field.ensures.1 c.loop-index.invariant.fields);
    }

pub returns : goal.returns
returns c =
    let members = c.args.members.now in
    let lone : RawMember → Rules ReadRefusal = λ x. lone_field_rules c.args.pool.now c.args.is_interface x in
    (all_hold (with_new c.args.pool.now members lone) members c.loop-index.index c.loop-index-test.false c.loop-index.invariant.below, c.loop-index.invariant.fields ∙ ap (λ (ms : List RawMember). map (field_of c.args.pool.now) ms) (take_all c.loop-index.index members c.loop-index-test.false))
