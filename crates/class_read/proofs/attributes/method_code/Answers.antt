use Rattle.std.proofs.Common.{◌≡◌, ◌≤◌, Bool, false, List, codes, refl, length, slice_get, Option, Some, sym, ◌∙◌, ap, subst, is_some, take, find}
use Rattle.std.specs.Option.{option_and_then}
use Rattle.std.proofs.lemmas.Option.{slice_get_read}
use Rattle.std.proofs.lemmas.Result.{err_from_is_err_and}
use Rattle.class_walk.specs.declared.class.RawAttribute.{RawAttribute}
use Rattle.class_pool.specs.declared.refusal.ReadRefusal.{ReadRefusal}
use Rattle.class_read.specs.AttributeRules.{method_attribute_rules, is_named, code_in}
use Rattle.rules.specs.Rules.{Rules}
use Rattle.rules.proofs.RuleLaws.{all_hold}
use Rattle.class_read.proofs.FindLaws.{find_here, find_passed}
use Rattle.class_read.proofs.FoundLaws.{rules_once, holds_below, refuses_once, code_all, some_all}
use Rattle.class_read.proofs.attributes.method_code.Goals as goal
use Rattle.class_read.proofs.attributes.method_code.Goals.{in-Some, in-None}

pub returns-in_err-next : goal.returns-in_err-next
returns-in_err-next c =
    let pool = c.args.pool.now in
    let attributes = c.args.method.now.attributes in
    let i = c.loop-attribute.attribute-index in
    let a = c.attribute-item.result in
    let rules : Bool → RawAttribute → Rules ReadRefusal = λ b a. method_attribute_rules pool b a in
    let test : RawAttribute → Bool = is_named pool (codes "Code") in
    let slice = c.as_slice-attribute-items.result.now in
    let P : List RawAttribute → Type 0 = λ xs. slice_get xs i ≡ Some a in
    let at : slice_get attributes i ≡ Some a = subst P c.as_slice-attribute-items.ensures (slice_get_read slice (length slice) i a refl c.loop-attribute-test.true c.attribute-item.is) in
    let earlier = c.is_some.ensures ∙ c.loop-attribute.invariant.found in
    let p = err_from_is_err_and c.from_residual.result c.from_residual.ensures.1 in
    rw (p.1, p.2) (refuses_once rules test attributes i a c.is_some.result c.in_err-next.field-0.0 at earlier c.loop-attribute.invariant.below c.in_err-next.ensures)

pub loop-attribute-preserved : goal.loop-attribute-preserved
loop-attribute-preserved c =
    let pool = c.args.pool.now in
    let attributes = c.args.method.now.attributes in
    let i = c.loop-attribute.attribute-index in
    let a = c.attribute-item.result in
    let rules : Bool → RawAttribute → Rules ReadRefusal = λ b a. method_attribute_rules pool b a in
    let test : RawAttribute → Bool = is_named pool (codes "Code") in
    let slice = c.as_slice-attribute-items.result.now in
    let P : List RawAttribute → Type 0 = λ xs. slice_get xs i ≡ Some a in
    let at : slice_get attributes i ≡ Some a = subst P c.as_slice-attribute-items.ensures (slice_get_read slice (length slice) i a refl c.loop-attribute-test.true c.attribute-item.is) in
    let earlier = c.is_some.ensures ∙ c.loop-attribute.invariant.found in
    let below = holds_below rules test attributes i a c.is_some.result at earlier c.in_ok-next.ensures.0 c.loop-attribute.invariant.below in
    elim c.match-branch-2.branch [
      | in-Some w ↦
          let is_code = rw w.in-Some.is at c.in_ok-next.ensures.1 in
          let first : c.is_some.result ≡ false = (c.in_ok-next.ensures.0.1 is_code.0).0 in
          let found = find_here test attributes i a at is_code.0 (sym earlier ∙ first) in
          record {
            below = below;
            code = rw w.code-is (sym is_code.1 ∙ ap (λ (o : Option RawAttribute). option_and_then (code_in pool) o) found);
            found = rw w.code-is (ap (λ (o : Option RawAttribute). is_some o) found);
          }
      | in-None w ↦
          let other = rw w.in-None.is at c.in_ok-next.ensures.1 in
          let found = find_passed test attributes i a (find test (take i attributes)) at other refl in
          record {
            below = below;
            code = rw w.code-is (c.loop-attribute.invariant.code ∙ ap (λ (o : Option RawAttribute). option_and_then (code_in pool) o) found);
            found = rw w.code-is (c.loop-attribute.invariant.found ∙ ap (λ (o : Option RawAttribute). is_some o) found);
          }
    ]

pub returns : goal.returns
returns c =
    let pool = c.args.pool.now in
    let attributes = c.args.method.now.attributes in
    let i = c.loop-attribute.attribute-index in
    let rules : Bool → RawAttribute → Rules ReadRefusal = λ b a. method_attribute_rules pool b a in
    let test : RawAttribute → Bool = is_named pool (codes "Code") in
    let P : List RawAttribute → Type 0 = λ xs. length xs ≤ i in
    let past : length attributes ≤ i = subst P c.as_slice-attribute-items.ensures c.loop-attribute-test.false in
    (all_hold (rules_once rules test attributes) attributes i past c.loop-attribute.invariant.below, (code_all (code_in pool) test attributes i c.loop-attribute.code past c.loop-attribute.invariant.code, some_all test attributes i c.loop-attribute.code past c.loop-attribute.invariant.found))
