use Rattle.std.proofs.Common.{◌≡◌, ◌≤◌, Bool, true, false, List, codes, refl, length, slice_get, Some, sym, ◌∙◌, subst, option_copied, take}
use Rattle.std.proofs.lemmas.Option.{slice_get_read}
use Rattle.class_walk.specs.declared.class.RawAttribute.{RawAttribute}
use Rattle.class_pool.specs.declared.refusal.ReadRefusal.{ReadRefusal}
use Rattle.class_read.specs.AttributeRules.{code_attribute_rules, is_named, named}
use Rattle.rules.specs.Rules.{Rules}
use Rattle.rules.proofs.RuleLaws.{all_hold}
use Rattle.class_read.proofs.FindLaws.{find_here, find_passed}
use Rattle.class_read.proofs.FoundLaws.{rules_once, earlier_is, holds_below, found_all}
use Rattle.class_read.proofs.attributes.stack_map.Goals as goal
use Rattle.class_read.proofs.attributes.stack_map.Goals.{then-branch, else-branch}

pub loop-attribute-preserved : goal.loop-attribute-preserved
loop-attribute-preserved c =
    let pool = c.args.pool.now in
    let attributes = c.args.attributes.now in
    let i = c.loop-attribute.attribute-index in
    let a = c.attribute-item.result in
    let rules : Bool → RawAttribute → Rules ReadRefusal = λ b a. code_attribute_rules c.args.pool.now c.args.at b a in
    let test : RawAttribute → Bool = is_named pool (codes "StackMapTable") in
    let slice = c.as_slice-attribute-items.result.now in
    let P : List RawAttribute → Type 0 = λ xs. slice_get xs i ≡ Some a in
    let at : slice_get attributes i ≡ Some a = subst P c.as_slice-attribute-items.ensures (slice_get_read slice (length slice) i a refl c.loop-attribute-test.true c.attribute-item.is) in
    let earlier = earlier_is c.loop-attribute.found (named pool (codes "StackMapTable") (take i attributes)) c.is_some.result c.is_some.ensures c.loop-attribute.invariant.found in
    let below = holds_below rules test attributes i a c.is_some.result at earlier c.in_ok-is_checked_map.ensures.0 c.loop-attribute.invariant.below in
    elim c.if-branch.branch [
      | then-branch w ↦
          let is : test a ≡ true = sym c.in_ok-is_checked_map.ensures.1 ∙ w.if-branch.true in
          let first : c.is_some.result ≡ false = (c.in_ok-is_checked_map.ensures.0.1 is) in
          record { below = below; found = rw w.found-is (find_here test attributes i a at is (sym earlier ∙ first)) }
      | else-branch w ↦
          let other : test a ≡ false = sym c.in_ok-is_checked_map.ensures.1 ∙ w.if-branch.false in
          record { below = below; found = rw w.found-is (find_passed test attributes i a (option_copied c.loop-attribute.found) at other c.loop-attribute.invariant.found) }
    ]

pub returns : goal.returns
returns c =
    let pool = c.args.pool.now in
    let attributes = c.args.attributes.now in
    let i = c.loop-attribute.attribute-index in
    let rules : Bool → RawAttribute → Rules ReadRefusal = λ b a. code_attribute_rules c.args.pool.now c.args.at b a in
    let test : RawAttribute → Bool = is_named pool (codes "StackMapTable") in
    let P : List RawAttribute → Type 0 = λ xs. length xs ≤ i in
    let past : length attributes ≤ i = subst P c.as_slice-attribute-items.ensures c.loop-attribute-test.false in
    (all_hold (rules_once rules test attributes) attributes i past c.loop-attribute.invariant.below, found_all test attributes i (option_copied c.loop-attribute.found) past c.loop-attribute.invariant.found)
