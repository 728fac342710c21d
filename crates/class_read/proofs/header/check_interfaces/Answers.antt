use Rattle.std.proofs.Common.{◌≡◌, ◌≤◌, ℕ, List, Some, length, get_or, slice_get, subst}
use Rattle.std.proofs.lemmas.Option.{slice_get-get_or}
use Rattle.class_read.specs.ClassRules.{interface_rules}
use Rattle.rules.proofs.RuleLaws.{one_more, all_hold}
use Rattle.class_read.proofs.header.check_interfaces.Goals as goal

pub loop-index-preserved : goal.loop-index-preserved
loop-index-preserved c =
    let interfaces = c.args.interfaces.now in
    let i = c.loop-index.index-index in
    let slice = c.as_slice-index-items.result.now in
    let P : List ℕ → Type 0 = λ xs. slice_get xs i ≡ Some (get_or slice i 0) in
    let at = subst P c.as_slice-index-items.ensures (slice_get-get_or slice i 0 c.loop-index-test.true) in
    one_more (interface_rules c.args.pool.now) interfaces i (get_or slice i 0) at c.loop-index.invariant (c.is_named_class.ensures.0 c.if-not-is_named_class.false)

pub returns : goal.returns
returns c =
    let interfaces = c.args.interfaces.now in
    let i = c.loop-index.index-index in
    let P : List ℕ → Type 0 = λ xs. length xs ≤ i in
    let past : length interfaces ≤ i = subst P c.as_slice-index-items.ensures c.loop-index-test.false in
    all_hold (interface_rules c.args.pool.now) interfaces i past c.loop-index.invariant
