use Rattle.std.proofs.Common.{◌≡◌, List, [], slice_get, sym, ◌∙◌, ap, unwrap_or}
use Rattle.std.proofs.lemmas.Bool.{not-true}
use Rattle.class_pool.specs.Pool.{reference_of}
use Rattle.class_pool.specs.Lookup.{reference_in}
use Rattle.link_rules.specs.Classes.{NamedClass, classes_of, reference_at}
use Rattle.use_rules.specs.Facts.{class_entry, member_facts}
use Rattle.use_rules.proofs.MemberLaws.{numbered, there_is, class_there, class_missing, not_false}
use Rattle.use_rules.proofs.members.member_at.Goals as goal

pub member_facts-requires-clause-holder : goal.member_facts-requires-clause-holder
member_facts-requires-clause-holder c =
    let pool = c.args.unit.now.file.pool in
    let n = numbered c.args.lookup.now (reference_in pool (slice_get pool c.args.index)) c.in_ok-reference.reference (c.in_ok-reference.ensures c.args.unit.now c.requires.there) in
    n.within

pub returns-then-not-class_at : goal.returns-then-not-class_at
returns-then-not-class_at c =
    let pool = c.args.unit.now.file.pool in
    let cs : List NamedClass = classes_of c.args.lookup.now.units in
    let n = numbered c.args.lookup.now (reference_in pool (slice_get pool c.args.index)) c.in_ok-reference.reference (c.in_ok-reference.ensures c.args.unit.now c.requires.there) in
    let entry = c.class_index-class.ensures ∙ ap (λ p. class_entry (slice_get p c.args.index)) c.as_slice.ensures in
    let there = there_is cs pool c.args.index c.class_index-class.result n.reference c.class_at.result n.is entry c.class_at.ensures in
    class_missing cs c.args.place (reference_at pool c.args.index).class (sym there ∙ not-true c.class_at.result.is_there c.if-not-class_at.true)

pub returns : goal.returns
returns c =
    let pool = c.args.unit.now.file.pool in
    let cs : List NamedClass = classes_of c.args.lookup.now.units in
    let n = numbered c.args.lookup.now (reference_in pool (slice_get pool c.args.index)) c.in_ok-reference.reference (c.in_ok-reference.ensures c.args.unit.now c.requires.there) in
    let entry = c.class_index-class.ensures ∙ ap (λ p. class_entry (slice_get p c.args.index)) c.as_slice.ensures in
    let there = there_is cs pool c.args.index c.class_index-class.result n.reference c.class_at.result n.is entry c.class_at.ensures in
    let is : reference_at pool c.args.index ≡ n.reference = ap (λ o. unwrap_or o (reference_of [] [] [])) n.is in (
      class_there cs c.args.place (reference_at pool c.args.index).class (sym there ∙ not_false c.class_at.result.is_there c.if-not-class_at.false),
      c.member_facts.ensures n.reference n.numbers ∙ ap (member_facts cs c.args.place) (sym is),
    )
