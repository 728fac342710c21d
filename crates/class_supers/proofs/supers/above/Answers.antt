use Rattle.std.proofs.Common.{◌≡◌, length, ap, ◌∙◌, arith}
use Rattle.std.proofs.lemmas.List.{length-map}
use Rattle.link_rules.specs.Classes.{classes_of, class_number}
use Rattle.link_rules.proofs.Numbers.{class_count_is}
use Rattle.class_supers.specs.Headers.{header_by}
use Rattle.class_supers.proofs.HierarchyLaws.{headers_are_within, above_is}
use Rattle.class_supers.proofs.supers.above.Goals as goal

pub named_classes-requires-clause-count : goal.named_classes-requires-clause-count
named_classes-requires-clause-count c =
    let cs = classes_of c.args.units.now in
    let many : length c.args.headers.now ≡ length (classes_of c.args.units.now) = ap length c.requires.headers ∙ length-map (classes_of c.args.units.now) (header_by (class_number (classes_of c.args.units.now))) in
    omega (arith, many, class_count_is c.args.units.now, c.requires.few)

pub named_classes-requires-clause-named : goal.named_classes-requires-clause-named
named_classes-requires-clause-named c = headers_are_within (classes_of c.args.units.now) c.args.headers.now c.requires.headers

pub returns-clause-above : goal.returns-clause-above
returns-clause-above c = above_is (classes_of c.args.units.now) c.args.headers.now _ _ c.requires.headers c.in_ok-named_classes.ensures.related c.in_ok-above.ensures.closure
