use Rattle.std.proofs.Common.{filter_map, subst, sym}
use Rattle.class_names.specs.Shape.{kind_of}
use Rattle.link_rules.specs.Descriptors.{class_of_kind}
use Rattle.named_types.specs.Others.{HasMore}
use Rattle.named_types.proofs.NameLaws.{none_more, more_kinds}
use Rattle.named_types.proofs.pool_names.add_kinds.Goals as goal

pub loop-kind-init : goal.loop-kind-init
loop-kind-init c = λ last more. subst (λ kinds. HasMore c.args.names.now last (filter_map class_of_kind kinds)) c.into_iter-kind-iterator.ensures.into_iter_gives more

pub loop-kind-preserved : goal.loop-kind-preserved
loop-kind-preserved c = λ last more. c.loop-kind.invariant last
    (more_kinds c.loop-kind.names c.add_kind.new.names last (kind_of c.in-Some.kind) c.loop-kind.kind-iterator c.next.new.self c.in-Some.ensures.steps c.in_ok-add_kind.ensures more)

pub returns : goal.returns
returns c = c.loop-kind.invariant c.loop-kind.names
    (subst (λ kinds. HasMore c.loop-kind.names c.loop-kind.names (filter_map class_of_kind kinds)) (sym c.in-None.ensures.steps.0) (none_more c.loop-kind.names))
