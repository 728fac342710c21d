use Rattle.std.proofs.Common.{◌++◌, append-nil, filter_map, ap, sym, ◌∙◌}
use Rattle.class_names.specs.Shape.{kind_of}
use Rattle.link_rules.specs.Names.{program_names, value_type}
use Rattle.named_types.proofs.NameLaws.{item_taken, item_passed}
use Rattle.named_types.proofs.types.NamedTypes.value_types.Goals as goal

pub loop-kind-init : goal.loop-kind-init
loop-kind-init c =
    ap (λ types. types ++ filter_map (value_type (program_names c.args.self.now)) c.into_iter-kind-iterator.result) c.new-types.ensures
    ∙ ap (filter_map (value_type (program_names c.args.self.now))) c.into_iter-kind-iterator.ensures.into_iter_gives

pub loop-kind-preserved-in-Continue-1 : goal.loop-kind-preserved-in-Continue-1
loop-kind-preserved-in-Continue-1 c =
    let kinds = value_type (program_names c.args.self.now) in
    ap (λ types. types ++ filter_map kinds c.next.new.self) c.in_ok-push.ensures.ok
    ∙ sym (item_taken kinds c.loop-kind.types (kind_of c.in-Some.kind) c.loop-kind.kind-iterator c.next.new.self c.in-Some-value_type.value c.in-Some.ensures.steps (sym c.value_type.ensures ∙ c.in-Some-value_type.is))
    ∙ c.loop-kind.invariant

pub loop-kind-preserved : goal.loop-kind-preserved
loop-kind-preserved c =
    sym (item_passed (value_type (program_names c.args.self.now)) c.loop-kind.types (kind_of c.in-Some.kind) c.loop-kind.kind-iterator c.next.new.self c.in-Some.ensures.steps (sym c.value_type.ensures ∙ c.in_default.is))
    ∙ c.loop-kind.invariant

pub returns : goal.returns
returns c = sym (append-nil c.loop-kind.types) ∙ ap (λ kinds. c.loop-kind.types ++ filter_map (value_type (program_names c.args.self.now)) kinds) (sym c.in-None.ensures.steps.0) ∙ c.loop-kind.invariant
