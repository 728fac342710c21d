use Rattle.std.proofs.Common.{filter_map, option_map, option_to_list, subst, sym}
use Rattle.std.proofs.lemmas.List.Elements.{filter_map-append}
use Rattle.class_names.specs.Shape.{kind_of}
use Rattle.link_rules.specs.Descriptors.{class_of_kind}
use Rattle.named_types.specs.Others.{HasMore}
use Rattle.named_types.proofs.NameLaws.{then_more}
use Rattle.named_types.proofs.pool_names.add_method.Goals as goal

pub returns : goal.returns
returns c =
    let parameters = c.args.shape.parameters in
    let returned = option_to_list (option_map kind_of c.args.shape.returned) in
    let both = then_more c.args.names.now c.add_kinds.new.names c.add_returned.new.names (filter_map class_of_kind parameters) (filter_map class_of_kind returned) c.in_ok-add_kinds.ensures c.in_ok-add_returned.ensures in
    subst (HasMore c.args.names.now c.add_returned.new.names) (sym (filter_map-append class_of_kind parameters returned)) both
