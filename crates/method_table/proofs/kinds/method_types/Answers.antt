use Rattle.std.proofs.Common.{map, sym, ◌∙◌, ap}
use Rattle.std.proofs.lemmas.List.{take_all}
use Rattle.std.proofs.lemmas.Simd.{map-map}
use Rattle.link_rules.specs.Names.{program_names}
use Rattle.named_types.specs.Methods.{method_type}
use Rattle.method_table.proofs.kinds.method_types.Goals as goal

pub returns : goal.returns
returns c =
    let p = program_names c.args.types.now in
    let items = c.all-text-items.result.now in
    c.loop-text.invariant ∙ ap (map (λ t. method_type p t.now)) (take_all c.loop-text.text-index items c.loop-text-test.false)
    ∙ sym (map-map (method_type p) (λ t. t.now) items) ∙ ap (map (method_type p)) c.all-text-items.ensures
