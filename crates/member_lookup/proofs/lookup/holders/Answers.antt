use Rattle.std.proofs.Common.{map, sym, ◌∙◌, ap}
use Rattle.std.proofs.lemmas.List.{take_all}
use Rattle.std.proofs.lemmas.Simd.{map-map}
use Rattle.link_rules.specs.Classes.{classes_of}
use Rattle.member_lookup.specs.Found.{holder_named}
use Rattle.member_lookup.proofs.lookup.holders.Goals as goal

pub returns : goal.returns
returns c =
    let cs = classes_of c.args.supers.now in
    let items = c.all-name-items.result.now in
    c.loop-name.invariant ∙ ap (map (λ t. holder_named cs t.now)) (take_all c.loop-name.name-index items c.loop-name-test.false)
    ∙ sym (map-map (holder_named cs) (λ t. t.now) items) ∙ ap (map (holder_named cs)) c.all-name-items.ensures
