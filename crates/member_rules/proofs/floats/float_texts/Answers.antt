use Rattle.std.proofs.Common.{map, sym, ◌∙◌, ap}
use Rattle.std.proofs.lemmas.List.{take_all}
use Rattle.std.proofs.lemmas.Simd.{map-map}
use Rattle.link_rules.specs.Descriptors.{has_float}
use Rattle.member_rules.proofs.floats.float_texts.Goals as goal

pub returns : goal.returns
returns c =
    let items = c.all-text-items.result.now in
    c.loop-text.invariant ∙ ap (map (λ t. has_float t.now)) (take_all c.loop-text.text-index items c.loop-text-test.false)
    ∙ sym (map-map has_float (λ t. t.now) items) ∙ ap (map has_float) c.all-text-items.ensures
