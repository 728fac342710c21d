use Rattle.std.proofs.Common.{◌∙◌, ◌<◌, Some, IsSome, length, ap, sym, subst, arith}
use Rattle.std.proofs.lemmas.Option.{slice_get-get_or}
use Rattle.link_rules.specs.Classes.{classes_of}
use Rattle.base_order.specs.Slots.{kept_at}
use Rattle.base_order.proofs.PlaceLaws.{kept_there, has_slot}
use Rattle.base_order.proofs.order.BaseOrder.place.Goals as goal

pub returns-clause-there : goal.returns-clause-there
returns-clause-there c = λ us are h.
    let at = slice_get-get_or c.args.self.now.bases.items h.0 c.args.base h.1 ∙ ap (λ x. Some x) h.2 in
    let slot = has_slot (classes_of us) c.args.base (are.bases.only c.args.base h) in
    let within : slot.0 < length c.args.self.now.places.items = (let lt = slot.2 in let count = are.count in omega arith) in
    subst (λ o. IsSome o) (sym (c.place_in.ensures ∙ ap (λ ps. kept_at ps c.args.base) c.deref.ensures.value))
    (kept_there c.args.self.now.bases.items c.args.self.now.places.items h.0 slot.0 c.args.base are.places at slot.1 within)
