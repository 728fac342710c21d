use Rattle.std.proofs.Common.{◌<◌, ◌∙◌, arith}
use Rattle.std.proofs.lemmas.Option.{slice_get_within}
use Rattle.std.proofs.lemmas.Result.{OkIff-decides}
use Rattle.array_classes.proofs.arrays.ArrayNumbers.place.Goals as goal

pub returns-in-Some-clause-there : goal.returns-in-Some-clause-there
returns-in-Some-clause-there c = λ us are h.
    let within = slice_get_within c.args.self.now.order.bases.items c.in-Some.place c.args.base (c.place.ensures.found us are.order_is c.in-Some.place c.in-Some.is) in
    let few = are.few in
    let many = are.most_is.count in
    let fits : c.in-Some.place < 4294967296 = omega (arith, within, few, many) in
    c.ok.ensures.variant ∙ (OkIff-decides c.try_from.result (c.in-Some.place < 4294967296) c.in-Some.place c.try_from.ensures).1 fits
