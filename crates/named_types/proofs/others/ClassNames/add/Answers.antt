use Rattle.std.proofs.Common.{◌≡◌, ◌+◌, ◌∷◌, ◌++◌, [], length, length-append, arith, ◌∙◌}
use Rattle.named_types.specs.Others.{place_in}
use Rattle.named_types.proofs.PlaceLaws.{one_more}
use Rattle.named_types.proofs.others.ClassNames.add.Goals as goal

pub returns : goal.returns
returns c = λ names are. record {
  places = λ q. c.in_ok-put.ensures.places q ∙ one_more (place_in c.args.self.now.places) names c.args.name.now c.args.self.now.count are.places are.count q;
  count =
      let many : length (names ++ c.args.name.now ∷ []) ≡ length names + 1 = length-append names (c.args.name.now ∷ []) in
      grind (arith, many, are.count, c.in_ok-count.ensures, c.checked_add.ensures);
}
