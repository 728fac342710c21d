use Rattle.std.proofs.Common.{sym, arith, below_more}
use Rattle.type_lists.specs.Parts.{leaf_word}
use Rattle.type_lists.proofs.ComparedLaws.{in_leaves}
use Rattle.type_lists.proofs.compare.are_leaves_assignable.Goals as goal

pub loop-place-preserved : goal.loop-place-preserved
loop-place-preserved g c = record {
  lows = c.loop-place.invariant.lows;
  highs = c.loop-place.invariant.highs;
  so_far = below_more _ _ c.loop-place.invariant.so_far (sym c.if-not-is_assignable.ensures);
}

pub returns : goal.returns
returns g c =
    in_leaves (g.H.ClassHierarchy.hierarchy c.args.hierarchy.now) c.words_of_leaf-lows.result c.words_of_leaf-highs.result
    (leaf_word c.args.parts.now c.args.low) (leaf_word c.args.parts.now c.args.high) c.loop-place.place
    c.words_of_leaf-lows.ensures c.words_of_leaf-highs.ensures (omega (arith, c.loop-place-test.false)) c.loop-place.invariant.so_far
