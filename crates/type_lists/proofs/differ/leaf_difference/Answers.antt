use Rattle.std.proofs.Common.{sym}
use Rattle.type_lists.specs.Parts.{leaf_word}
use Rattle.type_lists.proofs.DifferLaws.{next_same}
use Rattle.type_lists.proofs.differ.leaf_difference.Goals as goal

pub loop-place-preserved : goal.loop-place-preserved
loop-place-preserved c =
    next_same (leaf_word c.args.parts.now c.args.before) (leaf_word c.args.parts.now c.args.after) c.words_of_leaf-olds.result c.words_of_leaf-news.result c.args.from c.loop-place.place
    c.words_of_leaf-olds.ensures c.words_of_leaf-news.ensures (sym c.if-not-is_same_type.ensures) c.loop-place.invariant
