use Rattle.std.proofs.Common.{take}
use Rattle.base_order.specs.Sorted.{KnowsTexts}
use Rattle.base_order.proofs.sorting.by_text.Given as goal

abbrev pub invariant-loop-text : goal.invariant-loop-text
invariant-loop-text l = KnowsTexts (take l.text-index l.texts) l.known
