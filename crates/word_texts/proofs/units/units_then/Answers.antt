use Rattle.plain_words.specs.Table.{words_in}
use Rattle.word_texts.specs.OldWords.{old_at, unit_then}
use Rattle.word_texts.proofs.TextLemmas.{one_more_unit}
use Rattle.word_texts.proofs.units.units_then.Goals as goal

pub loop-i-preserved : goal.loop-i-preserved
loop-i-preserved g c = one_more_unit (unit_then (old_at c.args.old.now) (words_in c.args.machine.now.words) c.args.array) c.loop-i.i c.unit_then.result c.loop-i.units c.push.new.self
    c.loop-i.invariant c.unit_then.ensures c.in_ok-push.ensures.ok
