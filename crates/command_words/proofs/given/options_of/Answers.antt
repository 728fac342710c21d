use Rattle.std.proofs.Common.{rules}
use Rattle.command_words.proofs.GivenLaws.{read-more, ranges-more}
use Rattle.command_words.proofs.given.options_of.Goals as goal

pub loop-word-preserved : goal.loop-word-preserved
loop-word-preserved c =
    let given = c.loop-word.given.items in
    let made = c.in_ok-option_of.field-0 in
    rw c.in_ok-push.ensures.items (record {
      read = read-more c.args.words.now given c.loop-word.word-index c.word-item.result made c.loop-word.invariant.read (search rules) (search rules) (search rules);
      ranges = ranges-more given made c.loop-word.invariant.ranges c.in_ok-option_of.ensures.range;
    })
