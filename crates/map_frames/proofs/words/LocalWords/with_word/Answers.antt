use Rattle.std.proofs.Common.{ap, ◌∙◌, ◌+◌}
use Rattle.map_frames.specs.Making.{one_if}
use Rattle.map_frames.proofs.WordLaws.{words_more}
use Rattle.map_frames.proofs.words.LocalWords.with_word.Goals as goal

pub returns-clause-words : goal.returns-clause-words
returns-clause-words c = λ ws before.
    words_more c.args.stores.now c.with_local.new.stores c.args.self _ c.args.max_locals c.args.word
    c.in_ok-frame.ensures.follows c.requires.locals c.in_ok-frame.ensures.frame c.in_ok-frame.ensures.shown c.in_ok-count.ensures
    (c.in_ok-passing.ensures ∙ ap (λ b. c.args.self.passing + one_if b) c.is_passing.ensures)
    (c.in_ok-uninits.ensures ∙ ap (λ b. c.args.self.uninits + one_if b) c.is_uninit_this.ensures)
    ws before
