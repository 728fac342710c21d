use Rattle.std.proofs.Common.{ap, ◌∙◌, ◌-◌}
use Rattle.map_frames.specs.Making.{one_if}
use Rattle.map_frames.proofs.WordLaws.{words_less}
use Rattle.map_frames.proofs.words.LocalWords.without_word.Goals as goal

pub returns-clause-words : goal.returns-clause-words
returns-clause-words c = λ ws before.
    words_less c.args.stores.now c.with_local.new.stores c.args.self _ c.args.max_locals c.args.word
    c.in_ok-frame.ensures.follows c.requires.locals c.in_ok-frame.ensures.frame c.in_ok-frame.ensures.shown c.uncounted-count.ensures
    (c.uncounted-passing.ensures ∙ ap (λ b. c.args.self.passing - one_if b) c.is_passing.ensures)
    (c.uncounted-uninits.ensures ∙ ap (λ b. c.args.self.uninits - one_if b) c.is_uninit_this.ensures)
    ws before
