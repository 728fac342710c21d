use Rattle.std.proofs.Common.{◌∙◌, sym, ap}
use Rattle.fixed_objects.specs.declared.Opening.{Opening}
use Rattle.heap_words.specs.declared.areas.Areas.{Areas}
use Rattle.heap_words.specs.Areas.{size_of}
use Rattle.plain_words.specs.Block.{word_at, words_of}
use Rattle.plain_words.specs.Opening.{areas_of, opening_words}
use Rattle.table_words.proofs.Splits.{opens}
use Rattle.table_words.proofs.table.TableWords.new.Goals as goal

pub of_words-requires : goal.of_words-requires
of_words-requires g c =
    let areas = c.in_ok-words.ensures.areas ∙ ap (λ (o : Opening). areas_of o c.args.limits.now) (sym c.of.ensures) in
    opens g.C.ThreadCode.state g.C.ThreadCode.code _ _
    (c.block.ensures.size ∙ ap size_of areas)
    (ap (λ (k : Areas). words_of k (word_at c.block.result.now)) (sym areas) ∙ c.block.ensures.words ∙ c.in_ok-words.ensures.words ∙ ap opening_words (sym c.of.ensures))
