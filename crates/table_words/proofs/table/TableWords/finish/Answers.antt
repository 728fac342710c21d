use Rattle.std.proofs.Common.{ℕ, List, sym, subst, ap, ◌∙◌}
use Rattle.heap_words.specs.declared.areas.Areas.{Areas}
use Rattle.step_port.specs.Words.{Words}
use Rattle.plain_words.specs.Block.{word_at, words_of}
use Rattle.std.specs.Mem.Slots.{slots_items}
use Rattle.plain_words.specs.Table.{words_in}
use Rattle.table_words.specs.Ends.{HaveAllThreads, IsWholeRun}
use Rattle.table_words.specs.Tables.{setup_in, parts_of_seat}
use Rattle.table_words.proofs.Wholes.{whole}
use Rattle.table_words.proofs.table.TableWords.finish.Goals as goal

pub returns-clause-words : goal.returns-clause-words
returns-clause-words g c =
    let k = setup_in c.args.self in
    let parts = c.join_all-seat.ensures.all in
    let w = whole g.C.ThreadCode.state g.C.ThreadCode.code k _ _ _ _ (subst HaveAllThreads (sym parts) c.requires.all) c.close_with-closed.ensures.values.2 in
    let ws = slots_items c.close_with-closed.result.words in
    let words = c.of_block.ensures.words
    ∙ ap (λ (l : List ℕ). words_of c.args.self.areas (word_at l)) c.copy_words.ensures
    ∙ ap (λ (a : Areas). words_of a (word_at ws)) c.args.self.areas_are in
    subst (λ ps. IsWholeRun g.C.ThreadCode.state g.C.ThreadCode.code k (words_in c.of_block.result) ps) parts
    (subst (λ (v : Words). IsWholeRun g.C.ThreadCode.state g.C.ThreadCode.code k v (parts_of_seat c.join_all-seat.result)) (sym words) w)
