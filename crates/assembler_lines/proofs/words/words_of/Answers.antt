use Rattle.std.proofs.Common.{◌∙◌}
use Rattle.std.proofs.lemmas.Result.{err_from_is_err_and}
use Rattle.class_names.proofs.Cases.{empty_is, full_is}
use Rattle.assembler_lines.proofs.WordLaws.{first_word, words_end, words_more, words_bad}
use Rattle.assembler_lines.proofs.words.words_of.Goals as goal

pub returns-in_err-word-clause-only : goal.returns-in_err-word-clause-only
returns-in_err-word-clause-only c words are =
    let o = c.loop-words.invariant.on words are in
    let f = first_word c.loop-words.rest.now o.0 o.2 in
    let p = err_from_is_err_and c.from_residual.result c.from_residual.ensures.1 in
    rw p.1 (p.2 ∙ c.in_err-word.ensures.only f.word f.after f.stands f.end)

pub returns-then-is_empty-clause-only : goal.returns-then-is_empty-clause-only
returns-then-is_empty-clause-only c words are =
    c.in_ok-push.ensures.items ∙ words_end c.args.text.now c.loop-words.rest.now c.loop-words.words.items c.in_ok-word.word c.in_ok-word.after.now words c.loop-words.invariant c.in_ok-word.ensures.only (empty_is _ _ c.is_empty.ensures c.if-is_empty.true) are

pub loop-words-preserved : goal.loop-words-preserved
loop-words-preserved c =
    rw c.in_ok-push.ensures.items (words_more c.args.text.now c.loop-words.rest.now c.loop-words.words.items c.in_ok-word.word c.in_ok-word.after.now c.in-Some.behind.now c.loop-words.invariant c.in_ok-word.ensures.found c.in_ok-word.ensures.only c.in-Some.ensures)

pub returns-in-None-clause-only : goal.returns-in-None-clause-only
returns-in-None-clause-only c words are =
    absurd (words_bad c.args.text.now c.loop-words.rest.now c.loop-words.words.items c.in_ok-word.word c.in_ok-word.after.now words c.loop-words.invariant c.in_ok-word.ensures.only (full_is _ _ c.is_empty.ensures c.if-is_empty.false) c.in-None.ensures are)
