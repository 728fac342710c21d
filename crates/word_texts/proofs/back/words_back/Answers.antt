use Rattle.std.proofs.Common.{◌-◌, length, reverse, drop, sym, ◌∙◌, ap, arith}
use Rattle.std.proofs.lemmas.List.{length-drop, take_all}
use Rattle.thread_automaton.specs.ThreadState.{noted_since}
use Rattle.word_texts.proofs.BackLemmas.{since_reverse}
use Rattle.word_texts.proofs.back.words_back.Goals as goal

pub returns : goal.returns
returns g c =
    let log = c.log-log.result.now in
    let from = c.min-from.result in
    c.staying.ensures ∙ ap (noted_since c.staying.result) c.log-log.ensures ∙ since_reverse c.staying.result from log (omega arith) (omega arith)
    ∙ ap reverse (sym (take_all (length log - from) (drop from log) (omega (arith, length-drop from log))))
