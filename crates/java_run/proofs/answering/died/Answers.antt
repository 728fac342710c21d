use Rattle.std.proofs.Common.{rules, ◌<◌, ◌++◌, ◌∷◌, [], None, length, filter_map, get_or, sym, ap, ◌∙◌}
use Rattle.std.proofs.lemmas.Option.{slice_get-get_or}
use Rattle.java_machine.specs.Ends.{died_line}
use Rattle.op_core.specs.declared.ThreadEnd.{ThreadEnd}
use Rattle.java_run.proofs.AnswerLemmas.{item_more}
use Rattle.java_run.proofs.answering.died.Goals as goal

pub loop-end-preserved : goal.loop-end-preserved
loop-end-preserved c =
    let h = died_line c.args.world.now in
    let none : ThreadEnd = record { thread = 0; class = None } in
    let ended = c.args.ended.now in
    let place = c.loop-end.end-index in
    let end = get_or ended place none in
    let inside : place < length ended = search rules in
    c.in_ok-push_died.ensures
    ∙ ap (λ es. es ++ filter_map h (end ∷ [])) c.loop-end.invariant
    ∙ sym (item_more h ended place end (slice_get-get_or ended place none inside))
