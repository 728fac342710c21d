use Rattle.std.proofs.Common.{◌-◌, sym, ◌∙◌, ap, subst}
use Rattle.std.specs.Option.{option_map, option_copied}
use Rattle.plain_words.specs.Table.{words_in}
use Rattle.thread_moves.specs.Thread.{thread_of}
use Rattle.journal_rows.specs.Told.{leaves_levels_out, after_row_call, after_row_calls}
use Rattle.journal_rows.specs.Rows.{AreRowsTold}
use Rattle.word_machine.specs.Machine.{threads_in}
use Rattle.traced_runs.proofs.EndLemmas.{end_left}
use Rattle.traced_runs.proofs.telling.tell_end.Goals as goal

pub returns-then-back-gt0 : goal.returns-then-back-gt0
returns-then-back-gt0 g c = λ s told.
    let w = words_in c.args.machine.now.words in
    let there = threads_in (thread_of g.C.ThreadCode.state g.C.ThreadCode.saved) c.args.machine.now.seats.places.items c.args.number in
    let th = thread_of g.C.ThreadCode.state g.C.ThreadCode.saved c.in-Some.thread.now in
    let left = end_left w c.args.number c.levels_back-back.result there th (ap (option_map (thread_of g.C.ThreadCode.state g.C.ThreadCode.saved)) (sym c.thread.ensures ∙ ap option_copied c.in-Some.is)) c.levels_back-back.ensures c.if-back-gt0.true in
    subst (λ calls. AreRowsTold c.leave_levels_out.new.self (after_row_calls calls s)) (sym left)
    (subst (λ n. AreRowsTold c.leave_levels_out.new.self (after_row_call (leaves_levels_out c.args.number n) s)) (c.saturating_sub-outermost.ensures ∙ ap (λ n. n - c.levels_back-back.result) c.levels.ensures)
    (c.leave_levels_out.ensures s told))
