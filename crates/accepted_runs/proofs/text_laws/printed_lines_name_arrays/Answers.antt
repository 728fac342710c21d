use Rattle.accepted_runs.proofs.PrintedLemmas.{lines_name_arrays}
use Rattle.accepted_runs.proofs.text_laws.printed_lines_name_arrays.Goals as goal

pub returns : goal.returns
returns c files name is =
    let (order, sound, main) = c.accepted_programs_go_in_order.ensures.sound files name is in
    lines_name_arrays c.args.program.now.units order sound c.args.program.now.main (c.accepted_programs_go_in_order.ensures.runs files name is) (c.accepted_texts_never_change.ensures files name is)
