use Rattle.accepted_runs.proofs.LeftLemmas.{turns_tell_texts}
use Rattle.accepted_runs.proofs.text_laws.accepted_turns_tell_texts.Goals as goal

pub returns : goal.returns
returns c files name is = turns_tell_texts c.args.program.now.units c.args.program.now.main (c.printed_lines_name_arrays.ensures files name is)
