use Rattle.std.proofs.Common.{sym, subst}
use Rattle.program_accept.specs.Accepted.{read_rules}
use Rattle.program_accept.specs.Answers.{Fails}
use Rattle.program_accept.proofs.StageLaws.{file_passes, file_fails}
use Rattle.program_accept.proofs.reading.read_file.Goals as goal

pub returns-in-Ok : goal.returns-in-Ok
returns-in-Ok c = file_passes c.args.place c.args.bytes.now c.in-Ok.file c.in-Ok.ensures.found c.in-Ok.ensures.first

pub returns-in-Err : goal.returns-in-Err
returns-in-Err c =
    subst (Fails (read_rules c.args.place c.args.bytes.now)) (sym c.read_refused.ensures)
    (file_fails c.args.place c.args.bytes.now c.in-Err.refusal c.in-Err.ensures.exact c.in-Err.ensures.first c.in-Err.ensures.only)
