use Rattle.std.proofs.Common.{map}
use Rattle.program_accept.specs.declared.refusal.AcceptRefusal.TheVariants.{NoMain, Refused}
use Rattle.program_accept.specs.Accepted.{program_rules}
use Rattle.why_main.proofs.FirstRule.{refuses}
use Rattle.why_main.proofs.judge.Goals as goal

pub returns-in-Err-NoMain : goal.returns-in-Err-NoMain
returns-in-Err-NoMain c =
    let at = c.in-Err-NoMain in
    refuses (program_rules (map (λ f. f.items) c.args.files.items) c.args.main.now) at.field-0 NoMain at.ensures.exact at.field-0-is (λ e. cc)

pub returns-in-Err-Refused : goal.returns-in-Err-Refused
returns-in-Err-Refused c =
    let at = c.in-Err-Refused in
    refuses (program_rules (map (λ f. f.items) c.args.files.items) c.args.main.now) at.field-0 (Refused at.refusal) at.ensures.exact at.field-0-is (λ e. cc)
