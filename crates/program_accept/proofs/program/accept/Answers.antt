use Rattle.std.proofs.Common.{map}
use Rattle.std.proofs.lemmas.Result.{IfOk-weaker}
use Rattle.program_accept.specs.Accepted.{IsOnlyProgram, program_rules}
use Rattle.program_accept.proofs.AnswerLaws.{is_accepted, is_only, is_exact, is_first}
use Rattle.program_accept.proofs.program.accept.Goals as goal

pub returns-clause-accepted : goal.returns-clause-accepted
returns-clause-accepted c =
    let files = map (λ f. f.items) c.args.files.items in
    let main = c.args.main.now in
    IfOk-weaker c.accept_files.result _ _ (λ p its. its.is) (is_accepted (program_rules files main) (IsOnlyProgram files main) c.accept_files.result c.accept_files.ensures)

pub returns-clause-alone : goal.returns-clause-alone
returns-clause-alone c =
    let files = map (λ f. f.items) c.args.files.items in
    let main = c.args.main.now in
    IfOk-weaker c.accept_files.result _ _ (λ p its. its.only) (is_accepted (program_rules files main) (IsOnlyProgram files main) c.accept_files.result c.accept_files.ensures)

pub returns-clause-only : goal.returns-clause-only
returns-clause-only c =
    is_only (program_rules (map (λ f. f.items) c.args.files.items) c.args.main.now) (IsOnlyProgram (map (λ f. f.items) c.args.files.items) c.args.main.now) c.accept_files.result c.accept_files.ensures

pub returns-clause-exact : goal.returns-clause-exact
returns-clause-exact c =
    is_exact (program_rules (map (λ f. f.items) c.args.files.items) c.args.main.now) (IsOnlyProgram (map (λ f. f.items) c.args.files.items) c.args.main.now) c.accept_files.result c.accept_files.ensures

pub returns-clause-first : goal.returns-clause-first
returns-clause-first c =
    is_first (program_rules (map (λ f. f.items) c.args.files.items) c.args.main.now) (IsOnlyProgram (map (λ f. f.items) c.args.files.items) c.args.main.now) c.accept_files.result c.accept_files.ensures
