use Rattle.code_decode.specs.Method.{IsCodeOf, CodeOfRefuses}
use Rattle.code_decode.proofs.MethodLaws.{answer_found, answer_only, answer_exact, answer_first}
use Rattle.code_decode.proofs.method.decode.Goals as goal

pub returns-clause-found : goal.returns-clause-found
returns-clause-found c = answer_found (IsCodeOf c.args.file.now c.args.method) (CodeOfRefuses c.args.file.now c.args.method) c.code_of.result c.code_of.ensures

pub returns-clause-only : goal.returns-clause-only
returns-clause-only c = answer_only (IsCodeOf c.args.file.now c.args.method) (CodeOfRefuses c.args.file.now c.args.method) c.code_of.result c.code_of.ensures

pub returns-clause-exact : goal.returns-clause-exact
returns-clause-exact c = answer_exact (IsCodeOf c.args.file.now c.args.method) (CodeOfRefuses c.args.file.now c.args.method) c.code_of.result c.code_of.ensures

pub returns-clause-first : goal.returns-clause-first
returns-clause-first c = answer_first (IsCodeOf c.args.file.now c.args.method) (CodeOfRefuses c.args.file.now c.args.method) c.code_of.result c.code_of.ensures
