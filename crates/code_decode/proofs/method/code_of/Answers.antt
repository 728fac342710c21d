use Rattle.std.proofs.Common.{sym, ap, ◌∙◌}
use Rattle.std.specs.Prelude.{slice_get}
use Rattle.code_decode.specs.Method.{IsMethodWith}
use Rattle.code_decode.proofs.MethodLaws.{with_number}
use Rattle.code_decode.proofs.FileLaws.{method_type, few_handlers}
use Rattle.code_decode.proofs.method.code_of.Goals as goal

there_at : (c : goal.In-Some-code) → IsMethodWith c.args.file.now c.args.method c.in-Some.member.now c.in-Some-code.attribute
there_at c = (ap (λ n. slice_get c.args.file.now.methods n) (sym c.from.ensures) ∙ sym c.in-Some.ensures, c.in-Some-code.is)

pub method_code-requires-clause-kind : goal.method_code-requires-clause-kind
method_code-requires-clause-kind c = rw c.requires.pool (method_type c.args.file.now c.args.method c.in-Some.member.now c.requires.file (there_at c).0)

pub method_code-requires-clause-count : goal.method_code-requires-clause-count
method_code-requires-clause-count c = few_handlers c.args.file.now c.args.method c.in-Some.member.now c.in-Some-code.attribute c.requires.file (there_at c)

pub returns : goal.returns
returns c =
    let there : IsMethodWith c.args.file.now c.args.method c.in-Some.member.now c.in-Some-code.attribute =
    (ap (λ n. slice_get c.args.file.now.methods n) (sym c.from.ensures) ∙ sym c.in-Some.ensures, c.in-Some-code.is) in
    with_number c.args.file.now c.args.method c.in-Some.member.now c.in-Some-code.attribute c.method_code.result there
    (rw c.requires.pool at c.method_code.ensures)
