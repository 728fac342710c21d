use Rattle.std.proofs.Common.{◌≡◌, None, Some, sym, ap, ◌∙◌}
use Rattle.std.specs.Prelude.{slice_get}
use Rattle.std.proofs.lemmas.Result.{err_from_is_err_and}
use Rattle.code_decode.specs.Method.{IsCodeOf, CodeOfRefuses}
use Rattle.code_decode.specs.Unit.{IsCodeEntry}
use Rattle.code_decode.proofs.CodeLaws.{refused_by}
use Rattle.code_decode.proofs.HandlerLaws.{item_at}
use Rattle.code_decode.proofs.UnitLaws.{with_code, with_refusal, without_code}
use Rattle.code_decode.proofs.unit.code_entry.Goals as goal

pub returns-in_err-code-in-Some-code : goal.returns-in_err-code-in-Some-code
returns-in_err-code-in-Some-code c =
    let p = err_from_is_err_and c.from_residual.result c.from_residual.ensures.1 in
    rw (p.1, p.2)
    (refused_by (IsCodeOf c.args.file.now c.args.method) (IsCodeEntry c.args.file.now c.args.method) (CodeOfRefuses c.args.file.now c.args.method) (CodeOfRefuses c.args.file.now c.args.method) c.in_err-code-in-Some-code.field-0.0
    (with_refusal c.args.file.now c.args.method c.in_err-code-in-Some-code.field-0.0)
    c.in_err-code-in-Some-code.ensures)

pub unreachable-requires : goal.unreachable-requires
unreachable-requires c =
    let none : slice_get c.args.file.now.methods c.args.method ≡ None = ap (λ n. slice_get c.args.file.now.methods n) (sym c.from.ensures) ∙ sym c.in-None.ensures in
    let some = item_at c.args.file.now.methods c.args.method c.requires.method in
    let both : Some some.0 ≡ None = sym some.1 ∙ none in
    cc

pub returns-in_ok-code-in-Some-code : goal.returns-in_ok-code-in-Some-code
returns-in_ok-code-in-Some-code c = with_code c.args.file.now c.args.method c.in_ok-code-in-Some-code.code c.in_ok-code-in-Some-code.ensures

pub code_of-requires-clause-code : goal.code_of-requires-clause-code
code_of-requires-clause-code c =
    let there : slice_get c.args.file.now.methods c.args.method ≡ Some c.in-Some.member.now = ap (λ n. slice_get c.args.file.now.methods n) (sym c.from.ensures) ∙ sym c.in-Some.ensures in
    (c.in-Some.member.now, c.in-Some-code.field-0, (there, c.in-Some-code.is))

pub returns-in-None-code : goal.returns-in-None-code
returns-in-None-code c =
    let there : slice_get c.args.file.now.methods c.args.method ≡ Some c.in-Some.member.now = ap (λ n. slice_get c.args.file.now.methods n) (sym c.from.ensures) ∙ sym c.in-Some.ensures in
    without_code c.args.file.now c.args.method c.in-Some.member.now there c.in-None-code.is
