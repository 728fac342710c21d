use Rattle.std.proofs.Common.{◌≡◌, Some, sym, ap, ◌∙◌}
use Rattle.std.specs.Prelude.{slice_get}
use Rattle.code_vectors.proofs.show_method.Goals as goal

pub decode-requires-clause-code : goal.decode-requires-clause-code
decode-requires-clause-code g c =
    let there : slice_get c.args.file.now.methods c.args.method ≡ Some c.in-Some.member.now = ap (λ n. slice_get c.args.file.now.methods n) (sym c.from.ensures) ∙ sym c.in-Some.ensures in
    (c.in-Some.member.now, c.in-Some-code.field-0, (there, c.in-Some-code.is))
