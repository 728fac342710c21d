use Rattle.std.proofs.Common.{◌∙◌, ap, sym, List, ℕ}
use Rattle.std.proofs.lemmas.Result.{err_from_is_err_and}
use Rattle.assembler_lines.specs.declared.word.Word.TheVariants.{Quoted}
use Rattle.assembler_lines.proofs.WordLaws.{quoted_only, quoted_stands}
use Rattle.assembler_lines.proofs.words.quoted_word.Goals as goal

pub returns-in_err-units-clause-only : goal.returns-in_err-units-clause-only
returns-in_err-units-clause-only c word rest is =
    let q = quoted_only c.args.bytes.now word rest is in
    let p = err_from_is_err_and c.from_residual.result c.from_residual.ensures.1 in
    rw p.1 (p.2 ∙ c.in_err-units.ensures.only q.0 rest q.2)

pub returns-clause-found : goal.returns-clause-found
returns-clause-found c = quoted_stands c.args.bytes.now c.in_ok-units.units c.in_ok-units.after.now c.in_ok-units.ensures.found

pub returns-clause-only : goal.returns-clause-only
returns-clause-only c word rest is =
    let q = quoted_only c.args.bytes.now word rest is in
    let same = c.in_ok-units.ensures.only q.0 rest q.2 in
    (ap (λ (u : List ℕ). Quoted u) same.0 ∙ sym q.1, same.1)
