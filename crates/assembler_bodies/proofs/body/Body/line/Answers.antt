use Rattle.std.proofs.Common.{◌≡◌, false, true, Some, sym, ◌∙◌, rules}
use Rattle.assembler_lines.specs.declared.line.Line.TheVariants.{Label}
use Rattle.assembler_bodies.specs.Marks.{marks_of}
use Rattle.assembler_bodies.specs.Body.{is_first_at}
use Rattle.assembler_bodies.proofs.LineLaws.{label_first, label_again}
use Rattle.assembler_bodies.proofs.body.Body.line.Goals as goal

pub returns-then-not-is_first-clause-gives : goal.returns-then-not-is_first-clause-gives
returns-then-not-is_first-clause-gives c =
    let marks = marks_of c.args.labels.now in
    let name = c.in-Some-Label.name in
    let is : c.args.numbered.now.line ≡ Some (Label name) = search rules in
    let other : is_first_at c.args.numbered.now.number (marks name) ≡ false = rw c.as_slice.ensures at (sym c.is_first.ensures ∙ c.if-not-is_first.true) in
    label_again marks c.args.numbered.now.number c.args.numbered.now.line name c.args.self.now c.args.pool.now is other

pub returns-else-not-is_first-clause-gives : goal.returns-else-not-is_first-clause-gives
returns-else-not-is_first-clause-gives c =
    let marks = marks_of c.args.labels.now in
    let name = c.in-Some-Label.name in
    let is : c.args.numbered.now.line ≡ Some (Label name) = search rules in
    let first : is_first_at c.args.numbered.now.number (marks name) ≡ true = rw c.as_slice.ensures at (sym c.is_first.ensures ∙ c.if-not-is_first.false) in
    label_first marks c.args.numbered.now.number c.args.numbered.now.line name c.args.self.now c.args.pool.now is first
