use Rattle.assembler_lines.proofs.PieceLaws.{piece_shorter}
use Rattle.assembler_lines.proofs.WordLaws.{quoted_more, quoted_found, quoted_end}
use Rattle.std.proofs.Common.{◌≡◌, ◌∙◌, ◌∷◌, sym}
use Rattle.assembler_lines.proofs.words.quoted_text.Goals as goal

pub loop-unit-smaller : goal.loop-unit-smaller
loop-unit-smaller c = piece_shorter c.loop-unit.rest.now c.in-Some.unit c.in-Some.after.now c.in-Some.ensures

pub loop-unit-preserved : goal.loop-unit-preserved
loop-unit-preserved c = rw c.in_ok-push.ensures.items (quoted_more c.args.bytes.now c.loop-unit.rest.now c.loop-unit.units.items c.in-Some.unit c.in-Some.after.now c.loop-unit.invariant c.in-Some.ensures)

pub returns-in-Some-after_byte-clause-found : goal.returns-in-Some-after_byte-clause-found
returns-in-Some-after_byte-clause-found c = rw c.from_vec.ensures (quoted_found c.args.bytes.now c.loop-unit.rest.now c.loop-unit.units.items c.in-Some-after_byte.after.now c.loop-unit.invariant c.in-Some-after_byte.ensures)

pub returns-in-Some-after_byte-clause-only : goal.returns-in-Some-after_byte-clause-only
returns-in-Some-after_byte-clause-only c units rest is =
    let q = quoted_end c.args.bytes.now c.loop-unit.rest.now c.loop-unit.units.items units rest c.loop-unit.invariant c.in_default.ensures is in
    let whole : 34 ∷ c.in-Some-after_byte.after.now ≡ 34 ∷ rest = sym c.in-Some-after_byte.ensures ∙ q.1 in
    (c.from_vec.ensures ∙ q.0, cc)

pub returns-clause-only : goal.returns-clause-only
returns-clause-only c units rest is =
    let q = quoted_end c.args.bytes.now c.loop-unit.rest.now c.loop-unit.units.items units rest c.loop-unit.invariant c.in_default.ensures is in
    absurd (c.in-None.ensures rest q.1)
