use Rattle.std.proofs.Common.{◌-◌, length, ◌∙◌, sym}
use Rattle.assembler_text.proofs.NumberLaws.{numbered_passed, numbered_more, left_fits, numbered_all, numbered_only}
use Rattle.assembler_text.proofs.lines.lines_of.Goals as goal
use Rattle.assembler_text.proofs.lines.lines_of.Goals.{then-not-is_passed+in_ok-line+in_ok-push, else-not-is_passed}

pub loop-line-preserved : goal.loop-line-preserved
loop-line-preserved c =
    let text = c.args.text.now in
    let rest = c.loop-line.rest.now in
    let line = c.in-Some.line.now in
    let after = c.in-Some.after.now in
    let so_far = c.loop-line.invariant in
    let first = c.in-Some.ensures in
    let ends = left_fits text rest line after c.loop-line.number c.loop-line.lines so_far first in
    elim c.if-not-is_passed.branch [
      | then-not-is_passed+in_ok-line+in_ok-push w ↦
          rw (w.lines-is ∙ w.in_ok-push.ensures.ok)
          (numbered_more text rest line after c.loop-line.number (length text - length after) w.in_ok-line.line c.loop-line.lines so_far first ends (sym c.is_passed.ensures ∙ w.if-not-is_passed.true) w.in_ok-line.ensures.found w.in_ok-line.ensures.only)
      | else-not-is_passed w ↦ rw w.lines-is (numbered_passed text rest line after c.loop-line.number (length text - length after) c.loop-line.lines so_far first ends (sym c.is_passed.ensures ∙ w.if-not-is_passed.false))
    ]

pub returns-clause-found : goal.returns-clause-found
returns-clause-found c = numbered_all c.args.text.now c.loop-line.rest.now c.loop-line.number c.loop-line.lines c.loop-line.invariant c.in_default.ensures

pub returns-clause-only : goal.returns-clause-only
returns-clause-only c = numbered_only c.args.text.now c.loop-line.rest.now c.loop-line.number c.loop-line.lines c.loop-line.invariant c.in_default.ensures
