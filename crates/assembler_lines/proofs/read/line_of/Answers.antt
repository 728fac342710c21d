use Rattle.assembler_lines.proofs.LineLaws.{line_found, line_only, line_exact}
use Rattle.assembler_lines.proofs.read.line_of.Goals as goal

pub returns-clause-found : goal.returns-clause-found
returns-clause-found c = line_found c.args.text.now c.in_ok-words.words.items c.said_line.result c.in_ok-words.ensures.found (rw c.as_slice.ensures.value at c.said_line.ensures)

pub returns-clause-only : goal.returns-clause-only
returns-clause-only c = line_only c.args.text.now c.in_ok-words.words.items c.said_line.result c.in_ok-words.ensures.found (rw c.as_slice.ensures.value at c.said_line.ensures)

pub returns-clause-exact : goal.returns-clause-exact
returns-clause-exact c = line_exact c.args.text.now c.said_line.result (line_only c.args.text.now c.in_ok-words.words.items c.said_line.result c.in_ok-words.ensures.found (rw c.as_slice.ensures.value at c.said_line.ensures))
