use Rattle.std.proofs.Common.{Err, inr, arith, ap, ◌∙◌}
use Rattle.assembler_lines.specs.declared.word.LineRefusal.{LineRefusal}
use Rattle.assembler_text.proofs.NumberLaws.{said_only, nothing_only}
use Rattle.assembler_text.proofs.lines.said.Goals as goal

pub returns-in-Ok-clause-only : goal.returns-in-Ok-clause-only
returns-in-Ok-clause-only c = said_only c.args.end c.args.line.now c.in-Ok.line (omega (arith, c.if-end-gt-MOST_BYTES.false)) c.in-Ok.ensures.only c.in-Ok.ensures.found

pub returns-in-Err-Malformed-clause-found : goal.returns-in-Err-Malformed-clause-found
returns-in-Err-Malformed-clause-found c = inr (c.line_of.ensures.exact (c.in-Err-Malformed.is ∙ ap (λ (refusal : LineRefusal). Err refusal) c.in-Err-Malformed.field-0-is))

pub returns-in-Err-Malformed-clause-only : goal.returns-in-Err-Malformed-clause-only
returns-in-Err-Malformed-clause-only c = nothing_only c.args.end c.args.line.now (c.line_of.ensures.exact (c.in-Err-Malformed.is ∙ ap (λ (refusal : LineRefusal). Err refusal) c.in-Err-Malformed.field-0-is))
