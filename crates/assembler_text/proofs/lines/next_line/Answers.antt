use Rattle.std.proofs.Common.{◌∙◌, ap, drop, List, ℕ}
use Rattle.class_names.proofs.Cases.{full_is}
use Rattle.assembler_text.proofs.CutLaws.{first_line}
use Rattle.assembler_text.proofs.lines.next_line.Goals as goal

pub returns : goal.returns
returns c = first_line c.args.text.now c.split_at.result.0.now c.behind_end.result.now c.line_len.result (full_is _ _ c.is_empty.ensures c.if-is_empty.false) c.line_len.ensures.value c.split_at.ensures.front (c.behind_end.ensures ∙ ap (λ (xs : List ℕ). drop 1 xs) c.split_at.ensures.back)
