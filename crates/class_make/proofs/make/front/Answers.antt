use Rattle.std.proofs.Common.{◌+◌, sym, arith}
use Rattle.std.proofs.lemmas.List.{take_all}
use Rattle.assembler_text.specs.TextLines.{most_bytes}
use Rattle.class_make.proofs.make.front.Goals as goal

pub returns-then-text-le-MOST_BYTES-clause-value : goal.returns-then-text-le-MOST_BYTES-clause-value
returns-then-text-le-MOST_BYTES-clause-value c = sym (take_all (most_bytes + 1) c.args.text.now (omega arith))
