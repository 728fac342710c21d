use Rattle.std.proofs.Common.{◌≡◌, take, drop}
use Rattle.class_names.specs.Reading.{split_at_semicolon}
use Rattle.class_names.proofs.KindLaws.{before}
use Rattle.class_names.proofs.shape.split_name.Given as goal

abbrev pub invariant-loop-end : goal.invariant-loop-end
invariant-loop-end l = before (take l.end l.bytes) (split_at_semicolon (drop l.end l.bytes)) ≡ split_at_semicolon l.bytes
