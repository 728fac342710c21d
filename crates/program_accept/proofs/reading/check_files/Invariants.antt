use Rattle.std.proofs.Common.{map}
use Rattle.program_accept.specs.Accepted.{read_rules}
use Rattle.program_accept.proofs.Chains.{PassBelow}
use Rattle.program_accept.proofs.reading.check_files.Given as goal

abbrev pub invariant-loop-place : goal.invariant-loop-place
invariant-loop-place l = PassBelow read_rules (map (λ f. f.items) l.files) l.place
