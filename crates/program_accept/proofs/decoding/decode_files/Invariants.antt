use Rattle.std.proofs.Common.{map}
use Rattle.program_accept.specs.Accepted.{code_rules}
use Rattle.program_accept.specs.Only.{AreOnlyBefore}
use Rattle.program_accept.proofs.Chains.{PassBelow}
use Rattle.program_accept.proofs.decoding.decode_files.Given as goal

abbrev pub invariant-loop-place : goal.invariant-loop-place
invariant-loop-place l =
    PassBelow code_rules (map (λ f. f.items) l.files) l.place × AreOnlyBefore (map (λ f. f.items) l.files) l.made.items l.place
