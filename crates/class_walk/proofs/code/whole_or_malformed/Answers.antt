use Rattle.std.proofs.Common.{refl, arith}
use Rattle.class_walk.proofs.CodeLaws.{long_is_none, read_is_some, refused_reads, cut_fault, cut_refused}
use Rattle.class_walk.proofs.code.whole_or_malformed.Goals as goal

pub returns-then-content-gt-MAX_CONTENT-clause-exact : goal.returns-then-content-gt-MAX_CONTENT-clause-exact
returns-then-content-gt-MAX_CONTENT-clause-exact c = long_is_none c.args.content.now (omega arith)

pub returns-in-Ok-clause-exact : goal.returns-in-Ok-clause-exact
returns-in-Ok-clause-exact c = read_is_some c.args.content.now c.in-Ok.code (omega arith) c.in-Ok.ensures.exact

pub returns-in-Ok-clause-cut : goal.returns-in-Ok-clause-cut
returns-in-Ok-clause-cut c = λ cut.
    let fault = cut_fault c.args.content.now cut in
    let refused = c.in-Ok.ensures.head fault.0 fault.1 in
    absurd cc

pub returns-in-Err-clause-exact : goal.returns-in-Err-clause-exact
returns-in-Err-clause-exact c = rw c.refused.ensures (refused_reads c.args.content.now c.in-Err.refusal (omega arith) c.in-Err.ensures.exact)

pub returns-in-Err-clause-cut : goal.returns-in-Err-clause-cut
returns-in-Err-clause-cut c = λ cut. rw (c.refused.ensures, cut_refused c.args.content.now c.in-Err.refusal cut c.in-Err.ensures.head) refl
