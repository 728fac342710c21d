use Rattle.std.proofs.Common.{subst, arith}
use Rattle.class_walk.specs.Reading.{Reads}
use Rattle.class_walk.proofs.CodeLaws.{code_found, content_some}
use Rattle.class_walk.proofs.code.code_content.Goals as goal

pub returns-clause-found : goal.returns-clause-found
returns-clause-found c = code_found c.args.content.now c.whole_or_malformed.result (λ i. omega (arith, c.type_inv.content i)) c.whole_or_malformed.ensures.exact

pub returns-clause-only : goal.returns-clause-only
returns-clause-only c = λ code is. subst (λ read. Reads c.whole_or_malformed.result read) (content_some c.args.content.now code is) c.whole_or_malformed.ensures.exact
