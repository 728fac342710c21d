use Rattle.std.proofs.Common.{IfSome, sym, subst, arith}
use Rattle.handler_frames.specs.Spans.{FindsSpans, StandsFor}
use Rattle.handler_frames.proofs.SpanLaws.{finds_limit, finds_span}
use Rattle.std.proofs.Common.{◌++◌, ◌∷◌, []}
use Rattle.handler_frames.proofs.find.FoundSpans.add.Goals as goal

pub returns-in_default-clause-finds : goal.returns-in_default-clause-finds
returns-in_default-clause-finds c = λ env stores handlers h finds first stands.
    finds_limit env stores handlers c.args.self.now.limit _ c.args.self.now.spans.items h finds (omega arith) (omega (arith, first))

pub returns-clause-finds : goal.returns-clause-finds
returns-clause-finds c = λ env stores handlers h finds first stands.
    subst (λ spans. FindsSpans env stores (handlers ++ h ∷ []) c.args.self.now.limit spans) (sym c.in_ok-push.ensures.items)
    (finds_span env stores handlers c.args.self.now.limit c.args.self.now.spans.items h c.in-Some.span finds (subst (λ o. IfSome o (StandsFor env stores h)) c.in-Some.is stands))
