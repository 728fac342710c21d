use Rattle.std.proofs.Common.{sym, refl}
use Rattle.handler_frames.proofs.KnownLaws.{one_begins, rest_behind}
use Rattle.handler_frames.proofs.covering.CoveringHandlers.begin_next.Goals as goal

pub returns-then-step-span-clause-begun : goal.returns-then-step-span-clause-begun
returns-then-step-span-clause-begun c = λ sorted _.
    rest_behind c.args.self.now.spans.items c.args.self.now.begun c.args.step c.in-Some.span sorted (sym c.in-Some.ensures) c.if-step-span.true

pub returns-clause-goes : goal.returns-clause-goes
returns-clause-goes c =
    one_begins c.args.self.now _ c.in-Some.span c.args.step (sym c.in-Some.ensures) refl c.in_ok-push.ensures.items refl refl refl refl refl
