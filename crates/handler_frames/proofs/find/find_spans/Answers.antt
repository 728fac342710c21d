use Rattle.std.proofs.Common.{map, take, ◌∷◌, [], ◌∙◌, ap, refl, sym, subst, arith}
use Rattle.std.proofs.lemmas.List.{take_more, take_all, map-append}
use Rattle.code_decode.specs.declared.code.Handler.{Handler}
use Rattle.type_rules.specs.Environments.{typed_handler}
use Rattle.handler_frames.specs.Spans.{FindsSpans}
use Rattle.handler_frames.proofs.find.find_spans.Goals as goal

pub loop-handler-preserved : goal.loop-handler-preserved
loop-handler-preserved g c =
    let handlers = c.args.method.handlers.now in
    let th = typed_handler (g.P.PoolOperands.operands c.args.pool.now) in
    let i = c.loop-handler.handler-index in
    let d : Handler = record { from = 0; to = 0; at = 0; kind = 0; first = 0; end = 0; entry = 0 } in
    let found = c.loop-handler.found in
    record {
      kept = λ stores made. c.in_ok-add.ensures.kept stores (c.loop-handler.invariant.kept stores made) (c.span_of.ensures.kept stores made);
      finds = λ stores env same are.
          subst (λ hs. FindsSpans env stores hs c.add.new.self.limit c.add.new.self.spans.items)
          (sym (ap (map th) (take_more handlers i d (omega (arith, c.loop-handler-test.true))) ∙ map-append th (take i handlers) (_ ∷ [])))
          (c.in_ok-add.ensures.finds env stores (map th (take i handlers)) _ (c.loop-handler.invariant.finds stores env same are) refl (c.span_of.ensures.stands stores env same are));
    }

pub returns-clause-finds : goal.returns-clause-finds
returns-clause-finds g c = λ stores env same are.
    let th = typed_handler (g.P.PoolOperands.operands c.args.pool.now) in
    let found = c.loop-handler.found in
    subst (λ hs. FindsSpans env stores hs found.limit found.spans.items)
    (ap (map th) (take_all c.loop-handler.handler-index c.args.method.handlers.now (omega (arith, c.loop-handler-test.false))) ∙ sym are.handlers)
    (c.loop-handler.invariant.finds stores env same are)
