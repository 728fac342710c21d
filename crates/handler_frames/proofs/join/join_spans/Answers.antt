use Rattle.std.proofs.Common.{take, sym, subst, arith}
use Rattle.std.proofs.lemmas.List.{take_more, take_all}
use Rattle.std.proofs.lemmas.List.Sorted.{All-permutation}
use Rattle.map_frames.specs.Mapped.{AreLocals}
use Rattle.handler_frames.specs.declared.span.Span.{Span}
use Rattle.handler_frames.specs.Spans.{AreListed, AreWithin}
use Rattle.handler_frames.proofs.SpanLaws.{within_more, within_on, within_order}
use Rattle.handler_frames.proofs.join.join_spans.Goals as goal

pub loop-span-preserved : goal.loop-span-preserved
loop-span-preserved c =
    let spans = c.deref-span-items.result.now in
    let i = c.loop-span.span-index in
    let d : Span = record { first = 0; end = 0; locals = record { root = 0 } } in
    record {
      within =
          subst (λ taken. AreWithin taken c.add_span.new.spans.items) (sym (take_more spans i d (omega (arith, c.loop-span-test.true))))
          (within_more (take i spans) c.loop-span.joined.items c.add_span.new.spans.items _ c.loop-span.invariant.within c.in_ok-add_span.ensures.others c.in_ok-add_span.ensures.added);
      kept = λ stores listed. c.in_ok-add_span.ensures.kept stores (c.loop-span.invariant.kept stores listed) (listed i d (omega (arith, c.loop-span-test.true)));
    }

pub returns-clause-within : goal.returns-clause-within
returns-clause-within c =
    let sorted = c.sort_by_locals.new.spans.items in
    let spans = c.deref-span-items.result.now in
    let joined = c.loop-span.joined.items in
    within_on c.args.spans.items sorted _ (within_order c.args.spans.items sorted c.sort_by_locals.ensures)
    (within_on sorted joined _
    (subst (λ xs. AreWithin xs joined) c.deref-span-items.ensures.value
    (subst (λ xs. AreWithin xs joined) (take_all c.loop-span.span-index spans (omega (arith, c.loop-span-test.false))) c.loop-span.invariant.within))
    (within_order joined _ c.sort_by_first.ensures.same))

pub returns-clause-kept : goal.returns-clause-kept
returns-clause-kept c = λ stores listed.
    let sorted = c.sort_by_locals.new.spans.items in
    let test = λ (s : Span). AreLocals stores s.locals in
    All-permutation test c.loop-span.joined.items _ c.sort_by_first.ensures.same
    (c.loop-span.invariant.kept stores (subst (AreListed stores) (sym c.deref-span-items.ensures.value) (All-permutation test c.args.spans.items sorted c.sort_by_locals.ensures listed)))
