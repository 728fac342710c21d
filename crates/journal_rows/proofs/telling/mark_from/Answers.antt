use Rattle.std.proofs.Common.{refl, sym, ◌∙◌, arith}
use Rattle.journal_rows.proofs.ListLemmas.{empty_is, none_taken, none_marked, stops_at, stops_marking, one_taken, one_marked, one_fewer, empty_has_none}
use Rattle.journal_rows.proofs.telling.mark_from.Goals as goal

pub loop-event-init : goal.loop-event-init
loop-event-init c = record { events = refl; left = refl; len = refl; capacity = refl; count = omega (arith, c.len-event-end.ensures) }

pub returns-then-number-first-clause-events : goal.returns-then-number-first-clause-events
returns-then-number-first-clause-events c =
    sym (stops_at c.args.first c.in-Some.number c.loop-event.events (sym c.newest.ensures ∙ c.in-Some.is) c.if-number-first.true) ∙ c.loop-event.invariant.events

pub returns-then-number-first-clause-left : goal.returns-then-number-first-clause-left
returns-then-number-first-clause-left c =
    sym (stops_marking c.args.first c.in-Some.number c.loop-event.events c.loop-event.left.items (sym c.newest.ensures ∙ c.in-Some.is) c.if-number-first.true) ∙ c.loop-event.invariant.left

pub returns-in-None-clause-events : goal.returns-in-None-clause-events
returns-in-None-clause-events c = none_taken c.args.first c.loop-event.events (empty_has_none c.loop-event.events (sym c.newest.ensures ∙ c.in-None.is)) ∙ c.loop-event.invariant.events

pub returns-in-None-clause-left : goal.returns-in-None-clause-left
returns-in-None-clause-left c = none_marked c.args.first c.loop-event.events c.loop-event.left.items (empty_has_none c.loop-event.events (sym c.newest.ensures ∙ c.in-None.is)) ∙ c.loop-event.invariant.left

pub loop-event-preserved : goal.loop-event-preserved
loop-event-preserved c = record {
  events = one_taken c.args.first c.in-Some.number c.loop-event.events c.drop_newest.new.self (sym c.newest.ensures ∙ c.in-Some.is) c.if-number-first.false c.drop_newest.ensures ∙ c.loop-event.invariant.events;
  left = one_marked c.args.first c.in-Some.number c.loop-event.events c.drop_newest.new.self c.loop-event.left.items c.mark.new.left.items (sym c.newest.ensures ∙ c.in-Some.is) c.if-number-first.false
      c.drop_newest.ensures c.mark.ensures.left ∙ c.loop-event.invariant.left;
  len = c.mark.ensures.len ∙ c.loop-event.invariant.len;
  capacity = c.mark.ensures.capacity ∙ c.loop-event.invariant.capacity;
  count = one_fewer c.in-Some.number c.loop-event.events c.drop_newest.new.self c.loop-event._event c.len-event-end.result (sym c.newest.ensures ∙ c.in-Some.is) c.drop_newest.ensures c.loop-event.invariant.count;
}

pub returns-clause-events : goal.returns-clause-events
returns-clause-events c = none_taken c.args.first c.loop-event.events (empty_is c.loop-event.events c.loop-event._event c.len-event-end.result c.loop-event-test.false c.loop-event.invariant.count) ∙ c.loop-event.invariant.events

pub returns-clause-left : goal.returns-clause-left
returns-clause-left c = none_marked c.args.first c.loop-event.events c.loop-event.left.items
    (empty_is c.loop-event.events c.loop-event._event c.len-event-end.result c.loop-event-test.false c.loop-event.invariant.count) ∙ c.loop-event.invariant.left
