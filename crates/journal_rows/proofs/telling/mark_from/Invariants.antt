use Rattle.std.proofs.Common.{◌≡◌, ◌+◌, length, vec_len, vec_capacity}
use Rattle.journal_rows.specs.Leaving.{from_below, marked_from}
use Rattle.journal_rows.proofs.telling.mark_from.Given as goal

abbrev pub invariant-loop-event : goal.invariant-loop-event
invariant-loop-event l = record {
  events : from_below l.first l.events ≡ from_below l.first l.initial.events;
  left : marked_from l.first l.events l.left.items ≡ marked_from l.first l.initial.events l.initial.left.items;
  len : vec_len l.left ≡ vec_len l.initial.left;
  capacity : vec_capacity l.left ≡ vec_capacity l.initial.left;
  count : length l.events + l._event ≡ l._event-end;
}
