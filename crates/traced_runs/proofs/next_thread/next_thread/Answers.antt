use Rattle.std.proofs.Common.{◌≡◌, Some, [], length, slice_get, sym, ◌∙◌, subst}
use Rattle.std.specs.Prelude.{MatchOption}
use Rattle.schedules.specs.Schedule.{place_of}
use Rattle.traced_runs.proofs.NextLemmas.{item_next, next_picked, none_due}
use Rattle.traced_runs.proofs.next_thread.next_thread.Goals as goal

pub returns-in-Some : goal.returns-in-Some
returns-in-Some g c = item_next g.C.ThreadCode.code g.C.ThreadCode.state g.C.ThreadCode.saved c.args.machine.now.bounds c.args.machine.now.words c.args.machine.now.seats.places.items c.args.rest.now
    c.due.new.self c.in-Some.thread c.due.ensures.rest (sym c.due.ensures.thread ∙ c.in-Some.is)

pub returns : goal.returns
returns g c = next_picked g.C.ThreadCode.code g.C.ThreadCode.state g.C.ThreadCode.saved c.args.machine.now.bounds c.args.machine.now.words c.args.machine.now.seats.places.items c.args.rest.now
    c.due.new.self c.due.ensures.rest (sym c.due.ensures.thread ∙ none_due c.due.result c.in_default.not-Some) c.list_enabled.new.threads.items c.in_ok-list_enabled.ensures
    c.draw-number.new.self c.pick.result c.draw-number.ensures.rest
    (subst (λ drawn. MatchOption c.pick.result (c.list_enabled.new.threads.items ≡ []) (λ t. slice_get c.list_enabled.new.threads.items (place_of drawn (length c.list_enabled.new.threads.items)) ≡ Some t)) c.draw-number.ensures.result
    (subst (λ xs. MatchOption c.pick.result (xs ≡ []) (λ t. slice_get xs (place_of c.draw-number.result (length xs)) ≡ Some t)) c.deref.ensures.value c.pick.ensures))
