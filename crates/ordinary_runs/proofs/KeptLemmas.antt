-- The same turns, with their events kept.
use Rattle.std.proofs.Common.{◌≡◌, inl, inr, ℕ, ◌-◌, ◌<◌, ◌≤◌, List, [], ◌∷◌, ◌++◌, length, slice_get, Option, Some, None, IfSome, option_map, append-nil, length-append, refl, sym, ap, ◌∙◌, subst, arith}
use Rattle.std.proofs.lemmas.Option.{slice_get_cases}
use Rattle.op_core.specs.declared.Event.{Event}
use Rattle.op_core.specs.declared.How.{How}
use Rattle.op_core.specs.declared.How.TheVariants as how
use Rattle.op_core.specs.declared.Limit.{Limit}
use Rattle.op_core.specs.declared.Limit.TheVariants.{Trace}
use Rattle.op_core.specs.declared.Limits.{Limits}
use Rattle.op_core.specs.ThreadCode.{Code}
use Rattle.schedules.specs.declared.order.OrderItem.{OrderItem}
use Rattle.schedules.specs.declared.order.TurnEnd.{TurnEnd}
use Rattle.schedules.specs.declared.order.TurnEnd.TheVariants.{Spent}
use Rattle.schedules.specs.Run.{Run, due_of, GetsTurn, IsTurn, Follows, EndsOfItself, EndsWith, EndsBy}
use Rattle.ordinary_machine.specs.declared.advance.Advance.{Advance}
use Rattle.ordinary_machine.specs.declared.advance.Advance.TheVariants.{Silent, Step, Waits, Halts, Ended}
use Rattle.ordinary_machine.specs.declared.advance.Advance.TheVariants as advance
use Rattle.ordinary_machine.specs.Laws.{event_of, events_of}
use Rattle.ordinary_runs.specs.Turns.{traced, untraced_turns, Progress, end_of, events_after, MakesTurn, machine_turns}
use Rattle.ordinary_runs.specs.declared.turns.TheConstants.{MOST_EVENTS}
use Rattle.ordinary_runs.specs.ScheduledRun.{no_steps, a_journal, begun_with}
use Rattle.ordinary_runs.specs.Laws.{RunsHaveEvents, RunsFitJournals}
use Rattle.ordinary_runs.proofs.LawLemmas.{one_call, calls_of, untraced_gets, untraced_turn, untraced_follows}

-- where a run is, with these events kept
abbrev keeping : {S : Type 0} → Run (Progress S) → List Event → Run (Progress S)
keeping run events = record { state = record run.state { events = Some events }; rest = run.rest }

gets_keeping : {S : Type 0} (code : Code S) (limits : Limits) (run : Run (Progress S)) (events : List Event) (order : List OrderItem) (number : Option ℕ) (t : ℕ)
    → GetsTurn (untraced_turns code limits) run.state order number t → GetsTurn (untraced_turns code limits) (keeping run events).state order number t
gets_keeping code limits run events [] number t gets = gets
gets_keeping code limits run events (item ∷ order) number t gets = gets

makes_keeping : {S : Type 0} (code : Code S) (limits : Limits) (run next : Run (Progress S)) (events : List Event) (t : ℕ) (end : TurnEnd) (made : MakesTurn code limits run.state t end next.state)
    → MakesTurn code limits (keeping run events).state t end (keeping next (events ++ event_of made.answer)).state
makes_keeping code limits run next events t end made = record {
  left = made.left;
  answer = made.answer;
  advances = made.advances;
  comes = made.comes;
  counts = made.counts;
  kept = refl;
}

turn_keeping : {S : Type 0} (code : Code S) (limits : Limits) (run next : Run (Progress S)) (events : List Event) (t : ℕ) (end : TurnEnd) (turn : IsTurn (untraced_turns code limits) run t end next)
    → IsTurn (untraced_turns code limits) (keeping run events) t end (keeping next (events ++ event_of (one_call code limits run next t end turn).answer))
turn_keeping code limits run next events t end turn = record {
  goes_on = turn.goes_on;
  gets = gets_keeping code limits run events (due_of (untraced_turns code limits) run).order run.rest.number t turn.gets;
  given = inr (makes_keeping code limits run next events t end (one_call code limits run next t end turn));
  unspent = turn.unspent;
  leaves = turn.leaves;
}

follows_keeping : {S : Type 0} (code : Code S) (limits : Limits) (run last : Run (Progress S)) (events : List Event) (ts : List ℕ) → Follows (untraced_turns code limits) run ts last
    → (all : List Event) × Follows (untraced_turns code limits) (keeping run events) ts (keeping last all)
follows_keeping {S} code limits run last events [] same = (events, ap (λ (r : Run (Progress S)). keeping r events) same)
follows_keeping code limits run last events (t ∷ ts) (end, next, turn, later) =
    let now = events ++ event_of (one_call code limits run next t end turn).answer in
    let rest = follows_keeping code limits next last now ts later in
    (rest.0, (end, keeping next now, turn_keeping code limits run next events t end turn, rest.1))

-- a spent turn makes no event
spent_makes_none : (limit : Limit) (answer : Advance) (events : List Event) → Spent limit ≡ end_of answer → Some events ≡ events_after answer (Some events)
spent_makes_none limit Silent events comes = absurd (cc)
spent_makes_none limit (Step e) events comes = absurd (cc)
spent_makes_none limit Waits events comes = absurd (cc)
spent_makes_none limit Halts events comes = absurd (cc)
spent_makes_none limit Ended events comes = absurd (cc)
spent_makes_none limit (advance.Spent other) events comes = ap Some (sym (append-nil events))

spent_keeping : {S : Type 0} (code : Code S) (limits : Limits) (run : Run (Progress S)) (events : List Event) (t : ℕ) (limit : Limit)
    → (untraced_turns code limits).gives run.state t (Spent limit) run.state → (untraced_turns code limits).gives (keeping run events).state t (Spent limit) (keeping run events).state
spent_keeping code limits run events t limit (inl out) = inl (record { many = out.many; spent = out.spent; same = refl })
spent_keeping code limits run events t limit (inr made) = inr (record {
  left = made.left;
  answer = made.answer;
  advances = made.advances;
  comes = made.comes;
  counts = made.counts;
  kept = spent_makes_none limit made.answer events made.comes;
})

ends_keeping : {S : Type 0} (code : Code S) (limits : Limits) (run : Run (Progress S)) (events : List Event) (end : How)
    → EndsOfItself (untraced_turns code limits) run end → EndsOfItself (untraced_turns code limits) (keeping run events) end
ends_keeping code limits run events how.Done ends = ends
ends_keeping code limits run events how.Died ends = ends
ends_keeping code limits run events how.Stuck ends = record { through = ends.through; some_live = ends.some_live; none_enabled = ends.none_enabled }
ends_keeping code limits run events (how.Limit t limit) ends = (
  gets_keeping code limits run events (due_of (untraced_turns code limits) run).order run.rest.number t ends.0,
  spent_keeping code limits run events t limit ends.1,
)

-- a run that keeps no steps has none
none_kept : (events : Option (List Event)) (made : List Event) → events ≡ option_map (λ es. es ++ made) None → traced events ≡ None
none_kept events made is = ap traced is

ends_untraced : {S : Type 0} (code : Code S) (limits : Limits) (run : Run (Progress S)) (end : How) → traced run.state.events ≡ None → EndsBy (machine_turns code limits) run end → EndsOfItself (untraced_turns code limits) run end
ends_untraced code limits run end none ends = of end (subst (λ met. EndsWith (machine_turns code limits) run met end) none ends)
  where
    of : (end : How) → EndsOfItself (machine_turns code limits) run end → EndsOfItself (untraced_turns code limits) run end
    of how.Done ends = ends
    of how.Died ends = ends
    of how.Stuck ends = record { through = ends.through; some_live = ends.some_live; none_enabled = ends.none_enabled }
    of (how.Limit t limit) ends = (untraced_gets code limits run.state (due_of (machine_turns code limits) run).order run.rest.number t ends.0, ends.1)

pub runs_with_events : {S : Type 0} (code : Code S) → RunsHaveEvents code
runs_with_events code m schedule limits outcome ran =
    let begun = begun_with m schedule no_steps in
    let follows = untraced_follows code limits begun ran.last ran.threads ran.goes.0 in
    let made = calls_of code limits begun ran.last ran.threads follows in
    let ends = ends_untraced code limits ran.last outcome.how (none_kept ran.last.state.events (events_of made.calls) made.kept) ran.goes.1 in
    let kept = follows_keeping code limits begun ran.last [] ran.threads follows in (
      kept.0,
      record {
        threads = ran.threads;
        last = keeping ran.last kept.0;
        goes = (kept.1, ends_keeping code limits ran.last kept.0 outcome.how ends);
        lines = ran.lines;
        ends = ran.ends;
        opened = ran.opened;
        undone = ran.undone;
        events = refl;
        undos = refl;
        made = ran.made;
      },
    )

-- ---- a journal has room for the events

-- where none is at the last place there is room for one more
room_left : (events : List Event) → slice_get events (MOST_EVENTS - 1) ≡ None → length events < MOST_EVENTS
room_left events none = elim (slice_get_cases events (MOST_EVENTS - 1)).1 [
  | inl (e, within, at, there) ↦ absurd (let no : None ≡ Some e = sym none ∙ at in cc)
  | inr (past, is) ↦ omega (arith, past)
]

one_at_most : (answer : Advance) → length (event_of answer) ≤ 1
one_at_most Silent = omega arith
one_at_most (Step e) = omega arith
one_at_most Waits = omega arith
one_at_most Halts = omega arith
one_at_most Ended = omega arith
one_at_most (advance.Spent limit) = omega arith

abbrev HasRoom : Option (List Event) → Type 0
HasRoom kept = IfSome kept (λ events. length events ≤ MOST_EVENTS)

room_after : (kept new : Option (List Event)) (answer : Advance) → traced kept ≡ None → new ≡ events_after answer kept → HasRoom new
room_after None new answer none is = subst HasRoom (sym is) tt
room_after (Some events) new answer none is = subst HasRoom (sym is) (of (slice_get events (MOST_EVENTS - 1)) refl none)
  where
    of : (last : Option Event) → slice_get events (MOST_EVENTS - 1) ≡ last → option_map {U = ℕ × Limit} (λ (e : Event). (e.thread, Trace)) last ≡ None → length (events ++ event_of answer) ≤ MOST_EVENTS
    of None at untraced = let room = room_left events at in let one = one_at_most answer in let long = length-append events (event_of answer) in omega (arith, room, one, long)
    of (Some e) at untraced = absurd (cc)

room_kept : {S : Type 0} (code : Code S) (limits : Limits) (run last : Run (Progress S)) (ts : List ℕ) → HasRoom run.state.events → Follows (machine_turns code limits) run ts last → HasRoom last.state.events
room_kept {S} code limits run last [] room same = subst (λ (r : Run (Progress S)). HasRoom r.state.events) (sym same) room
room_kept code limits run last (t ∷ ts) room (end, next, turn, later) =
    let made = one_call code limits run next t end (untraced_turn code limits run next t end turn) in
    room_kept code limits next last ts (room_after run.state.events next.state.events made.answer turn.goes_on made.kept) later

pub runs_fit : {S : Type 0} (code : Code S) → RunsFitJournals code
runs_fit code m schedule limits outcome ran =
    subst HasRoom (sym ran.events) (room_kept code limits (begun_with m schedule a_journal) ran.last ran.threads (omega arith) ran.goes.0)
