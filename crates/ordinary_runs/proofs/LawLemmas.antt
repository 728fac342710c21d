-- A scheduled run has one outcome, which is that of an execution.
use Rattle.std.proofs.Common.{◌≡◌, ◌↔◌, inl, inr, ℕ, Bool, true, false, List, [], ◌∷◌, ◌++◌, get_or, Option, Some, None, if◌then◌else◌, option_map, append_assoc, refl, sym, ◌∙◌, ap, subst, arith}
use Rattle.op_core.specs.declared.Event.{Event}
use Rattle.op_core.specs.declared.Limits.{Limits}
use Rattle.op_core.specs.declared.Limit.{Limit}
use Rattle.op_core.specs.declared.Limit.TheVariants.{Turns}
use Rattle.op_core.specs.declared.How.TheVariants.{Stuck}
use Rattle.op_core.specs.declared.ThreadEnd.{ThreadEnd}
use Rattle.op_core.specs.ThreadCode.{Code}
use Rattle.op_core.specs.MadeTexts.{AreMadeTexts}
use Rattle.op_core.specs.OrdinaryState.{Thread, unused, live, ended, OrdinaryState, HasEnded}
use Rattle.schedules.specs.declared.order.TurnEnd.{TurnEnd}
use Rattle.schedules.specs.declared.order.OrderItem.{OrderItem}
use Rattle.schedules.specs.Run.{Run, GetsTurn, due_of, IsHeldUp, IsTurn, Follows, EndsWith, EndsBy}
use Rattle.schedules.specs.Laws.{IsDeterminate}
use Rattle.schedules.proofs.RunLemmas.{one_end}
use Rattle.ordinary_machine.specs.Machine.{Machine}
use Rattle.ordinary_machine.specs.Laws.{Call, Runs, event_of, events_of, StandsFurther, IsFurther, IsStandstill}
use Rattle.ordinary_machine.proofs.OutcomeLemmas.{one_answer}
use Rattle.ordinary_machine.proofs.RunLemmas.{executed}
use Rattle.ordinary_machine.proofs.StuckLemmas.{standstills_stuck}
use Rattle.ordinary_runs.specs.Turns.{Progress, traced, is_live, end_of, counted_after, events_after, MakesTurn, machine_turns, untraced_turns}
use Rattle.ordinary_runs.specs.ScheduledRun.{Keeping, no_steps, all_steps, a_journal, keeps_steps, turns_keeping, begun_with, AreEnds}
use Rattle.ordinary_runs.specs.Laws.{RunsHaveOneOutcome, RunsAreExecutions, StuckRunsAreStuck}
use Rattle.ordinary_runs.proofs.TurnLemmas.{none_more}
use Rattle.ordinary_runs.proofs.RunLemmas.{enabled_live}
use Rattle.ordinary_runs.proofs.EndLemmas.{ends_one}
use Rattle.ordinary_runs.proofs.MadeLemmas.{made_one, made_there}

-- a turn comes to one thing
same_turn : {S : Type 0} (code : Code S) (limits : Limits) (r new last : Progress S) (t : ℕ) (a b : TurnEnd) → (machine_turns code limits).gives r t a new → (machine_turns code limits).gives r t b last → (b ≡ a) × (last ≡ new)
same_turn code limits r new last t a b (inl x) (inl y) = (y.spent ∙ sym x.spent, y.same ∙ sym x.same)
same_turn code limits r new last t a b (inl x) (inr y) = let many = x.many in let left = y.left in absurd (omega (arith, many, left))
same_turn code limits r new last t a b (inr x) (inl y) = let many = y.many in let left = x.left in absurd (omega (arith, many, left))
same_turn code limits r new last t a b (inr x) (inr y) =
    let (answer, machine) = one_answer code r.machine new.machine last.machine t limits x.answer y.answer x.advances y.advances in
    let counted = y.counts ∙ ap (λ z. counted_after t z r.counted) answer ∙ sym x.counts in
    let events = y.kept ∙ ap (λ z. events_after z r.events) answer ∙ sym x.kept in
    (y.comes ∙ ap end_of answer ∙ sym x.comes, λ i. record { machine = machine i; counted = counted i; events = events i })

determinate : {S : Type 0} (code : Code S) (limits : Limits) → IsDeterminate (machine_turns code limits)
determinate code limits = record {
  one_turn = same_turn code limits;
  enabled_live = λ r t may. enabled_live code r.machine t may;
}

all_determinate : {S : Type 0} (code : Code S) (limits : Limits) (keeping : Keeping) → IsDeterminate (turns_keeping code limits keeping)
all_determinate code limits no_steps = determinate code limits
all_determinate code limits a_journal = determinate code limits
all_determinate code limits all_steps = record {
  one_turn = same_turn code limits;
  enabled_live = λ r t may. enabled_live code r.machine t may;
}

-- ---- no limit of a journal: the same turns

pub untraced_gets : {S : Type 0} (code : Code S) (limits : Limits) (r : Progress S) (order : List OrderItem) (number : Option ℕ) (t : ℕ) → GetsTurn (machine_turns code limits) r order number t → GetsTurn (untraced_turns code limits) r order number t
untraced_gets code limits r [] number t gets = gets
untraced_gets code limits r (item ∷ order) number t gets = gets

pub untraced_turn : {S : Type 0} (code : Code S) (limits : Limits) (run next : Run (Progress S)) (t : ℕ) (end : TurnEnd) → IsTurn (machine_turns code limits) run t end next → IsTurn (untraced_turns code limits) run t end next
untraced_turn code limits run next t end turn = record {
  goes_on = refl;
  gets = untraced_gets code limits run.state (due_of (machine_turns code limits) run).order run.rest.number t turn.gets;
  given = turn.given;
  unspent = turn.unspent;
  leaves = turn.leaves;
}

pub untraced_follows : {S : Type 0} (code : Code S) (limits : Limits) (run last : Run (Progress S)) (ts : List ℕ) → Follows (machine_turns code limits) run ts last → Follows (untraced_turns code limits) run ts last
untraced_follows code limits run last [] same = same
untraced_follows code limits run last (t ∷ ts) (end, next, turn, later) = (end, next, untraced_turn code limits run next t end turn, untraced_follows code limits next last ts later)

pub kept_follows : {S : Type 0} (code : Code S) (limits : Limits) (keeping : Keeping) (run last : Run (Progress S)) (ts : List ℕ) → Follows (turns_keeping code limits keeping) run ts last → Follows (untraced_turns code limits) run ts last
kept_follows code limits no_steps run last ts follows = untraced_follows code limits run last ts follows
kept_follows code limits a_journal run last ts follows = untraced_follows code limits run last ts follows
kept_follows code limits all_steps run last ts follows = follows

-- a run that is stuck is held up
held_with : {S : Type 0} (code : Code S) (limits : Limits) (run : Run (Progress S)) (met : Option (ℕ × Limit)) → EndsWith (machine_turns code limits) run met Stuck → IsHeldUp (machine_turns code limits) run
held_with code limits run None held = held
held_with code limits run (Some (t, limit)) is = absurd (cc)

held_up : {S : Type 0} (code : Code S) (limits : Limits) (keeping : Keeping) (run : Run (Progress S)) → EndsBy (turns_keeping code limits keeping) run Stuck → IsHeldUp (machine_turns code limits) run
held_up code limits no_steps run ends = held_with code limits run (traced run.state.events) ends
held_up code limits a_journal run ends = held_with code limits run (traced run.state.events) ends
held_up code limits all_steps run ends = record { through = ends.through; some_live = ends.some_live; none_enabled = ends.none_enabled }

pub one_outcome : {S : Type 0} (code : Code S) → RunsHaveOneOutcome code
one_outcome {S} code m schedule limits keeping outcome other one two =
    let (threads, how, last) = one_end (Progress S) (turns_keeping code limits keeping) (begun_with m schedule keeping) one.last two.last one.threads two.threads outcome.how other.how (all_determinate code limits keeping) one.goes two.goes in
    let lines = two.lines ∙ ap (λ (run : Run (Progress S)). run.state.machine.now.lines) last ∙ sym one.lines in
    let ends = ends_one one.last.state.machine.now outcome.ends other.ends one.ends (subst (λ (run : Run (Progress S)). AreEnds run.state.machine.now other.ends) last two.ends) in
    let opened = two.opened ∙ sym one.opened in
    let undone = two.undone ∙ sym one.undone in
    let events = two.events ∙ ap (λ (run : Run (Progress S)). run.state.events) last ∙ sym one.events in
    let undos = two.undos ∙ ap (λ (run : Run (Progress S)). option_map (λ _. []) run.state.events) last ∙ sym one.undos in
    let there : AreMadeTexts one.last.state.machine.now outcome.lines other.made =
    subst (λ ls. AreMadeTexts one.last.state.machine.now ls other.made) lines (subst (λ (run : Run (Progress S)). AreMadeTexts run.state.machine.now other.lines other.made) last two.made) in
    let made = made_one one.last.state.machine.now outcome.lines outcome.made other.made one.made there in
    λ i. record { lines = lines i; ends = ends i; how = how i; opened = opened i; undone = undone i; events = events i; undos = undos i; made = made i }

-- the turns of a run are calls of `advance`
pub record AreCalls {S : Type 0} (code : Code S) (r last : Progress S) : Type 0 where
  pub calls : List Call
  pub runs : Runs code r.machine calls last.machine
  pub kept : last.events ≡ option_map (λ es. es ++ events_of calls) r.events

kept_on : (events middle last : Option (List Event)) (one more : List Event) → middle ≡ option_map (λ es. es ++ one) events → last ≡ option_map (λ es. es ++ more) middle → last ≡ option_map (λ es. es ++ (one ++ more)) events
kept_on None middle last one more first later = later ∙ ap (option_map (λ es. es ++ more)) first
kept_on (Some es) middle last one more first later = later ∙ ap (option_map (λ es. es ++ more)) first ∙ ap Some (append_assoc es one more)

all_kept : (keeps : Bool) (events last : Option (List Event)) (made : List Event) → last ≡ option_map (λ es. es ++ made) (if keeps then Some [] else None) → events ≡ last → events ≡ (if keeps then Some made else None)
all_kept true events last made kept is = is ∙ kept
all_kept false events last made kept is = is ∙ kept

pub one_call : {S : Type 0} (code : Code S) (limits : Limits) (run next : Run (Progress S)) (t : ℕ) (end : TurnEnd) → IsTurn (untraced_turns code limits) run t end next
    → MakesTurn code limits run.state t end next.state
one_call code limits run next t end turn = elim turn.given [
  | inl out ↦ absurd (turn.unspent Turns out.spent)
  | inr made ↦ made
]

pub calls_of : {S : Type 0} (code : Code S) (limits : Limits) (run last : Run (Progress S)) (ts : List ℕ) → Follows (untraced_turns code limits) run ts last → AreCalls code run.state last.state
calls_of {S} code limits run last [] same = record { calls = []; runs = ap (λ (r : Run (Progress S)). r.state.machine) same; kept = ap (λ (r : Run (Progress S)). r.state.events) same ∙ sym (none_more run.state.events) }
calls_of code limits run last (t ∷ ts) (end, next, turn, later) =
    let made = one_call code limits run next t end turn in
    let rest = calls_of code limits next last ts later in
    record { calls = record { thread = t; limits = limits; answer = made.answer } ∷ rest.calls; runs = (next.state.machine, made.advances, rest.runs); kept = kept_on run.state.events next.state.events last.state.events (event_of made.answer) (events_of rest.calls) made.kept rest.kept }

-- a thread has ended in the same way in a state and in a machine that is further
further_end : {S : Type 0} (code : Code S) (thread now : Thread S) (n : ℕ) (x : Option ℕ) → StandsFurther code thread n now → now ≡ ended x → thread ≡ ended x
further_end code unused unused n x stands is = is
further_end code unused (live l) n x stands is = absurd stands
further_end code unused (ended y) n x stands is = absurd stands
further_end code (live from) unused n x stands is = absurd stands
further_end code (live from) (live l) n x stands is = absurd (cc)
further_end code (live from) (ended y) n x stands is = absurd stands
further_end code (ended z) unused n x stands is = absurd stands
further_end code (ended z) (live l) n x stands is = absurd stands
further_end code (ended z) (ended y) n x stands is = ap ended (sym stands) ∙ is

further_over : {S : Type 0} (code : Code S) (thread now : Thread S) (n : ℕ) → StandsFurther code thread n now → HasEnded now ↔ HasEnded thread
further_over code unused unused n stands = (λ h. h, λ h. h)
further_over code unused (live l) n stands = absurd stands
further_over code unused (ended y) n stands = absurd stands
further_over code (live from) unused n stands = absurd stands
further_over code (live from) (live l) n stands = (λ h. h, λ h. h)
further_over code (live from) (ended y) n stands = absurd stands
further_over code (ended z) unused n stands = absurd stands
further_over code (ended z) (live l) n stands = absurd stands
further_over code (ended z) (ended y) n stands = (λ h. h, λ h. h)

ends_there : {S : Type 0} (code : Code S) (s : OrdinaryState S) (m : Machine S) (ends : List ThreadEnd) → IsFurther code s m → AreEnds m.now ends → AreEnds s ends
ends_there code s m ends further those = record {
  threads = record {
    rising = those.threads.rising;
    each = λ t.
        let same = further_over code (s.threads t) (m.now.threads t) (m.silents t) (further.threads t) in
        (λ there. same.0 ((those.threads.each t).0 there), λ over. (those.threads.each t).1 (same.1 over));
  };
  classes = λ k d within. there (get_or ends k d) (those.classes k d within);
}
  where
    there : (end : ThreadEnd) → m.now.threads end.thread ≡ ended end.class → s.threads end.thread ≡ ended end.class
    there end is = further_end code (s.threads end.thread) (m.now.threads end.thread) (m.silents end.thread) end.class (further.threads end.thread) is

pub executions : {S : Type 0} (code : Code S) → RunsAreExecutions code
executions code m schedule limits keeping outcome none ran =
    let made = calls_of code limits (begun_with m schedule keeping) ran.last ran.threads (kept_follows code limits keeping (begun_with m schedule keeping) ran.last ran.threads ran.goes.0) in
    let last = ran.last.state.machine in
    let done = executed code m last made.calls none made.runs in
    record {
      events = events_of made.calls;
      last = done.state;
      kept = all_kept (keeps_steps keeping) outcome.events ran.last.state.events (events_of made.calls) made.kept ran.events;
      leads = done.leads;
      lines = ran.lines ∙ done.lines;
      ends = ends_there code done.state last outcome.ends done.further ran.ends;
      made = made_there done.state last.now outcome.lines outcome.made done.further.shared ran.made;
    }

live_at : {S : Type 0} (thread : Thread S) → is_live thread ≡ true → (l : S) × (thread ≡ live l)
live_at unused lives = absurd (cc)
live_at (live l) lives = (l, refl)
live_at (ended x) lives = absurd (cc)

pub stuck : {S : Type 0} (code : Code S) → StuckRunsAreStuck code
stuck code m schedule limits keeping outcome ran none is never =
    let made = calls_of code limits (begun_with m schedule keeping) ran.last ran.threads (kept_follows code limits keeping (begun_with m schedule keeping) ran.last ran.threads ran.goes.0) in
    let last = ran.last.state.machine in
    let held = held_up code limits keeping ran.last (subst (EndsBy (turns_keeping code limits keeping) ran.last) is ran.goes.1) in
    let still : IsStandstill code last = record {
      some_live = (held.some_live.0, live_at (last.now.threads held.some_live.0) held.some_live.1);
      none_advances = held.none_enabled;
      none_halts = never;
    } in
    (events_of made.calls, all_kept (keeps_steps keeping) outcome.events ran.last.state.events (events_of made.calls) made.kept ran.events, standstills_stuck code m last made.calls none made.runs still, ran.lines ∙ (executed code m last made.calls none made.runs).lines)
