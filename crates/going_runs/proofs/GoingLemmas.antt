-- A run that host threads handed over can go on.
use Rattle.std.proofs.Common.{◌≡◌, ℕ, None, Some, List, refl, sym, ◌∙◌, ap}
use Rattle.std.specs.Prelude.{Option}
use Rattle.std.proofs.lemmas.List.Elements.{All-contains}
use Rattle.op_core.specs.declared.How.{How}
use Rattle.op_core.specs.declared.How.TheVariants as how
use Rattle.op_core.specs.declared.Limit.{Limit}
use Rattle.op_core.specs.ThreadCode.{Code, quiet_step}
use Rattle.schedules.specs.declared.order.TurnEnd.TheVariants.{Spent}
use Rattle.thread_automaton.specs.declared.Bounds.{Bounds}
use Rattle.thread_automaton.specs.declared.Move.{Move}
use Rattle.thread_automaton.specs.declared.Move.TheVariants.{Over, Quiet, Stop, Make}
use Rattle.thread_automaton.specs.ThreadState.{ThreadState}
use Rattle.thread_automaton.specs.NextMove.{next_move}
use Rattle.thread_moves.specs.Thread.{thread_of}
use Rattle.thread_moves.specs.declared.thread.JThread.{JThread}
use Rattle.opening_cores.specs.Openings.{opening_core}
use Rattle.table_words.specs.declared.setup.Setup.{Setup}
use Rattle.table_words.specs.Setups.{setup_bounds}
use Rattle.table_hosts.specs.Tallies.{MeetsBy}
use Rattle.word_runs.specs.WordTurns.{Progress, GivesQuiet, GivesBy}
use Rattle.word_machine.specs.Resumed.{AreThreads}
use Rattle.sched_core.specs.Going.{EndsAsSaid}
use Rattle.going_runs.specs.HandedOver.{EndedAtLimit, HandedOverRunsGoOn}
use Rattle.going_runs.proofs.PlaceLemmas.{whole_runs_have_places}

meets_gives : {S : Type 0} (code : Code S) (b : Bounds) (r : Progress S) (t : ℕ) (th : ThreadState S) (l : Limit) (move : Move) → MeetsBy move (quiet_step code th.local) l
    → GivesBy code b r t th move (Spent l) r
meets_gives code b r t th l (Stop limit) is = (ap Spent is, refl)
meets_gives {S} code b r t th l Quiet is = by_step (quiet_step code th.local) is
  where
    by_step : (o : Option S) → MeetsBy Quiet o l → GivesQuiet r t th o (Spent l) r
    by_step None is = (ap Spent is, refl)
    by_step (Some m) is = absurd is
meets_gives code b r t th l Over is = absurd is
meets_gives code b r t th l (Make step) is = absurd is

ends_so : {C S : Type 0} (state : C → S) (saved : C → List S) (code : Code S) (k : Setup C) (xs : List (JThread C)) (place : Progress S) → AreThreads (thread_of state saved) xs place.core.threads
    → (end : Option How) → EndedAtLimit state saved code k xs end → EndsAsSaid code (setup_bounds k) place end
ends_so state saved code k xs place are None met = tt
ends_so {C} state saved code k xs place are (Some (how.Limit t limit)) (x, there, number, spent) = (
  thread_of state saved x,
  ap place.core.threads (sym number) ∙ All-contains (λ (z : JThread C). place.core.threads z.own.number ≡ Some (thread_of state saved z)) xs x are.each there,
  meets_gives code (setup_bounds k) place t (thread_of state saved x) limit (next_move code (setup_bounds k) (thread_of state saved x)) spent,
)
ends_so state saved code k xs place are (Some end) met = absurd met

pub handed_over_runs_go_on : {C S : Type 0} (state : C → S) (saved : C → List S) (code : Code S) → HandedOverRunsGoOn state saved code
handed_over_runs_go_on state saved code k words ps going can well over =
    let (place, is) = whole_runs_have_places state saved code k _ ps going.threads.items can over.whole over.after in (
      place,
      is.acts,
      record {
        core = opening_core k.opening (state k.code);
        well = well;
        acts = is.acts;
        untold = is.untold;
        words_are = is.words;
        threads = is.threads;
        bounds = over.bounds;
        opened = over.opened ∙ sym is.opened;
        undone = over.undone ∙ sym is.undone;
        how = ends_so state saved code k going.threads.items place is.threads going.how over.how;
      },
    )
