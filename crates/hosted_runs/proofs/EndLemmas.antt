-- Where a run ends that went on from the place where its threads left their host threads.
use Rattle.std.proofs.Common.{◌≡◌, ℕ, Bool, false, Option, None, Some, List, [], ◌∷◌, refl, sym, ◌∙◌, ap, subst, if◌then◌else◌, ◌&&◌}
use Rattle.std.specs.Prelude.{nat_le}
use Rattle.op_core.specs.declared.How.{How}
use Rattle.op_core.specs.declared.How.TheVariants as how
use Rattle.op_core.specs.declared.Limit.{Limit}
use Rattle.op_core.specs.declared.Limit.TheVariants.{Trace}
use Rattle.op_core.specs.ThreadCode.{Code, quiet_step}
use Rattle.schedules.specs.declared.order.TurnEnd.{TurnEnd}
use Rattle.schedules.specs.Run.{Run, Follows, EndsOfItself, EndsWith, EndsBy}
use Rattle.heap_words.specs.declared.areas.Areas.{Areas}
use Rattle.thread_automaton.specs.declared.Bounds.{Bounds}
use Rattle.thread_automaton.specs.declared.Move.{Move}
use Rattle.thread_automaton.specs.declared.Move.TheVariants.{Over, Quiet, Stop, Make}
use Rattle.thread_automaton.specs.NextMove.{next_move}
use Rattle.core_runs.specs.Cores.{Core}
use Rattle.word_runs.specs.WordTurns.{Progress, most_shown, last_mover, GivesQuiet, GivesBy, word_turns}
use Rattle.word_runs.specs.Laws.{AreActs}
use Rattle.sched_core.specs.declared.word_outcome.WordOutcome.{WordOutcome}
use Rattle.sched_core.specs.Outcome.{IsOutcomeOf}
use Rattle.sched_core.specs.Readiness.{StaysWell}
use Rattle.sched_core.specs.Going.{unscheduled, EndsAsSaid, IsGoneOn, TurnsGoOnAsActs}
use Rattle.hosted_runs.specs.Hosted.{EndsThere, IsHostedOutcome}

module _ {S : Type 0} (code : Code S) (b : Bounds) where
  -- no turn changes whether a journal is kept
  gives_keeps : (r new : Progress S) (t : ℕ) (end : TurnEnd) → (word_turns code b).gives r t end new → new.keeps ≡ r.keeps
  gives_keeps r new t end (th, at, gives) = by_next (next_move code b th) gives
    where
      by_quiet : (o : Option S) → GivesQuiet r t th o end new → new.keeps ≡ r.keeps
      by_quiet None given = ap (λ (x : Progress S). x.keeps) given.1
      by_quiet (Some l) given = ap (λ (x : Progress S). x.keeps) given.1

      by_next : (move : Move) → GivesBy code b r t th move end new → new.keeps ≡ r.keeps
      by_next Over given = ap (λ (x : Progress S). x.keeps) given.1
      by_next (Stop limit) given = ap (λ (x : Progress S). x.keeps) given.1
      by_next Quiet given = by_quiet (quiet_step code th.local) given
      by_next (Make step) given = ap (λ (x : Progress S). x.keeps) given.1

  follows_keep : (run last : Run (Progress S)) (threads : List ℕ) → Follows (word_turns code b) run threads last → last.state.keeps ≡ run.state.keeps
  follows_keep run last [] same = ap (λ (x : Run (Progress S)). x.state.keeps) same
  follows_keep run last (t ∷ threads) (end, next, turn, later) = follows_keep next last threads later ∙ gives_keeps run.state next.state t end turn.given

  -- where no journal is kept, a run ends of itself
  ends_of_itself : (last : Run (Progress S)) (end : How) → last.state.keeps ≡ false → EndsBy (word_turns code b) last end → EndsOfItself (word_turns code b) last end
  ends_of_itself last end untold ends =
      subst (λ (met : Option (ℕ × Limit)). EndsWith (word_turns code b) last met end)
      (ap (λ (keeps : Bool). if keeps && nat_le most_shown last.state.shown then Some (last_mover last.state.acts, Trace) else None) untold) ends

  ends_there : (last : Run (Progress S)) (end : How) → EndsOfItself (word_turns code b) last end → EndsThere code b last.state end
  ends_there last how.Done is = is
  ends_there last how.Died is = is
  ends_there last how.Stuck is = record { through = refl; some_live = is.some_live; none_enabled = is.none_enabled }
  ends_there last (how.Limit t limit) is = is.1

  module _ (areas : Areas) (core : Core S) (well : StaysWell code b areas core) (place : Progress S) (are : AreActs code b core place) (untold : place.keeps ≡ false) (outcome : WordOutcome)
      (law : TurnsGoOnAsActs code) where
    goes_on : IsOutcomeOf code b (unscheduled place) outcome → IsHostedOutcome code b core outcome
    goes_on is = record {
      last = is.last.state;
      acts = (law b areas core well (unscheduled place) is.last is.threads are is.goes.0).0;
      ends = ends_there is.last outcome.how (ends_of_itself is.last outcome.how (follows_keep (unscheduled place) is.last is.threads is.goes.0 ∙ untold) is.goes.1);
      told = is.told;
    }

    said : (end : How) → EndsAsSaid code b place (Some end) → EndsThere code b place end
    said (how.Limit t limit) is = is
    said how.Done is = ends_there (unscheduled place) how.Done (ends_of_itself (unscheduled place) how.Done untold is)
    said how.Died is = ends_there (unscheduled place) how.Died (ends_of_itself (unscheduled place) how.Died untold is)
    said how.Stuck is = ends_there (unscheduled place) how.Stuck (ends_of_itself (unscheduled place) how.Stuck untold is)

    pub has_ended : (end : Option How) → EndsAsSaid code b place end → IsGoneOn code b place end outcome → IsHostedOutcome code b core outcome
    has_ended None so is = goes_on is
    has_ended (Some end) so is = record {
      last = place;
      acts = are;
      ends = subst (EndsThere code b place) (sym is.0) (said end so);
      told = is.1;
    }
