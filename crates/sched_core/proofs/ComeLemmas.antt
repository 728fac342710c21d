-- How far a run has come from where it was.
use Rattle.std.proofs.Common.{◌≡◌, ℕ, None, Some, List, [], ◌++◌, refl, sym, ◌∙◌, ap, subst}
use Rattle.std.specs.Option.{option_map}
use Rattle.op_core.specs.declared.thread_code.ThreadCode.{Ghosts}
use Rattle.op_core.specs.declared.How.{How}
use Rattle.op_core.specs.ThreadCode.{Code}
use Rattle.schedules.specs.Run.{Run, Follows, EndsBy}
use Rattle.schedules.proofs.RunLemmas.{go_on}
use Rattle.heap_words.specs.declared.areas.Areas.{Areas}
use Rattle.thread_automaton.specs.declared.Bounds.{Bounds}
use Rattle.thread_automaton.specs.ThreadState.{ThreadState}
use Rattle.core_runs.specs.Cores.{Core}
use Rattle.thread_moves.specs.declared.thread.JThread.{JThread}
use Rattle.word_runs.specs.WordTurns.{Progress, word_turns}
use Rattle.word_runs.specs.Laws.{AreActs}
use Rattle.word_machine.specs.Seats.{seat_in}
use Rattle.sched_core.specs.declared.word_run.WordRun.{WordRun}
use Rattle.sched_core.specs.declared.word_outcome.WordOutcome.{WordOutcome}
use Rattle.sched_core.specs.Readiness.{StaysWell}
use Rattle.sched_core.specs.Outcome.{TellsPlace, IsOutcomeOf}
use Rattle.sched_core.specs.ScheduledRun.{AreReady, IsPlaceOf, IsOnWay, GoesOnFrom, SaysRun}
use Rattle.sched_core.proofs.ReadyLemmas.{place_well, stays_ready, stays_apart}
use Rattle.sched_core.proofs.FollowLemmas.{follow_acts}

-- The run in memory is at a place to which turns of some threads lead from this one.
pub record HasCome {C S : Type 0} {G : Ghosts C} (code : Code S) (meant : JThread C → ThreadState S) (b : Bounds) (areas : Areas) (from : Run (Progress S)) (w : WordRun C G) : Type 0 where
  pub threads : List ℕ
  pub last : Run (Progress S)
  pub follows : Follows (word_turns code b) from threads last
  pub place : IsPlaceOf meant w last.state
  pub rest : last.rest ≡ w.rest
  pub bounds : w.machine.bounds ≡ b
  pub areas_are : w.machine.words.areas ≡ areas

module _ {C S : Type 0} {G : Ghosts C} (code : Code S) (meant : JThread C → ThreadState S) where
  -- what is in memory tells of its place
  pub tells : (b : Bounds) (areas : Areas) (core : Core S) (r : Progress S) (w : WordRun C G) (end : How) (outcome : WordOutcome) → StaysWell code b areas core → AreActs code b core r → IsPlaceOf meant w r
      → SaysRun code meant w end outcome → TellsPlace code r outcome
  tells b areas core r w end outcome well are place says = record {
    lines = says.lines r.core place.core (place_well code b areas core well 0 r are).lines;
    ends = says.ends r.core place.core;
    opened = says.opened ∙ place.opens;
    undone = says.undone ∙ place.undoes;
    made = says.made r.core place.core;
  }

  module _ (start : WordRun C G) (from : Run (Progress S)) (way : IsOnWay code meant start from) where
    abbrev b : Bounds
    b = start.machine.bounds

    abbrev areas : Areas
    areas = start.machine.words.areas

    pub come_first : HasCome code meant start.machine.bounds start.machine.words.areas from start
    come_first = record { threads = []; last = from; follows = refl; place = way.place; rest = way.rest; bounds = refl; areas_are = refl }

    -- acts lead to where it has come
    are : (w : WordRun C G) → (come : HasCome code meant start.machine.bounds start.machine.words.areas from w) → AreActs code start.machine.bounds way.core come.last.state
    are w come = (follow_acts code b areas way.core way.well from come.last come.threads way.acts come.follows).0

    pub come_ready : (w : WordRun C G) → HasCome code meant start.machine.bounds start.machine.words.areas from w
        → AreReady code meant w.machine.bounds w.machine.words w.machine.seats.places.items
    come_ready w come = subst (λ k. AreReady code meant k w.machine.words w.machine.seats.places.items) (sym come.bounds) (record {
      ready = λ t x here. stays_ready code b areas way.core way.well t r (meant x) w.machine.words (are w come) (stands t x here) come.place.core.words come.areas_are;
      apart = λ t u x y here there other. stays_apart code b areas way.core way.well t r (meant x) (meant y) u w.machine.words (are w come) (stands t x here) (stands u y there) other come.place.core.words;
    })
      where
        r : Progress S
        r = come.last.state

        stands : (t : ℕ) (x : JThread C) → seat_in w.machine.seats.places.items t ≡ Some x → come.last.state.core.threads t ≡ Some (meant x)
        stands t x here = ap (λ f. f t) come.place.core.threads ∙ ap (option_map meant) here

    pub come_further : (old new : WordRun C G) → HasCome code meant start.machine.bounds start.machine.words.areas from old → new.machine.bounds ≡ old.machine.bounds → new.machine.words.areas ≡ old.machine.words.areas
        → GoesOnFrom code meant old.machine.bounds old None new → HasCome code meant start.machine.bounds start.machine.words.areas from new
    come_further old new come bounds areas_are goes =
        let (next, on, place, rest_is) = subst (λ k. GoesOnFrom code meant k old None new) come.bounds goes come.last come.place come.rest in
        record {
          threads = come.threads ++ on.threads;
          last = next;
          follows = go_on (Progress S) (word_turns code b) _ come.last next come.threads on.threads come.follows on.follows;
          place = place;
          rest = rest_is;
          bounds = bounds ∙ come.bounds;
          areas_are = areas_are ∙ come.areas_are;
        }

    pub come_to_end : (old new : WordRun C G) (end : How) (outcome : WordOutcome) → HasCome code meant start.machine.bounds start.machine.words.areas from old
        → GoesOnFrom code meant old.machine.bounds old (Some end) new → SaysRun code meant new end outcome → IsOutcomeOf code start.machine.bounds from outcome
    come_to_end old new end outcome come goes says =
        let (ends_so, place) = subst (λ k. GoesOnFrom code meant k old (Some end) new) come.bounds goes come.last come.place come.rest in
        record {
          threads = come.threads;
          last = come.last;
          goes = (come.follows, subst (λ h. EndsBy (word_turns code b) come.last h) (sym says.how) ends_so);
          told = tells b areas way.core come.last.state new end outcome way.well (are old come) place says;
        }
