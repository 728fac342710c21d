-- A run in memory as it begins, and as it goes on where it was left.
use Rattle.std.proofs.Common.{◌≡◌, false, None, Some, List, [], refl, sym, ◌∙◌, ap, subst}
use Rattle.op_core.specs.declared.thread_code.ThreadCode.{Ghosts}
use Rattle.op_core.specs.ThreadCode.{Code}
use Rattle.op_core.specs.OrdinaryState.{set_at}
use Rattle.schedules.specs.Schedule.{Rest}
use Rattle.heap_words.specs.declared.areas.Areas.{Areas}
use Rattle.plain_words.specs.declared.plain.PlainWords.{PlainWords}
use Rattle.plain_words.specs.Table.{words_in}
use Rattle.thread_automaton.specs.declared.Bounds.{Bounds}
use Rattle.thread_automaton.specs.ThreadState.{ThreadState, first_state}
use Rattle.core_runs.specs.Cores.{Core}
use Rattle.thread_moves.specs.Thread.{thread_of}
use Rattle.thread_moves.specs.declared.thread.JThread.{JThread}
use Rattle.going_threads.specs.declared.going.Going.{Going}
use Rattle.word_runs.specs.WordTurns.{Progress}
use Rattle.word_runs.specs.Laws.{begun_with, AreActs}
use Rattle.word_machine.specs.Machine.{threads_in, IsCoreOf}
use Rattle.word_machine.specs.Resumed.{AreThreads}
use Rattle.sched_core.specs.declared.word_run.WordRun.{WordRun}
use Rattle.sched_core.specs.Readiness.{StaysWell}
use Rattle.sched_core.specs.ScheduledRun.{IsOnWay}
use Rattle.sched_core.specs.Going.{unscheduled, IsGoing}

module _ {C S : Type 0} {G : Ghosts C} (code : Code S) (b : Bounds) where
  -- with its first thread, which begins
  pub way_begins : (state : C → S) (saved : C → List S) (areas : Areas) (core : Core S) (rest : Rest) (w : WordRun C G) (main : JThread C) (l : S) → StaysWell code b areas core → w.machine.bounds ≡ b
      → w.machine.words.areas ≡ areas → core.words ≡ words_in w.machine.words
      → threads_in (thread_of state saved) w.machine.seats.places.items ≡ set_at (λ t. None) main.own.number (Some (thread_of state saved main)) → thread_of state saved main ≡ first_state 1 5 l
      → core.threads ≡ set_at (λ t. None) 1 (Some (first_state 1 5 l)) → w.rest ≡ rest → w.opened ≡ 0 → w.undone ≡ 0 → IsOnWay code (thread_of state saved) w (begun_with core rest false)
  way_begins state saved areas core rest w main l well bounds areas_are words threads main_is begins rest_is opened undone = record {
    core = core;
    well = subst (λ k. StaysWell code k w.machine.words.areas core) (sym bounds) (subst (λ a. StaysWell code b a core) (sym areas_are) well);
    acts = record { cores = λ k. core; begins = refl; leads = tt; ends = refl };
    place = record {
      core = record {
        words = words;
        threads = begins ∙ ap (λ (th : ThreadState S). set_at (λ t. None) th.number (Some th)) (sym main_is) ∙ sym threads;
      };
      untold = refl;
      opens = opened;
      undoes = undone;
    };
    rest = sym rest_is;
  }

  -- with all threads of a run that was left
  pub way_goes : (meant : JThread C → ThreadState S) (words : PlainWords) (going : Going C) (place : Progress S) (w : WordRun C G) → IsGoing code meant b words going place → w.machine.bounds ≡ b
      → w.machine.words ≡ words
      → ((core : Core S) → core.words ≡ words_in words → AreThreads meant going.threads.items core.threads → IsCoreOf meant w.machine.words w.machine.seats.places.items core)
      → w.rest ≡ record { order = []; number = None } → w.opened ≡ going.opened → w.undone ≡ going.undone → IsOnWay code meant w (unscheduled place)
  way_goes meant words going place w is bounds words_are in_memory rest opened undone = record {
    core = is.core;
    well = subst (λ k. StaysWell code k w.machine.words.areas is.core) (sym bounds) (subst (λ (x : PlainWords). StaysWell code b x.areas is.core) (sym words_are) is.well);
    acts = subst (λ k. AreActs code k is.core place) (sym bounds) is.acts;
    place = record { core = in_memory place.core is.words_are is.threads; untold = is.untold; opens = opened ∙ is.opened; undoes = undone ∙ is.undone };
    rest = sym rest;
  }
