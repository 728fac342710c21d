-- What is so at the end of a run act by act from the opening of a program.
use Rattle.std.proofs.Common.{◌≡◌, ℕ, ◌+◌, ◌-◌, ◌<◌, ◌≤◌, Bool, false, Some, List, length, sym, ◌∙◌, ap, subst, arith}
use Rattle.op_core.specs.ThreadCode.{Code}
use Rattle.op_core.specs.OrdinaryState.{Object, OrdinaryState}
use Rattle.op_core.specs.InPlaceList.{IsGrounded}
use Rattle.op_core.specs.Orderly.{CanStand, StartWordsAreKept}
use Rattle.fixed_objects.specs.Opening.{opening_state}
use Rattle.heap_words.specs.declared.areas.Area.{Area}
use Rattle.heap_words.specs.declared.areas.Area.TheVariants.{Control}
use Rattle.heap_words.specs.Words.{tag_of}
use Rattle.thread_automaton.specs.ThreadState.{ThreadState}
use Rattle.core_runs.specs.Cores.{Core}
use Rattle.core_runs.specs.Acts.{Act, ActFrom}
use Rattle.core_runs.specs.Reading.{ordinary}
use Rattle.section_laws.specs.Layout.{IsWordPlace}
use Rattle.first_law.proofs.grounded_monitors.RunLemmas.{free_runs_fit_objects, free_runs_hold_monitors}
use Rattle.section_laws.proofs.held_levels.StandLemmas.{threads_stand_in_order}
use Rattle.written_words.specs.Tags.{IsWrittenRun}
use Rattle.kept_states.specs.Kept.{Objects, IsKeptState}
use Rattle.opening_cores.specs.KeptCores.{CoresAreKept}
use Rattle.opening_cores.proofs.kept_cores.CoreLemmas.{cores_keep}
use Rattle.opening_cores.specs.Openings.{opening_core}
use Rattle.opening_cores.proofs.OpeningLemmas.{openings_begin_runs, openings_are_ordinary, openings_have_no_tags}
use Rattle.thread_moves.specs.Thread.{CanBeAsked}
use Rattle.ready_runs.specs.Ready.{HasWordsFor, IsRunInRoom, CanStep}
use Rattle.ready_runs.proofs.ReadyLemmas.{steps_are_allowed}
use Rattle.table_words.specs.declared.setup.Setup.{Setup}
use Rattle.table_words.specs.Setups.{setup_bounds, setup_areas}
use Rattle.table_runs.specs.Programs.{CanRun}

module _ {C S : Type 0} (state : C → S) (code : Code S) (k : Setup C) (is_thread : ℕ → Bool) (classes : ℕ) (P : Objects → S → Type 0) (W : Objects → ℕ → ℕ → ℕ → Type 0) (O : ℕ → Object → Type 0)
    (may : CanRun state code k is_thread classes P W O) (c : ℕ → Core S) (acts : List Act) (starts : c 0 ≡ opening_core k.opening (state k.code)) (leads : ActFrom code (setup_bounds k) c 0 acts) where
  at_start : ordinary code is_thread (c 0) ≡ opening_state k.opening (state k.code)
  at_start = ap (ordinary code is_thread) starts ∙ openings_are_ordinary code is_thread (setup_bounds k) k.opening may.begins (state k.code)

  kept : CoresAreKept code (setup_bounds k) is_thread (state k.code) classes c acts P W O
  kept = cores_keep code P W O is_thread may.fitting (setup_bounds k) (state k.code) classes c acts may.orderly
      (subst (IsGrounded code) (sym at_start) may.grounded) (subst (StartWordsAreKept code is_thread) (sym at_start) may.starts)
      (openings_begin_runs code is_thread (setup_bounds k) k.opening may.begins (state k.code) c acts starts leads) (subst (IsKeptState P W O) (sym at_start) may.kept)

  written : IsWrittenRun code (setup_bounds k) is_thread (state k.code) classes c acts
  written = record {
    tagged = record {
      monitors = free_runs_hold_monitors code (setup_bounds k) is_thread (state k.code) classes c acts kept.run;
      laid = free_runs_fit_objects code (setup_bounds k) is_thread (state k.code) classes c acts kept.run;
      sections = may.sections;
    };
    begins = subst (λ (x : Core S). (p : ℕ) → IsWordPlace is_thread x.objects p → tag_of (x.words (Area.Object p)) ≡ 0) (sym starts)
        (openings_have_no_tags is_thread (setup_bounds k) k.opening may.begins (state k.code));
  }

  has_words : HasWordsFor (setup_bounds k) classes (setup_areas k)
  has_words = record { sections = omega arith; classes = may.inits; objects = ends k.opening.first k.limits.heap may.begins.place.first }
    where
      ends : (first heap : ℕ) → 0 < first → first + heap ≤ first - 1 + heap + 1
      ends first heap some = omega (arith, some)

  in_room : IsRunInRoom code (setup_bounds k) is_thread (state k.code) classes c acts
  in_room = record {
    run = kept.run;
    written = written;
    begins = record {
      sections = ap (λ (x : Core S). x.words (Control 1)) starts;
      taken = ap (λ (x : Core S). x.words (Control 2)) starts;
      lines = ap (λ (x : Core S). x.words (Control 3)) starts;
      threads = ap (λ (x : Core S). x.words (Control 4)) starts;
    };
    turns = may.turns;
  }

  module _ (t : ℕ) (th : ThreadState S) (stands : (c (length acts)).threads t ≡ Some th) where
    pub asked_last : th.over ≡ false → CanBeAsked code th.local (code.next th.local)
    asked_last going = kept.asked (length acts) t th (omega arith) stands going

    pub steps_last : CanStep code (setup_bounds k) (setup_areas k) (c (length acts)).words th
    steps_last = steps_are_allowed code (setup_bounds k) is_thread (state k.code) classes (setup_areas k) c acts has_words in_room (length acts) t th (omega arith) stands

    pub stands_last : CanStand code (state k.code) th.local
    stands_last = threads_stand_in_order code (setup_bounds k) (state k.code) classes c acts written.tagged.monitors.levelled.ordered (length acts) t th (omega arith) stands
