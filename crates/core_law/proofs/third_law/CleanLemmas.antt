-- The cut of a run is clean.
use Rattle.std.proofs.Common.{◌≡◌, ℕ, suc, Bool, Option, None, Some, List, [], ◌∷◌, length, refl, ◌∙◌, ap}
use Rattle.op_core.specs.ThreadCode.{Code}
use Rattle.op_core.specs.OrdinaryState.{Object, free, view_of}
use Rattle.op_core.specs.InPlaceList.{Entry}
use Rattle.op_core.specs.CleanCut.{AgreeFrom}
use Rattle.thread_automaton.specs.declared.Bounds.{Bounds}
use Rattle.ordinary_words.specs.Reading.{monitor_of, monitor_in}
use Rattle.core_runs.specs.Cores.{Core}
use Rattle.core_runs.specs.Acts.{Act}
use Rattle.core_runs.specs.Entries.{ShowFrom}
use Rattle.core_runs.specs.Reading.{ordinary}
use Rattle.first_law.proofs.grounded_monitors.RunLemmas.{free_runs_fit_objects, free_runs_hold_monitors}
use Rattle.written_words.specs.Noted.{IsTaggedRun}
use Rattle.first_law.specs.Cuts.{is_cut_by}
use Rattle.core_law.specs.CleanCuts.{IsShownRun}
use Rattle.core_law.specs.CutLaw.{IsCutRun, EventsLeftAgree, CutsAreClean, EventsLeftSettle}
use Rattle.core_law.proofs.third_law.LevelLemmas.{undone_is_cut, undoings_nest, cut_is_covered}
use Rattle.core_law.proofs.third_law.AllowedLemmas.{cut_is_allowed}
use Rattle.core_law.proofs.third_law.ViewLemmas.{agree_all, words_end, monitors_end}

same_size : {S : Type 0} (code : Code S) (b : Bounds) (c : ℕ → Core S) (k : ℕ) (acts : List Act) (es : List Entry) → ShowFrom code b c k acts es → length es ≡ length acts
same_size code b c k [] [] shows = refl
same_size code b c k [] (e ∷ es) shows = absurd shows
same_size code b c k (x ∷ acts) [] shows = absurd shows
same_size code b c k (x ∷ acts) (e ∷ es) shows = ap suc (same_size code b c (suc k) acts es shows.1)

module _ {S : Type 0} (code : Code S) (b : Bounds) (is_thread : ℕ → Bool) (first : S) (classes : ℕ) (c : ℕ → Core S) (acts : List Act) (es : List Entry) (doomed : ℕ → Bool)
    (run : IsCutRun code b is_thread first classes c acts es doomed) where
  tagged : IsTaggedRun code b is_thread first classes c acts
  tagged = record {
    monitors = free_runs_hold_monitors code b is_thread first classes c acts run.free;
    laid = free_runs_fit_objects code b is_thread first classes c acts run.free;
    sections = run.sections;
  }

  shown : IsShownRun code b first classes c acts es doomed
  shown = record { levelled = tagged.monitors.levelled; shows = run.shows; tells = run.tells }

  first_free : (r : ℕ) → (ordinary code is_thread (c 0)).monitors r ≡ free
  first_free r = by_object ((c 0).objects r) refl
    where
      by_object : (o : Option Object) → (c 0).objects r ≡ o → (ordinary code is_thread (c 0)).monitors r ≡ free
      by_object None is = ap (monitor_in (c 0).words r) is
      by_object (Some o) is = ap (monitor_in (c 0).words r) is ∙ ap (monitor_of (c 0).words) (run.free.free r (o, is))

  agree : AgreeFrom (is_cut_by doomed c acts) (λ k. ordinary code is_thread (c k)) 0 (view_of (ordinary code is_thread (c 0))) es
  agree = agree_all code b is_thread first classes c acts es doomed shown run.in_place tagged first_free

pub events_left_agree : {S : Type 0} (code : Code S) → EventsLeftAgree code
events_left_agree code b is_thread first classes c acts es doomed run = agree code b is_thread first classes c acts es doomed run

pub cuts_are_clean : {S : Type 0} (code : Code S) → CutsAreClean code
cuts_are_clean code b is_thread first classes c acts es doomed run = record {
  undone = undone_is_cut code b first classes c acts es doomed (shown code b is_thread first classes c acts es doomed run);
  nested = undoings_nest code b first classes c acts es doomed (shown code b is_thread first classes c acts es doomed run);
  covered = cut_is_covered code b first classes c acts es doomed (shown code b is_thread first classes c acts es doomed run);
  allowed = cut_is_allowed code b first classes c acts es doomed (shown code b is_thread first classes c acts es doomed run);
  agree = events_left_agree code b is_thread first classes c acts es doomed run;
}

pub events_left_settle : {S : Type 0} (code : Code S) → EventsLeftSettle code
events_left_settle code b is_thread first classes c acts es doomed run = (
  words_end code b is_thread first classes c acts es doomed (shown code b is_thread first classes c acts es doomed run) run.in_place (tagged code b is_thread first classes c acts es doomed run)
      (first_free code b is_thread first classes c acts es doomed run) (same_size code b c 0 acts es run.shows),
  monitors_end code b is_thread first classes c acts es doomed (shown code b is_thread first classes c acts es doomed run) run.in_place (tagged code b is_thread first classes c acts es doomed run)
      (first_free code b is_thread first classes c acts es doomed run) (same_size code b c 0 acts es run.shows),
)
