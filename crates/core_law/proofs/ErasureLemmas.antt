-- What is left of a run is an execution.
use Rattle.std.proofs.Common.{◌≡◌, ℕ, Bool, true≢false, Option, None, Some, List, length, refl, sym, ◌∙◌, ap, subst}
use Rattle.std.specs.Prelude.{IsNone}
use Rattle.op_core.specs.ThreadCode.{Code}
use Rattle.op_core.specs.OrdinaryState.{Object, OrdinaryState, OnlyObjectsHaveWords}
use Rattle.op_core.specs.InPlaceList.{Entry, IsInPlaceList}
use Rattle.op_core.specs.Execution.{Leads}
use Rattle.op_core.specs.CleanCut.{kept_by}
use Rattle.op_core.specs.Laws.{IsKeptOf}
use Rattle.op_core.proofs.CutLemmas.{cuts_lead, cuts_leave}
use Rattle.op_core.proofs.ExecutionLemmas.{lines as lines_are_printed}
use Rattle.ordinary_words.specs.Reading.{word_in}
use Rattle.core_runs.specs.Cores.{Core}
use Rattle.core_runs.specs.Entries.{ShowFrom}
use Rattle.core_runs.specs.Reading.{ordinary}
use Rattle.section_laws.specs.Levels.{IsLevelledRun}
use Rattle.first_law.specs.SettledRuns.{IsDoomedTest}
use Rattle.written_words.specs.SettledWords.{WordsAreSettled}
use Rattle.first_law.proofs.grounded_monitors.RunLemmas.{free_runs_are_in_place, free_runs_hold_monitors}
use Rattle.first_law.specs.Cuts.{is_cut_by}
use Rattle.core_law.specs.CleanCuts.{IsShownRun}
use Rattle.core_law.specs.CutLaw.{IsCutRun, MonitorsAreSettled}
use Rattle.core_law.proofs.third_law.LevelLemmas.{rested_threads_have_gone_back}
use Rattle.core_law.proofs.third_law.AllowedLemmas.{cut_is_allowed}
use Rattle.core_law.proofs.third_law.CleanLemmas.{cuts_are_clean, events_left_settle}
use Rattle.core_law.specs.RevokedLevels.{is_level_revoked}
use Rattle.core_law.specs.Erasure.{ErasedRunsAreExecutions, is_left_out, RunsAreErased}
use Rattle.core_law.proofs.RevokedLemmas.{revoked_levels_are_told}

only_objects : {S : Type 0} (code : Code S) (is_thread : ℕ → Bool) (core : Core S) → OnlyObjectsHaveWords (ordinary code is_thread core)
only_objects code is_thread core r i none = by_object (core.objects r) refl none
  where
    by_object : (o : Option Object) → core.objects r ≡ o → IsNone o → (ordinary code is_thread core).words r i ≡ 0
    by_object None is none = ap (word_in is_thread core.words r i) is
    by_object (Some o) is none = absurd (true≢false none)

pub erased_runs_are_executions : {S : Type 0} (code : Code S) → ErasedRunsAreExecutions code
erased_runs_are_executions code b is_thread first classes c acts es doomed run =
    cuts_leave code (λ k. ordinary code is_thread (c k)) es (is_cut_by doomed c acts) (only_objects code is_thread (c 0)) run.free.grounded.grounded run.in_place
    (cuts_are_clean code b is_thread first classes c acts es doomed run)

pub runs_are_erased : {S : Type 0} (code : Code S) → RunsAreErased code
runs_are_erased {S} code b is_thread first classes c acts free sections = record {
  entries = es;
  last = led.0;
  count = placed.1;
  shows = placed.2;
  leads = led.1;
  kept = kept;
  lines = sym kept.lines ∙ lines_are_printed code (states 0) led.0 (kept_by cut es) led.1;
  lasting = λ k t op reply at out. cut_is_allowed code b first classes c acts es (is_level_revoked c acts) shown k t op reply out at;
  words = subst (WordsAreSettled is_thread (is_level_revoked c acts) (c (length acts))) (sym kept.words) (events_left_settle code b is_thread first classes c acts es (is_level_revoked c acts) run).0;
  monitors = subst (MonitorsAreSettled (is_level_revoked c acts) (c (length acts))) (sym kept.monitors) (events_left_settle code b is_thread first classes c acts es (is_level_revoked c acts) run).1;
  places = λ t l none at. kept.places t l at (λ i left_out is. rested_threads_have_gone_back code b first classes c acts es (is_level_revoked c acts) shown t none i left_out is);
}
  where
    states : ℕ → OrdinaryState S
    states k = ordinary code is_thread (c k)

    cut : ℕ → Bool
    cut = is_left_out c acts

    placed : (es : List Entry) × (length es ≡ length acts) × ShowFrom code b c 0 acts es × IsInPlaceList code (λ k. ordinary code is_thread (c k)) es
    placed = free_runs_are_in_place code b is_thread first classes c acts free

    es : List Entry
    es = placed.0

    levelled : IsLevelledRun code b first classes c acts
    levelled = (free_runs_hold_monitors code b is_thread first classes c acts free).levelled

    tells : IsDoomedTest c acts (is_level_revoked c acts)
    tells = revoked_levels_are_told code b first classes c acts levelled

    shown : IsShownRun code b first classes c acts placed.0 (is_level_revoked c acts)
    shown = record { levelled = levelled; shows = placed.2; tells = tells }

    run : IsCutRun code b is_thread first classes c acts placed.0 (is_level_revoked c acts)
    run = record { free = free; sections = sections; shows = placed.2; in_place = placed.3; tells = tells }

    led : (last : OrdinaryState S) × Leads code (ordinary code is_thread (c 0)) (kept_by (is_left_out c acts) placed.0) last × IsKeptOf code (ordinary code is_thread (c 0)) placed.0 (is_left_out c acts) (ordinary code is_thread (c (length placed.0))) last
    led = cuts_lead code (λ k. ordinary code is_thread (c k)) placed.0 (is_left_out c acts) (only_objects code is_thread (c 0)) free.grounded.grounded placed.3
        (cuts_are_clean code b is_thread first classes c acts placed.0 (is_level_revoked c acts) run)

    kept : IsKeptOf code (ordinary code is_thread (c 0)) placed.0 (is_left_out c acts) (ordinary code is_thread (c (length acts))) led.0
    kept = subst (λ n. IsKeptOf code (ordinary code is_thread (c 0)) placed.0 (is_left_out c acts) (ordinary code is_thread (c n)) led.0) placed.1 led.2
