-- What the acts of a run tell is what `run_journals` says of them.
use Rattle.std.proofs.Common.{◌≡◌, ℕ, zero, suc, ◌<◌, ◌≤◌, Bool, Option, Some, List, [], ◌∷◌, ◌++◌, length, refl, sym, ◌∙◌, ap, arith}
use Rattle.std.specs.Prelude.{slice_get}
use Rattle.op_core.specs.ThreadCode.{Code}
use Rattle.op_core.specs.InPlaceList.{Entry, unseen}
use Rattle.step_port.specs.declared.answer.StepAnswer.{StepAnswer}
use Rattle.step_port.specs.declared.step.Step.{Step}
use Rattle.thread_automaton.specs.declared.Bounds.{Bounds}
use Rattle.core_runs.specs.Cores.{Core}
use Rattle.core_runs.specs.Acts.{Act, quiet, did, beside, ActAt}
use Rattle.core_runs.specs.Entries.{Shows}
use Rattle.section_laws.proofs.RunLemmas.{act_at}
use Rattle.section_laws.specs.Levels.{IsLevelledRun}
use Rattle.core_law.specs.CleanCuts.{IsShownRun}
use Rattle.core_law.proofs.third_law.EntryLemmas.{entry_at}
use Rattle.first_law.proofs.grounded_monitors.RunLemmas.{free_runs_hold_monitors}
use Rattle.core_law.specs.RevokedLevels.{is_level_revoked}
use Rattle.core_law.proofs.RevokedLemmas.{revoked_levels_are_told}
use Rattle.journal_rows.specs.Told.{after_row_calls, items_left}
use Rattle.core_law.specs.RunCalls.{open_or_close_calls, calls_at, rows_at}
use Rattle.core_law.specs.Calls.{end_calls_told}
use Rattle.core_law.specs.ToldLaws.{StepsTellRows, SilentMovesTellNothing, ThreadsTellJournals}
use Rattle.traced_runs.specs.Told.{calls_of_step, calls_of_act, told_at}
use Rattle.traced_runs.specs.Laws.{RowsLeftAreJournals}
use Rattle.traced_runs.proofs.CallLemmas.{none_moved}

module _ {S : Type 0} (code : Code S) (steps : StepsTellRows code) (silents : SilentMovesTellNothing code) (b : Bounds) (first : S) (classes : ℕ) (c : ℕ → Core S) (acts : List Act) (es : List Entry) (doomed : ℕ → Bool)
    (shown : IsShownRun code b first classes c acts es doomed) where
  beside_calls : (k t : ℕ) (step : Step) (a : StepAnswer) → ActAt code b c k (beside t step a) → (o : Option Entry) (e : Entry) → o ≡ Some e → e ≡ unseen → calls_at c k (Some (beside t step a)) o ≡ []
  beside_calls k t step a at o e here is =
      ap (calls_at c k (Some (beside t step a))) here ∙ ap (λ x. calls_at c k (Some (beside t step a)) (Some x)) is
      ∙ ap (λ calls. calls ++ []) (ap (λ (x : Core S). open_or_close_calls 0 (length ((c k).levels 0)) (length (x.levels 0))) at.leads ∙ none_moved 0 (length ((c k).levels 0)))

  act_calls : (k : ℕ) (x : Act) → slice_get acts k ≡ Some x → calls_of_act code b (c k) (slice_get acts k) ≡ calls_at c k (slice_get acts k) (slice_get es k)
  act_calls k (quiet t) here = ap (calls_of_act code b (c k)) here ∙ sym (silents b first classes c acts es doomed shown k t here)
  act_calls k (did t step a) here =
      let at = act_at code b c acts k (did t step a) shown.levelled.ordered.run.leads here in
      ap (calls_of_act code b (c k)) here ∙ ap (calls_of_step code b t step a) at.stands ∙ sym (steps b first classes c acts es doomed shown k t step a at.from here at.stands)
  act_calls k (beside t step a) here =
      let at = act_at code b c acts k (beside t step a) shown.levelled.ordered.run.leads here in
      let found : (e : Entry) × (slice_get es k ≡ Some e) × Shows code b (c k) (beside t step a) e = entry_at code b c acts es k (beside t step a) shown.shows here in
      ap (calls_of_act code b (c k)) here ∙ sym (beside_calls k t step a at (slice_get es k) found.0 found.1 found.2) ∙ ap (λ o. calls_at c k o (slice_get es k)) (sym here)

  there : (xs : List Act) (k : ℕ) → k < length xs → (x : Act) × (slice_get xs k ≡ Some x)
  there [] k low = absurd (omega (arith, low))
  there (x ∷ xs) zero low = (x, refl)
  there (x ∷ xs) (suc k) low = there xs k (omega (arith, low))

  pub told_are_rows : (k : ℕ) → k ≤ length acts → told_at code b c acts k ≡ rows_at c acts es k
  told_are_rows zero within = refl
  told_are_rows (suc k) within =
      let here = there acts k within in
      ap (after_row_calls (calls_of_act code b (c k) (slice_get acts k))) (told_are_rows k (lower k within)) ∙ ap (λ calls. after_row_calls calls (rows_at c acts es k)) (act_calls k here.0 here.1)
    where
      lower : (k : ℕ) → suc k ≤ length acts → k ≤ length acts
      lower k within = omega (arith, within)

pub rows_left : {S : Type 0} (code : Code S) → StepsTellRows code → SilentMovesTellNothing code → ThreadsTellJournals code → RowsLeftAreJournals code
rows_left {S} code steps silents tell b is_thread first classes c acts free left n nobody =
    let levelled : IsLevelledRun code b first classes c acts = (free_runs_hold_monitors code b is_thread first classes c acts free).levelled in
    let shown : IsShownRun code b first classes c acts left.entries (is_level_revoked c acts) =
    record { levelled = levelled; shows = left.shows; tells = revoked_levels_are_told code b first classes c acts levelled } in
    let whole : length acts ≤ length acts = omega arith in
    ap (λ s. items_left (after_row_calls (end_calls_told (c (length acts)) n) s)) (told_are_rows code steps silents b first classes c acts left.entries (is_level_revoked c acts) shown (length acts) whole)
    ∙ (tell b is_thread first classes c acts free left n nobody).items
