-- A run on host threads, once its table has handed out the words.
use Rattle.std.proofs.Common.{◌≡◌, List, ◌∷◌, sym, ◌∙◌, ap, subst}
use Rattle.std.specs.Prelude.{Result, Ok, Err, IfOk}
use Rattle.op_core.specs.declared.Limits.{Limits}
use Rattle.op_core.specs.declared.NoMemory.{NoMemory}
use Rattle.op_core.specs.ThreadCode.{Code}
use Rattle.fixed_objects.specs.declared.Opening.{Opening}
use Rattle.heap_words.specs.declared.areas.Areas.{Areas}
use Rattle.plain_words.specs.declared.plain.PlainWords.{PlainWords}
use Rattle.plain_words.specs.Opening.{areas_of}
use Rattle.plain_words.specs.Table.{words_in}
use Rattle.thread_moves.specs.Thread.{thread_of}
use Rattle.table_words.specs.declared.setup.Setup.{Setup}
use Rattle.table_words.specs.Setups.{setup, setup_areas}
use Rattle.table_words.specs.Tables.{setup_in, parts_of_seats}
use Rattle.table_words.specs.Ends.{IsWholeRun}
use Rattle.table_hosts.specs.Standing.{ThreadsCanGoOn}
use Rattle.epoch_host.specs.declared.hosts.HostRun.{HostRun}
use Rattle.epoch_host.specs.Runs.{IsHostRun}
use Rattle.going_runs.specs.HandedOver.{HandedOverRunsGoOn, SeatedThreadsAreAfterSteps}
use Rattle.opening_cores.specs.Openings.{opening_core}
use Rattle.word_runs.specs.WordTurns.{Progress}
use Rattle.word_runs.specs.Laws.{AreActs}
use Rattle.sched_core.specs.declared.word_outcome.WordOutcome.{WordOutcome}
use Rattle.sched_core.specs.Outcome.{bounds_of}
use Rattle.sched_core.specs.Readiness.{StaysWell}
use Rattle.sched_core.specs.Going.{IsGoing, IsGoneOn, TurnsGoOnAsActs}
use Rattle.hosted_runs.specs.Hosted.{IsHostedOutcome}
use Rattle.hosted_runs.proofs.EndLemmas.{has_ended}
use Rattle.hosted_runs.proofs.HandedLemmas.{handed_over}

module _ {C S : Type 0} (state : C → S) (saved : C → List S) (code : Code S) (limits : Limits) (o : Opening) (c : C) (can : ThreadsCanGoOn state code (setup o limits c))
    (well : StaysWell code (bounds_of o limits) (areas_of o limits) (opening_core o (state c))) (run : HostRun C) (is : IsHostRun state saved code (setup o limits c) run) (words : PlainWords)
    (areas : words.areas ≡ setup_areas (setup_in run.table)) (whole : IsWholeRun state code (setup_in run.table) (words_in words) (parts_of_seats (run.first ∷ run.rest.items)))
    (seated : SeatedThreadsAreAfterSteps state saved code) (law : HandedOverRunsGoOn state saved code) where
  on_words : StaysWell code (bounds_of o limits) words.areas (opening_core o (state c))
  on_words = subst (λ (a : Areas). StaysWell code (bounds_of o limits) a (opening_core o (state c))) (sym (areas ∙ ap (λ (k : Setup C). setup_areas k) is.setup)) well

  pub going : (p : Progress S) × AreActs code (bounds_of o limits) (opening_core o (state c)) p × IsGoing code (thread_of state saved) (bounds_of o limits) words run.going p
  going = law (setup o limits c) words (parts_of_seats (run.first ∷ run.rest.items)) run.going can on_words (handed_over state saved code (setup o limits c) run is seated words whole)

  -- where it has gone on from there
  pub comes : TurnsGoOnAsActs code → (result : Result WordOutcome NoMemory)
      → IfOk result (λ end. (p : Progress S) → IsGoing code (thread_of state saved) (bounds_of o limits) words run.going p → IsGoneOn code (bounds_of o limits) p run.going.how end)
      → IfOk result (IsHostedOutcome code (bounds_of o limits) (opening_core o (state c)))
  comes more (Ok end) gone =
      let it : IsGoing code (thread_of state saved) (bounds_of o limits) words run.going going.0 = going.2 in
      has_ended code (bounds_of o limits) words.areas (opening_core o (state c)) on_words going.0 going.1 it.untold end more run.going.how it.how (gone going.0 it)
  comes more (Err e) gone = tt
