-- What comes of a run of an accepted program that keeps a journal.
use Rattle.std.proofs.Common.{◌≡◌, ◌<◌, ◌^◌, true, Some, List, refl, sym, ◌∙◌, ap, subst}
use Rattle.std.specs.Prelude.{Result, Ok, Err, IfOk}
use Rattle.op_core.specs.declared.NoMemory.{NoMemory}
use Rattle.code_decode.specs.declared.code.ClassUnit.{ClassUnit}
use Rattle.link_types.specs.declared.operands.MethodId.{MethodId}
use Rattle.op_core.specs.declared.Limits.{Limits}
use Rattle.op_core.specs.declared.Outcome.{Outcome}
use Rattle.op_core.specs.CleanCut.{kept_by}
use Rattle.op_core.specs.Execution.{Leads, printed}
use Rattle.fixed_objects.specs.declared.Opening.{Opening}
use Rattle.schedules.specs.declared.order.Schedule.{Schedule}
use Rattle.schedules.specs.Run.{Goes}
use Rattle.java_rows.specs.Start.{opening_of, start_of_program}
use Rattle.java_rows.specs.Thread.{Local, java_code, first_state}
use Rattle.plain_words.specs.Opening.{HasPlace}
use Rattle.thread_automaton.specs.declared.Bounds.{Bounds}
use Rattle.core_runs.specs.Cores.{Core}
use Rattle.core_runs.specs.Acts.{ActFrom}
use Rattle.opening_cores.specs.Openings.{opening_core}
use Rattle.trace_journal.specs.Text.{events_in, undos_in}
use Rattle.word_runs.specs.WordTurns.{Progress, word_turns}
use Rattle.word_runs.specs.Laws.{begun_with}
use Rattle.core_law.specs.Erasure.{is_left_out}
use Rattle.core_law.specs.Idle.{NoneIsEnabled}
use Rattle.core_law.specs.Stuck.{HeldUpTurnsAreIdle}
use Rattle.core_law.specs.JournalLaws.{JournalsHaveEvents}
use Rattle.accepted_runs.specs.Waiting.{EndsWaiting}
use Rattle.accepted_runs.specs.HeldUp.{IdleRunsEndWaiting}
use Rattle.accepted_runs.specs.Runs.{ProgramRunsAreErased, AreErasedTurns, ProgramTurnsAreErased}
use Rattle.accepted_runs.specs.Left.{TurnsTellTexts, TurnsTellEnds}
use Rattle.sched_core.specs.Outcome.{rest_of, bounds_of, TellsPlace}
use Rattle.traced_runs.specs.declared.outcome.TracedOutcome.{TracedOutcome}
use Rattle.traced_runs.specs.Outcome.{journal_left, IsTracedOutcome}
use Rattle.traced_runs.specs.Laws.{RowsLeftAreJournals, KeptJournalsFit}
use Rattle.java_words.specs.WordRun.{program_bounds, of_words}
use Rattle.java_words.specs.TracedRun.{journal_of, IsTracedRun}
use Rattle.java_words.proofs.WordLemmas.{held_up, its_place}

-- the outcome says of a run what is known of the turns that were traced
pub record IsTracedAs (traced : TracedOutcome) (outcome : Outcome) : Type 0 where
  pub words : of_words outcome ≡ traced.run
  pub events : outcome.events ≡ Some traced.journal.events
  pub undos : outcome.undos ≡ Some traced.journal.undos

module _ (us : List ClassUnit) (main : MethodId) (schedule : Schedule) (limits : Limits) (rows : RowsLeftAreJournals java_code) (have : JournalsHaveEvents Local)
    (traced : TracedOutcome) (is : IsTracedOutcome java_code (program_bounds us limits) (opening_core (opening_of us) (first_state us main)) schedule traced) where
  abbrev b : Bounds
  b = program_bounds us limits

  abbrev Left : Type 0
  Left = AreErasedTurns us main b is.last.state

  items_are : (left : Left) → journal_left java_code b left.cores is.last.state.acts is.journal.count ≡ journal_of us main limits is.last.state left
  items_are left = rows b _ (first_state us main) left.classes left.cores is.last.state.acts left.erased.kept.run left.erased.erasure is.journal.count
      (λ t past. ap (λ (c : Core Local). c.threads t) left.ends ∙ is.journal.above t past)

  leads_on : (left : Left) → ActFrom java_code b left.cores 0 is.last.state.acts
  leads_on left = left.erased.kept.run.grounded.run.leads

  pub events_are : (left : Left) → traced.journal.events ≡ kept_by (is_left_out left.cores is.last.state.acts) left.erased.erasure.entries
  events_are left = is.journal.events left.cores left.begins (leads_on left) ∙ ap events_in (items_are left)
      ∙ have left.cores (is_left_out left.cores is.last.state.acts) is.last.state.acts left.erased.erasure.entries left.erased.erasure.count

  pub undos_are : (left : Left) → traced.journal.undos ≡ undos_in 0 (journal_of us main limits is.last.state left)
  undos_are left = is.journal.undos left.cores left.begins (leads_on left) ∙ ap (undos_in 0) (items_are left)

module _ (us : List ClassUnit) (main : MethodId) (schedule : Schedule) (limits : Limits) (place : HasPlace (opening_of us) limits) (sections : limits.sections < 2 ^ 24)
    (runs : ProgramRunsAreErased us main) (turns : ProgramTurnsAreErased us main) where
  traced_comes : RowsLeftAreJournals java_code → KeptJournalsFit java_code → JournalsHaveEvents Local → TurnsTellTexts us main → TurnsTellEnds us main → IdleRunsEndWaiting us main → HeldUpTurnsAreIdle java_code
      → (outcome : Outcome) (traced : TracedOutcome) → IsTracedAs traced outcome → IsTracedOutcome java_code (program_bounds us limits) (opening_core (opening_of us) (first_state us main)) schedule traced
      → IsTracedRun us main schedule limits outcome
  traced_comes rows fit have texts ends waits idle outcome traced of is =
      let k : Bounds = program_bounds us limits in
      let r : Progress Local = is.last.state in
      let erased : AreErasedTurns us main k r = turns k refl place.heap sections (rest_of schedule) true is.threads is.last is.goes.0 in
      let told : TellsPlace java_code r (of_words outcome) = subst (TellsPlace java_code r) (sym of.words) is.told in
      let how : outcome.how ≡ traced.run.how = ap (λ w. w.how) of.words in
      let same = events_are us main schedule limits rows have traced is in
      record {
        threads = is.threads;
        last = is.last;
        goes = subst (λ h. Goes (word_turns java_code k) (begun_with (opening_core (opening_of us) (first_state us main)) (rest_of schedule) true) is.threads h is.last) (sym how) is.goes;
        told = told;
        erased = erased;
        executed = record {
          events = traced.journal.events;
          last = erased.erased.erasure.last;
          kept = of.events;
          leads = subst (λ es. Leads java_code (start_of_program us main) es erased.erased.erasure.last) (sym (same erased)) erased.erased.execution;
          lines = told.lines ∙ erased.lines ∙ ap printed (sym (same erased));
          ends = ends k r erased outcome.ends told.ends;
          made = texts k r erased outcome.lines outcome.made (told.lines ∙ erased.lines) told.made;
        };
        undos = traced.journal.undos;
        kept = of.undos;
        left = same;
        undone = undos_are us main schedule limits rows have traced is;
        fits = fit k (opening_core (opening_of us) (first_state us main)) schedule traced is;
        ends = λ also. ends k r also outcome.ends told.ends;
        made = λ also. texts k r also outcome.lines outcome.made (told.lines ∙ also.lines) told.made;
        stuck = λ stuck. subst (EndsWaiting us main) (sym (same erased)) (waits k erased.classes erased.cores r.acts erased.erased
            (subst (NoneIsEnabled java_code) (sym erased.ends) (idle k is.last (held_up k is.last traced.run.how is.goes.1 (sym how ∙ stuck)))));
      }

-- the same of what is in memory as the program begins
pub begun_traced : (us : List ClassUnit) (main : MethodId) (schedule : Schedule) (limits : Limits) (o : Opening) (l : Local) → o ≡ opening_of us → l ≡ first_state us main
    → HasPlace o limits → limits.sections < 2 ^ 24 → ProgramRunsAreErased us main → ProgramTurnsAreErased us main
    → RowsLeftAreJournals java_code → KeptJournalsFit java_code → JournalsHaveEvents Local → TurnsTellTexts us main → TurnsTellEnds us main → IdleRunsEndWaiting us main → HeldUpTurnsAreIdle java_code
    → (outcome : Outcome) (traced : TracedOutcome) → IsTracedAs traced outcome → IsTracedOutcome java_code (bounds_of o limits) (opening_core o l) schedule traced → IsTracedRun us main schedule limits outcome
begun_traced us main schedule limits o l opens begins place sections runs turns rows fit have texts ends waits idle outcome traced of is =
    traced_comes us main schedule limits (its_place us main limits o l opens begins place sections runs) sections runs turns rows fit have texts ends waits idle outcome traced of
    (subst (λ k. IsTracedOutcome java_code (bounds_of (opening_of us) limits) (opening_core (opening_of us) k) schedule traced) begins
    (subst (λ p. IsTracedOutcome java_code (bounds_of p limits) (opening_core p l) schedule traced) opens is))

-- what a result gives, if it gives these three
pub three_give : {A : Type 0} {P Q R T : A → Type 0} (result : Result A NoMemory) → ((x : A) → P x → Q x → R x → T x) → IfOk result P → IfOk result Q → IfOk result R → IfOk result T
three_give (Ok x) gives one two three = gives x one two three
three_give (Err e) gives one two three = one
