-- What a run of an accepted program on shared words gives, and what comes of it.
use Rattle.std.proofs.Common.{◌≡◌, ◌<◌, ◌^◌, ◌++◌, ℕ, Bool, true, false, Option, None, Some, List, length, arith, refl, sym, ◌∙◌, ap, subst}
use Rattle.code_decode.specs.declared.code.ClassUnit.{ClassUnit}
use Rattle.link_types.specs.declared.operands.MethodId.{MethodId}
use Rattle.std.specs.Prelude.{Result, Ok, Err, IfOk}
use Rattle.op_core.specs.declared.NoMemory.{NoMemory}
use Rattle.op_core.specs.declared.Limits.{Limits}
use Rattle.op_core.specs.declared.Limit.{Limit}
use Rattle.op_core.specs.declared.How.{How}
use Rattle.op_core.specs.declared.How.TheVariants.{Stuck}
use Rattle.op_core.specs.declared.How.TheVariants as how
use Rattle.op_core.specs.declared.Outcome.{Outcome}
use Rattle.op_core.specs.CleanCut.{kept_by}
use Rattle.fixed_objects.specs.declared.Opening.{Opening}
use Rattle.schedules.specs.declared.order.Schedule.{Schedule}
use Rattle.schedules.specs.Run.{Run, EndsBy, EndsWith, IsHeldUp}
use Rattle.heap_words.specs.declared.areas.Area.TheVariants.{Control}
use Rattle.java_rows.specs.Start.{opening_of}
use Rattle.java_rows.specs.Thread.{Local, java_code, first_state}
use Rattle.plain_words.specs.Opening.{HasPlace, areas_of}
use Rattle.thread_automaton.specs.declared.Bounds.{Bounds}
use Rattle.core_runs.specs.Cores.{Core}
use Rattle.core_runs.specs.Acts.{Act, ActFrom}
use Rattle.section_laws.proofs.run_threads.LineLemmas.{tickets_are_lines}
use Rattle.opening_cores.specs.Openings.{opening_core}
use Rattle.word_runs.specs.WordTurns.{Progress, word_turns}
use Rattle.word_runs.specs.Laws.{AreActs}
use Rattle.word_runs.proofs.TurnLemmas.{turns_are_acts}
use Rattle.ordinary_runs.specs.ScheduledRun.{no_steps}
use Rattle.op_core.specs.Execution.{printed}
use Rattle.core_law.specs.Erasure.{is_left_out}
use Rattle.core_law.specs.Idle.{NoneIsEnabled}
use Rattle.core_law.specs.Stuck.{HeldUpTurnsAreIdle}
use Rattle.accepted_runs.specs.HeldUp.{IdleRunsEndWaiting}
use Rattle.accepted_runs.specs.Runs.{IsProgramRun, IsErasedRun, ProgramRunsAreErased, AreErasedTurns}
use Rattle.accepted_runs.specs.Ready.{IsReadyCore, ProgramRunsAreReady}
use Rattle.accepted_runs.specs.Left.{TurnsTellTexts, TurnsTellEnds}
use Rattle.sched_core.specs.Outcome.{rest_of, bounds_of, TellsPlace, IsOutcome}
use Rattle.sched_core.specs.Readiness.{IsNotWaitedFor, StaysWell}
use Rattle.step_port.specs.declared.step.Step.TheVariants.{SwapWord}
use Rattle.thread_automaton.specs.declared.Move.TheVariants.{Make}
use Rattle.thread_automaton.specs.ThreadState.{ThreadState}
use Rattle.thread_automaton.specs.NextMove.{next_move}
use Rattle.java_words.specs.WordRun.{program_bounds, of_words, TellsExecution, IsWordRun}

-- a word that a thread is about to overwrite is none for which another waits
module _ (us : List ClassUnit) {b : Bounds} (core : Core Local) (ready : IsReadyCore us b core) (t u : ℕ) (th uh : ThreadState Local) (at old new : ℕ) (mover : core.threads t ≡ Some th) (waiter : core.threads u ≡ Some uh)
    (makes : next_move java_code b th ≡ Make (SwapWord at old new)) where
  pub apart_from : (over : Bool) → uh.over ≡ over → IsNotWaitedFor (java_code.next uh.local) at
  apart_from true is = let end = ready.ended u uh waiter is in subst (λ next. IsNotWaitedFor next at) (sym end.1) tt
  apart_from false is = ready.apart t u th uh at old new mover waiter is makes

module _ (us : List ClassUnit) (main : MethodId) (limits : Limits) (place : HasPlace (opening_of us) limits) (sections : limits.sections < 2 ^ 24)
    (runs : ProgramRunsAreErased us main) where
  abbrev bounds : Bounds
  bounds = program_bounds us limits

  abbrev core : Core Local
  core = opening_core (opening_of us) (first_state us main)

  is_run : (c : ℕ → Core Local) (acts : List Act) → c 0 ≡ opening_core (opening_of us) (first_state us main) → ActFrom java_code (program_bounds us limits) c 0 acts
      → IsProgramRun us main (program_bounds us limits) c acts
  is_run c acts begins leads = record { first = refl; heap = place.heap; sections = sections; begins = begins; leads = leads }

  -- where acts lead lines have their tickets, and each thread can have its turn
  pub stays_well : limits.turns < 2 ^ 56 → ProgramRunsAreReady us main → StaysWell java_code bounds (areas_of (opening_of us) limits) core
  stays_well few ready c acts begins leads =
      let all : (classes : ℕ) × IsErasedRun us main bounds classes c acts = runs bounds c acts (is_run c acts begins leads) in
      let grounded = all.1.kept.run.grounded in
      let at : IsReadyCore us bounds (c (length acts)) = ready bounds c acts (is_run c acts begins leads) few (length acts) (omega arith) in
      record {
        ready = λ t th stands lives. record {
          asked = at.asked t th stands lives;
          there = λ step makes. ((at.steps t th stands).allowed step makes).there;
          room = λ step makes. ((at.steps t th stands).allowed step makes).room;
          names = (at.steps t th stands).names;
        };
        lines = tickets_are_lines java_code bounds c acts grounded.run grounded.in_bits.numbers (ap (λ (core : Core Local). core.words (Control 3)) begins) (ap (λ (core : Core Local). core.lines) begins)
            (length acts) (omega arith);
        ended = at.ended;
        new = at.new;
        apart = λ t u th uh place old new mover waiter makes. apart_from us (c (length acts)) at t u th uh place old new mover waiter makes uh.over refl;
      }

  -- what is left of acts of the program
  acts_are_erased : (last : Progress Local) → AreActs java_code (program_bounds us limits) (opening_core (opening_of us) (first_state us main)) last → AreErasedTurns us main (program_bounds us limits) last
  acts_are_erased last are =
      let all : (classes : ℕ) × IsErasedRun us main bounds classes are.cores last.acts = runs bounds are.cores last.acts (is_run are.cores last.acts are.begins are.leads) in
      record {
        cores = are.cores;
        begins = are.begins;
        ends = are.ends;
        classes = all.0;
        erased = all.1;
        lines = ap (λ (x : Core Local). x.lines) (sym are.ends) ∙ all.1.erasure.lines
            ∙ ap (λ (x : Core Local). x.lines ++ printed (kept_by (is_left_out are.cores last.acts) all.1.erasure.entries)) are.begins;
      }

  -- an outcome that keeps no events tells what is left of the acts up to the place of which it tells
  pub tells : TurnsTellTexts us main → TurnsTellEnds us main → IdleRunsEndWaiting us main → (last : Progress Local)
      → AreActs java_code (program_bounds us limits) (opening_core (opening_of us) (first_state us main)) last → (outcome : Outcome) → outcome.events ≡ None → TellsPlace java_code last (of_words outcome)
      → (outcome.how ≡ Stuck → NoneIsEnabled java_code last.core) → TellsExecution us main (program_bounds us limits) no_steps last outcome
  tells texts ends waits last are outcome untold told idle =
      let erased : AreErasedTurns us main bounds last = acts_are_erased last are in
      let lines = told.lines ∙ erased.lines in
      record {
        erased = erased;
        executed = record {
          events = kept_by (is_left_out erased.cores last.acts) erased.erased.erasure.entries;
          last = erased.erased.erasure.last;
          kept = untold;
          leads = erased.erased.execution;
          lines = lines;
          ends = ends bounds last erased outcome.ends told.ends;
          made = texts bounds last erased outcome.lines outcome.made lines told.made;
        };
        left = refl;
        ends = λ also. ends bounds last also outcome.ends told.ends;
        made = λ also. texts bounds last also outcome.lines outcome.made (told.lines ∙ also.lines) told.made;
        stuck = λ how. waits bounds erased.classes erased.cores last.acts erased.erased (subst (NoneIsEnabled java_code) (sym erased.ends) (idle how));
      }

-- a run that ends where it is stuck is held up
pub held_up : (b : Bounds) (last : Run (Progress Local)) (end : How) → EndsBy (word_turns java_code b) last end → end ≡ Stuck → IsHeldUp (word_turns java_code b) last
held_up b last end ends is = by_limit ((word_turns java_code b).stopped last.state) (subst (EndsBy (word_turns java_code b) last) is ends)
  where
    none : {A : Type 0} (t : ℕ) (limit : Limit) → Stuck ≡ how.Limit t limit → A
    none t limit is = cc

    by_limit : (met : Option (ℕ × Limit)) → EndsWith (word_turns java_code b) last met Stuck → IsHeldUp (word_turns java_code b) last
    by_limit None held = held
    by_limit (Some (t, limit)) is = none t limit is

-- what a result gives, if it gives both of these
pub both_give : {A : Type 0} {P Q R : A → Type 0} (result : Result A NoMemory) → ((x : A) → P x → Q x → R x) → IfOk result P → IfOk result Q → IfOk result R
both_give (Ok x) gives has also = gives x has also
both_give (Err e) gives has also = has

-- the same of what is in memory as the program begins
module _ (us : List ClassUnit) (main : MethodId) (limits : Limits) (o : Opening) (l : Local) (opens : o ≡ opening_of us) (begins : l ≡ first_state us main)
    (place : HasPlace o limits) (sections : limits.sections < 2 ^ 24) (runs : ProgramRunsAreErased us main) where
  pub its_place : HasPlace (opening_of us) limits
  its_place = subst (λ p. HasPlace p limits) opens place

  pub begun_well : limits.turns < 2 ^ 56 → ProgramRunsAreReady us main → StaysWell java_code (bounds_of o limits) (areas_of o limits) (opening_core o l)
  begun_well few ready = subst (λ p. StaysWell java_code (bounds_of p limits) (areas_of p limits) (opening_core p l)) (sym opens)
      (subst (λ k. StaysWell java_code (bounds_of (opening_of us) limits) (areas_of (opening_of us) limits) (opening_core (opening_of us) k)) (sym begins)
      (stays_well us main limits its_place sections runs few ready))

  pub begun_comes : (schedule : Schedule) → TurnsTellTexts us main → TurnsTellEnds us main → IdleRunsEndWaiting us main → HeldUpTurnsAreIdle java_code
      → (outcome : Outcome) → (outcome.events ≡ None) × (outcome.undos ≡ None) → IsOutcome java_code (bounds_of o limits) (opening_core o l) schedule (of_words outcome) → IsWordRun us main schedule limits outcome
  begun_comes schedule texts ends waits idle outcome untold is = comes
      (subst (λ k. IsOutcome java_code (bounds_of (opening_of us) limits) (opening_core (opening_of us) k) schedule (of_words outcome)) begins
      (subst (λ p. IsOutcome java_code (bounds_of p limits) (opening_core p l) schedule (of_words outcome)) opens is))
    where
      comes : IsOutcome java_code (program_bounds us limits) (opening_core (opening_of us) (first_state us main)) schedule (of_words outcome) → IsWordRun us main schedule limits outcome
      comes run = record {
        run = run;
        told = tells us main limits its_place sections runs texts ends waits run.last.state
            (turns_are_acts java_code (program_bounds us limits) (opening_core (opening_of us) (first_state us main)) (rest_of schedule) false run.threads run.last run.goes.0) outcome untold.0 run.told
            (λ how. idle (program_bounds us limits) run.last (held_up (program_bounds us limits) run.last outcome.how run.goes.1 how));
        undos = untold.1;
      }
