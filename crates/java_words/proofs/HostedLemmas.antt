-- What comes of an accepted program whose threads run on host threads.
use Rattle.std.proofs.Common.{◌≡◌, ◌<◌, ◌^◌, None, List, subst}
use Rattle.code_decode.specs.declared.code.ClassUnit.{ClassUnit}
use Rattle.link_types.specs.declared.operands.MethodId.{MethodId}
use Rattle.op_core.specs.declared.How.{How}
use Rattle.op_core.specs.declared.How.TheVariants.{Stuck}
use Rattle.op_core.specs.declared.Limits.{Limits}
use Rattle.op_core.specs.declared.Outcome.{Outcome}
use Rattle.fixed_objects.specs.declared.Opening.{Opening}
use Rattle.java_rows.specs.Start.{opening_of}
use Rattle.java_rows.specs.Thread.{Local, java_code, first_state}
use Rattle.plain_words.specs.Opening.{HasPlace}
use Rattle.table_words.specs.Setups.{setup}
use Rattle.table_hosts.specs.Standing.{ThreadsCanGoOn}
use Rattle.opening_cores.specs.Openings.{opening_core}
use Rattle.word_runs.specs.WordTurns.{Progress}
use Rattle.core_law.specs.Idle.{NoneIsEnabled}
use Rattle.core_law.specs.Stuck.{HeldUpTurnsAreIdle}
use Rattle.sched_core.specs.Outcome.{bounds_of}
use Rattle.sched_core.specs.Going.{unscheduled}
use Rattle.accepted_runs.specs.HeldUp.{IdleRunsEndWaiting}
use Rattle.accepted_runs.specs.Left.{TurnsTellTexts, TurnsTellEnds}
use Rattle.accepted_runs.specs.Runs.{ProgramRunsAreErased}
use Rattle.accepted_runs.specs.Tables.{ProgramThreadsCanGoOn}
use Rattle.hosted_runs.specs.Hosted.{EndsThere, IsHostedOutcome}
use Rattle.java_words.specs.WordRun.{program_bounds, of_words}
use Rattle.java_words.specs.HostedRun.{IsHostedRun}
use Rattle.java_words.proofs.WordLemmas.{tells}

-- where a run ends stuck, no thread is enabled
idle_there : HeldUpTurnsAreIdle java_code → (us : List ClassUnit) (limits : Limits) (last : Progress Local) (end : How) → EndsThere java_code (program_bounds us limits) last end → end ≡ Stuck
    → NoneIsEnabled java_code last.core
idle_there idle us limits last end ends is = idle (program_bounds us limits) (unscheduled last) (subst (EndsThere java_code (program_bounds us limits) last) is ends)

-- the program as it begins in memory
module _ (us : List ClassUnit) (main : MethodId) (limits : Limits) (o : Opening) (l : Local) (opens : o ≡ opening_of us) (begins : l ≡ first_state us main)
    (place : HasPlace o limits) (sections : limits.sections < 2 ^ 24) where
  pub can_go_on : {C : Type 0} (state : C → Local) (code : C) → state code ≡ l → limits.turns < 2 ^ 56 → ProgramThreadsCanGoOn C us main → ThreadsCanGoOn state java_code (setup o limits code)
  can_go_on state code is turns can =
      can state (setup o limits code) (record { opening = opens; code = subst (λ (x : Local). state code ≡ x) begins is; place = place; sections = sections; turns = turns })

  pub hosted_comes : ProgramRunsAreErased us main → TurnsTellTexts us main → TurnsTellEnds us main → IdleRunsEndWaiting us main → HeldUpTurnsAreIdle java_code
      → (outcome : Outcome) → (outcome.events ≡ None) × (outcome.undos ≡ None) → IsHostedOutcome java_code (bounds_of o limits) (opening_core o l) (of_words outcome) → IsHostedRun us main limits outcome
  hosted_comes runs texts ends waits idle outcome untold is =
      let run : IsHostedOutcome java_code (program_bounds us limits) (opening_core (opening_of us) (first_state us main)) (of_words outcome)
      = subst (λ (x : Local). IsHostedOutcome java_code (program_bounds us limits) (opening_core (opening_of us) x) (of_words outcome)) begins
      (subst (λ (x : Opening). IsHostedOutcome java_code (bounds_of x limits) (opening_core x l) (of_words outcome)) opens is) in
      record {
        run = run;
        told = tells us main limits (subst (λ (x : Opening). HasPlace x limits) opens place) sections runs texts ends waits run.last run.acts outcome untold.0 run.told
            (idle_there idle us limits run.last outcome.how run.ends);
        undos = untold.1;
      }
