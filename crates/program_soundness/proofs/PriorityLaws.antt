-- Priorities in executions of a sound program.
use Rattle.std.proofs.Common.{◌≡◌, ◌≤◌, ◌^◌, ℕ, Some, List, [], ◌∷◌, refl, subst}
use Rattle.std.specs.List.{AllByRecursion}
use Rattle.code_decode.specs.declared.code.ClassUnit.{ClassUnit}
use Rattle.link_types.specs.declared.operands.MethodId.{MethodId}
use Rattle.link_rules.specs.FixedObjects.{first_free}
use Rattle.link_rules.specs.Names.{program_names}
use Rattle.op_core.specs.declared.Event.{Event}
use Rattle.op_core.specs.declared.Op.{Op}
use Rattle.op_core.specs.declared.Op.TheVariants.{Start}
use Rattle.op_core.specs.declared.Next.TheVariants.{Want}
use Rattle.op_core.specs.Execution.{Comes, Leads}
use Rattle.op_core.specs.OrdinaryState.{OrdinaryState, live}
use Rattle.op_core.specs.OrdinaryStep.{after}
use Rattle.op_core.specs.ThreadCode.{quiet_steps}
use Rattle.java_rows.specs.Start.{start_of_program}
use Rattle.java_rows.specs.Thread.{Local, java_code}
use Rattle.row_soundness.specs.Accepted.{Accepted}
use Rattle.row_soundness.specs.Knowledge.{Knows}
use Rattle.row_soundness.specs.Rows.{RowsFit}
use Rattle.row_soundness.specs.ClassesFollow.{ClassesFollow}
use Rattle.row_soundness.proofs.RunsKnow.{runs_know}
use Rattle.row_soundness.proofs.RowsTogether.{rows_fit}
use Rattle.program_soundness.specs.Soundness.{HasRoom, StateFits}
use Rattle.program_soundness.proofs.SoundnessLaws as java
use Rattle.program_soundness.specs.SoundPrograms.{IsSound}
use Rattle.program_soundness.proofs.AcceptedPrograms.{accepted}
use Rattle.program_soundness.specs.Programs.{IsMainMethod}
use Rattle.program_soundness.proofs.Programs.{main_begins}
use Rattle.program_soundness.proofs.ThreadLaws.{programs_have_room}
use Rattle.program_soundness.proofs.ObjectLaws.{classes_follow}
use Rattle.program_soundness.proofs.Starts.{starts_fit}
use Rattle.program_soundness.specs.Seen.{IsSeen, KeepsPriorities, Seen, SeenLocal, executions, seen_in}
use Rattle.program_soundness.specs.Priorities.{PrioritiesFit, StartsInRange}
use Rattle.program_soundness.proofs.SeenKnow.{seen_know}
use Rattle.program_soundness.proofs.StepsSeen.{quiet_local, step_seen, wanted}
use Rattle.program_soundness.proofs.StartsSeen.{start_seen}

in_range : (us : List ClassUnit) (h : Seen us) (op : Op) → KeepsPriorities us h op → StartsInRange op
in_range us h (Start r p) keeps = keeps.0
in_range us h op keeps = tt

module _ (us : List ClassUnit) (order : List ℕ) (sound : IsSound us order) (room : first_free (program_names us) ≤ 2 ^ 32) where
  accepts : Accepted us
  accepts = accepted us order sound

  has_room : HasRoom us
  has_room = programs_have_room us order sound room

  follow : ClassesFollow us
  follow = classes_follow us order sound room

  knows : Knows (executions us) us
  knows = seen_know us (runs_know us follow) follow order sound

  rows : RowsFit (executions us) us
  rows = rows_fit (executions us) us knows accepts

  module _ (s : OrdinaryState Local) (seen : IsSeen us s) where
    abbrev now : Seen us
    now = seen_in us s seen.fixed seen.begun

    -- after silent steps
    quiet : (t n : ℕ) (from l : Local) → s.threads t ≡ live from → quiet_steps java_code n from ≡ Some l → SeenLocal us now l
    quiet t n from l begun steps = quiet_local us knows accepts rows now n from l (seen.threads t from begun) steps

    starts_in_range : (t n : ℕ) (from l : Local) (op : Op) → s.threads t ≡ live from → quiet_steps java_code n from ≡ Some l → java_code.next l ≡ Want op → StartsInRange op
    starts_in_range t n from l op begun steps e = in_range us now op (wanted us knows accepts rows now l op (quiet t n from l begun steps) e).1

    module _ (kept : StateFits us s) (e : Event) (l : Local) (comes : Comes java_code s e l) where
      next_kept : StateFits us (after java_code s e.thread l e.op e.reply)
      next_kept = java.executions us accepts has_room follow s (after java_code s e.thread l e.op e.reply) kept (e ∷ [], (l, comes, refl))

      next_seen : IsSeen us (after java_code s e.thread l e.op e.reply)
      next_seen = step_seen us knows accepts rows s kept seen e.thread l e.op e.reply (quiet e.thread e.silent comes.from l comes.begun comes.quiet) comes.step next_kept

  reached_seen : (s last : OrdinaryState Local) (es : List Event) → StateFits us s → IsSeen us s → Leads java_code s es last → IsSeen us last
  reached_seen s last [] kept seen e = subst (IsSeen us) e seen
  reached_seen s last (e ∷ es) kept seen (l, comes, leads) = reached_seen (after java_code s e.thread l e.op e.reply) last es (next_kept s seen kept e l comes) (next_seen s seen kept e l comes) leads

  events_fit : (s last : OrdinaryState Local) (es : List Event) → StateFits us s → IsSeen us s → Leads java_code s es last → AllByRecursion (λ (e : Event). StartsInRange e.op) es
  events_fit s last [] kept seen leads = tt
  events_fit s last (e ∷ es) kept seen (l, comes, leads) = (
    starts_in_range s seen e.thread e.silent comes.from l e.op comes.begun comes.quiet comes.step.wanted,
    events_fit (after java_code s e.thread l e.op e.reply) last es (next_kept s seen kept e l comes) (next_seen s seen kept e l comes) leads,
  )

  module _ (main : MethodId) (is : IsMainMethod us main) where
    abbrev start : OrdinaryState Local
    start = start_of_program us main

    kept : StateFits us start
    kept = starts_fit us order main sound room is

    first : IsSeen us start
    first = start_seen us order sound room knows accepts rows main (main_begins us order main sound is) kept

    pub fit_from_start : PrioritiesFit start
    fit_from_start = record {
      wanted = λ s t n from l op reached begun steps e. starts_in_range s (reached_seen start s reached.0 kept first reached.1) t n from l op begun steps e;
      events = λ es execution. events_fit start execution.0 es kept first execution.1;
    }
