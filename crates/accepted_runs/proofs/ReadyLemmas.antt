-- Runs of a program on shared words have whatever a turn asks for.
use Rattle.std.proofs.Common.{◌≡◌, ℕ, suc, ◌+◌, ◌-◌, ◌^◌, ◌<◌, ◌≤◌, None, Some, List, length, sym, ◌∙◌, ap, subst, arith}
use Rattle.code_decode.specs.declared.code.ClassUnit.{ClassUnit}
use Rattle.link_types.specs.declared.operands.MethodId.{MethodId}
use Rattle.link_rules.specs.Classes.{classes_of}
use Rattle.link_rules.specs.FixedObjects.{first_free}
use Rattle.link_rules.specs.LinkRules.{link_rules}
use Rattle.link_rules.specs.Names.{program_names}
use Rattle.link_rules.specs.Units.{AreUnits}
use Rattle.linker.specs.Tables.{HasOrder}
use Rattle.java_rows.specs.Start.{opening_of}
use Rattle.java_rows.specs.Thread.{Local, java_code, first_state}
use Rattle.heap_words.specs.declared.areas.Area.TheVariants.{Control}
use Rattle.thread_automaton.specs.declared.Bounds.{Bounds}
use Rattle.core_runs.specs.Cores.{Core}
use Rattle.core_runs.specs.Acts.{Act}
use Rattle.row_soundness.specs.Runs.{IsThread}
use Rattle.program_soundness.specs.SoundPrograms.{IsSound}
use Rattle.program_soundness.specs.Programs.{IsMainMethod}
use Rattle.program_accept.specs.Accepted.{Accepted, IsProgram}
use Rattle.accepted_runs.proofs.accepted_programs.MainMethods.{is_sound}
use Rattle.opening_cores.specs.Openings.{opening_core}
use Rattle.word_runs.specs.Laws.{AreActs}
use Rattle.word_runs.proofs.TurnLemmas.{turns_are_acts}
use Rattle.ready_runs.specs.Ready.{HasWordsFor, IsRunInRoom}
use Rattle.ready_runs.proofs.ReadyLemmas.{steps_are_allowed, tables_are_ready, writes_are_apart}
use Rattle.section_laws.proofs.NumberLemmas.{number_at, number_made, split_above}
use Rattle.section_laws.proofs.RunLemmas.{facts_at}
use Rattle.section_laws.proofs.run_threads.NumberLemmas.{numbers_at}
use Rattle.core_law.proofs.LeftEndLemmas.{over_threads_want_their_end}
use Rattle.step_port.specs.declared.step.Step.TheVariants.{Split}
use Rattle.thread_automaton.specs.declared.Move.TheVariants.{Make}
use Rattle.thread_automaton.specs.NextMove.{next_move}
use Rattle.thread_automaton.specs.ThreadState.{ThreadState}
use Rattle.accepted_runs.specs.Runs.{IsProgramRun}
use Rattle.accepted_runs.proofs.ErasureLemmas.{can, kept, written}
use Rattle.accepted_runs.specs.Ready.{areas_in, IsReadyCore, ProgramRunsAreReady, ProgramTurnsAreReady}

module _ (us : List ClassUnit) (order : List ℕ) (sound : IsSound us order) (room : first_free (program_names us) ≤ 2 ^ 32) (main : MethodId) (is_main : IsMainMethod us main)
    (b : Bounds) (c : ℕ → Core Local) (acts : List Act) (run : IsProgramRun us main b c acts) (turns : b.limits.turns < 2 ^ 56) where
  abbrev number : ℕ
  number = suc (length (classes_of us))

  has_words : HasWordsFor b number (areas_in us b)
  has_words = record {
    sections = omega arith;
    classes = omega arith;
    objects = ends b.first b.limits.heap (first_free (program_names us)) run.first (can us order sound room main is_main b c acts run).place.first;
  }
    where
      ends : (n heap first : ℕ) → n ≡ first → 0 < first → n + heap ≤ first - 1 + heap + 1
      ends n heap first is some = omega (arith, is, some)

  in_room : IsRunInRoom java_code b (IsThread us) (first_state us main) number c acts
  in_room = record {
    run = (kept us order sound room main is_main b c acts run).run;
    written = written us order sound room main is_main b c acts run;
    begins = record {
      sections = ap (λ (x : Core Local). x.words (Control 1)) run.begins;
      taken = ap (λ (x : Core Local). x.words (Control 2)) run.begins;
      lines = ap (λ (x : Core Local). x.words (Control 3)) run.begins;
      threads = ap (λ (x : Core Local). x.words (Control 4)) run.begins;
    };
    turns = turns;
  }

  -- no thread has the number of one that is about to be handed out
  none_yet : (k : ℕ) → k ≤ length acts → (t : ℕ) (th : ThreadState Local) (n r p : ℕ) → (c k).threads t ≡ Some th → next_move java_code b th ≡ Make (Split n r p) → (c k).threads n ≡ None
  none_yet k within t th n r p stands makes =
      let laid = in_room.written.tagged.laid in
      let numbers = numbers_at java_code b c acts laid.run in_room.run.grounded.in_bits.numbers k within in
      let fits = ((facts_at java_code b c acts laid.run k within).fit t th stands).attempt in
      let is : number_at th.attempt ≡ n = number_made java_code b th (Split n r p) makes in
      let some : 0 < n = split_above java_code b th (c k).words n r p fits makes in
      ap (c k).threads (sym is) ∙ numbers.unused t th stands (subst (λ m. 0 < m) (sym is) some)

  ready_at : (k : ℕ) → k ≤ length acts → IsReadyCore us b (c k)
  ready_at k within = record {
    asked = λ t th stands going. (kept us order sound room main is_main b c acts run).asked k t th within stands going;
    steps = λ t th stands. steps_are_allowed java_code b (IsThread us) (first_state us main) number (areas_in us b) c acts has_words in_room k t th within stands;
    tables = λ t th stands x holds. tables_are_ready java_code b (IsThread us) (first_state us main) number (areas_in us b) c acts has_words in_room k t th within stands x holds;
    ended = λ t th stands over. over_threads_want_their_end java_code b (IsThread us) c acts in_room.written.tagged.laid k t th within stands over;
    new = λ t th n r p stands makes. none_yet k within t th n r p stands makes;
    apart = λ t u th uh at old new mover waiter going makes.
        writes_are_apart java_code b (IsThread us) (first_state us main) number (areas_in us b) c acts has_words in_room k t u th uh at old new within mover waiter going makes;
  }

program_runs_are_ready : (us : List ClassUnit) (order : List ℕ) (main : MethodId) → IsSound us order → first_free (program_names us) ≤ 2 ^ 32 → IsMainMethod us main → ProgramRunsAreReady us main
program_runs_are_ready us order main sound room is_main b c acts run turns k within = ready_at us order sound room main is_main b c acts run turns k within

program_turns_are_ready : (us : List ClassUnit) (order : List ℕ) (main : MethodId) → IsSound us order → first_free (program_names us) ≤ 2 ^ 32 → IsMainMethod us main → ProgramTurnsAreReady us main
program_turns_are_ready us order main sound room is_main b first heap sections turns rest keeps threads last follows =
    subst (IsReadyCore us b) are.ends (ready_at us order sound room main is_main b are.cores last.state.acts
    (record { first = first; heap = heap; sections = sections; begins = are.begins; leads = are.leads }) turns (length last.state.acts) (omega arith))
  where
    are : AreActs java_code b (opening_core (opening_of us) (first_state us main)) last.state
    are = turns_are_acts java_code b (opening_core (opening_of us) (first_state us main)) rest keeps threads last follows

pub accepted_are_ready : (p : Accepted) (files : List (List ℕ)) (name : List ℕ) → AreUnits p.units → (link_rules p.units).Hold → HasOrder p.units → IsProgram files name p → (first : ℕ) → first ≡ first_free (program_names p.units) → first < 2 ^ 30
    → ProgramRunsAreReady p.units p.main × ProgramTurnsAreReady p.units p.main
accepted_are_ready p files name decoded hold order is first value small =
    let (places, sound, main) = is_sound p files name decoded hold order is in
    let below : first ≤ 2 ^ 32 = omega arith in
    let room : first_free (program_names p.units) ≤ 2 ^ 32 = subst (λ n. n ≤ 2 ^ 32) value below in
    (program_runs_are_ready p.units places p.main sound room main, program_turns_are_ready p.units places p.main sound room main)
