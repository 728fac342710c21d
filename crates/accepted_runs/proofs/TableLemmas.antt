-- Accepted programs meet what programs on a shared table have to.
use Rattle.std.proofs.Common.{◌≡◌, ◌<◌, ◌≤◌, ◌+◌, ◌^◌, ℕ, suc, List, length, sym, ◌∙◌, ap, subst, arith}
use Rattle.code_decode.specs.declared.code.ClassUnit.{ClassUnit}
use Rattle.link_types.specs.declared.operands.MethodId.{MethodId}
use Rattle.link_rules.specs.Classes.{classes_of}
use Rattle.link_rules.specs.FixedObjects.{first_free}
use Rattle.link_rules.specs.LinkRules.{link_rules}
use Rattle.link_rules.specs.Names.{program_names}
use Rattle.link_rules.specs.Units.{AreUnits}
use Rattle.linker.specs.Tables.{HasOrder}
use Rattle.op_core.specs.InPlaceList.{IsGrounded}
use Rattle.op_core.specs.Orderly.{IsOrderly, StartWordsAreKept}
use Rattle.fixed_objects.specs.declared.Opening.{Opening}
use Rattle.fixed_objects.specs.Opening.{opening_state}
use Rattle.java_rows.specs.Start.{start_of_program}
use Rattle.java_rows.specs.Thread.{Local, java_code, first_state}
use Rattle.kept_states.specs.Kept.{IsKeptState}
use Rattle.opening_cores.specs.Openings.{CanBegin}
use Rattle.row_soundness.specs.Runs.{IsThread, MayStand, ObjectFits, RunsLocal}
use Rattle.program_soundness.specs.Soundness.{StateFits}
use Rattle.program_soundness.specs.SoundPrograms.{IsSound}
use Rattle.program_soundness.specs.Programs.{IsMainMethod}
use Rattle.program_soundness.proofs.Programs.{main_begins}
use Rattle.program_soundness.proofs.SoundnessLaws as java
use Rattle.program_soundness.proofs.Starts.{starts_fit}
use Rattle.program_accept.specs.Accepted.{Accepted, IsProgram}
use Rattle.accepted_runs.proofs.accepted_programs.MainMethods.{is_sound}
use Rattle.accepted_runs.proofs.java_cores.Whole.{accepts, has_room, follow, fitting}
use Rattle.accepted_runs.proofs.OpeningLemmas.{can_begin}
use Rattle.table_words.specs.declared.setup.Setup.{Setup}
use Rattle.table_words.specs.Setups.{setup_bounds}
use Rattle.table_runs.specs.Programs.{CanRun}
use Rattle.table_runs.proofs.GoingLemmas.{threads_can_go_on}
use Rattle.accepted_runs.specs.Tables.{IsSetUpFor, ProgramThreadsCanGoOn}

module _ {C : Type 0} (us : List ClassUnit) (order : List ℕ) (sound : IsSound us order) (room : first_free (program_names us) ≤ 2 ^ 32) (main : MethodId) (is_main : IsMainMethod us main)
    (state : C → Local) (k : Setup C) (is : IsSetUpFor state us main k) where
  abbrev pub classes : ℕ
  classes = suc (length (classes_of us))

  first_is : k.opening.first ≡ first_free (program_names us)
  first_is = ap (λ (o : Opening). o.first) is.opening

  begins : CanBegin (IsThread us) (setup_bounds k) k.opening
  begins = subst (λ o. CanBegin (IsThread us) (setup_bounds k) o) (sym is.opening)
      (can_begin us order sound room main is_main (setup_bounds k) first_is is.place.heap (wide k.limits.sections is.sections))
    where
      wide : (n : ℕ) → n < 2 ^ 24 → n < 2 ^ 32
      wide n low = omega (arith, low)

  -- what holds of the start of the program holds of the state with which the table begins
  at_start : start_of_program us main ≡ opening_state k.opening (state k.code)
  at_start = ap (λ o. opening_state o (first_state us main)) (sym is.opening) ∙ ap (opening_state k.opening) (sym is.code)

  start : StateFits us (start_of_program us main)
  start = starts_fit us order main sound room is_main

  pub can_run : CanRun state java_code k (IsThread us) classes (RunsLocal us) (MayStand us) (ObjectFits us)
  can_run = record {
    begins = begins;
    orderly = subst (λ l. IsOrderly java_code l classes) (sym is.code)
        (java.orderly us (accepts us order sound room) (has_room us order sound room) main classes (main_begins us order main sound is_main) (omega arith));
    grounded = subst (IsGrounded java_code) at_start
        (java.grounded us (accepts us order sound room) (has_room us order sound room) (follow us order sound room) (start_of_program us main) start);
    starts = subst (StartWordsAreKept java_code (IsThread us)) at_start
        (java.start_words us (accepts us order sound room) (has_room us order sound room) (follow us order sound room) (start_of_program us main) start);
    fitting = fitting us order sound room;
    kept = subst (IsKeptState (RunsLocal us) (MayStand us) (ObjectFits us)) at_start start;
    inits = subst (λ (o : Opening). classes ≤ o.classes + 1) (sym is.opening) (omega arith);
    turns = is.turns;
    sections = is.sections;
  }

pub accepted_can_go_on : {C : Type 0} (p : Accepted) (files : List (List ℕ)) (name : List ℕ) → AreUnits p.units → (link_rules p.units).Hold → HasOrder p.units → IsProgram files name p
    → (first : ℕ) → first ≡ first_free (program_names p.units) → first < 2 ^ 30 → ProgramThreadsCanGoOn C p.units p.main
accepted_can_go_on p files name decoded hold order is first value small state k set_up =
    let (places, sound, main) = is_sound p files name decoded hold order is in
    let below : first ≤ 2 ^ 32 = omega arith in
    let room : first_free (program_names p.units) ≤ 2 ^ 32 = subst (λ n. n ≤ 2 ^ 32) value below in
    threads_can_go_on state java_code k (IsThread p.units) (classes p.units places sound room p.main main state k set_up) (RunsLocal p.units) (MayStand p.units) (ObjectFits p.units)
    (can_run p.units places sound room p.main main state k set_up)
