-- What is left of a run of a program is an execution of it.
use Rattle.std.specs.Prelude.{slice_get, if◌then◌else◌}
use Rattle.std.specs.List.{AllByRecursion}
use Rattle.std.proofs.lemmas.Option.{same_Some}
use Rattle.std.proofs.Common.{None, Option, sym, refl, ◌≡◌, Bool, true, false, true≢false, zero, ◌+◌, Some, [], ◌∷◌, ◌++◌, ◌<◌, ◌≤◌, ◌^◌, ℕ, suc, List, length, ◌∙◌, ap, subst, arith}
use Rattle.code_decode.specs.declared.code.ClassUnit.{ClassUnit}
use Rattle.link_types.specs.declared.operands.MethodId.{MethodId}
use Rattle.link_rules.specs.Classes.{classes_of}
use Rattle.link_rules.specs.FixedObjects.{first_free}
use Rattle.link_rules.specs.LinkRules.{link_rules}
use Rattle.link_rules.specs.Names.{program_names}
use Rattle.link_rules.specs.Units.{AreUnits}
use Rattle.linker.specs.Tables.{HasOrder}
use Rattle.op_core.specs.declared.Event.{Event}
use Rattle.op_core.specs.declared.Op.{Op}
use Rattle.op_core.specs.declared.Op.TheVariants.{Start}
use Rattle.op_core.specs.declared.Reply.{Reply}
use Rattle.op_core.specs.declared.Reply.TheVariants.{Number}
use Rattle.op_core.specs.OrdinaryState.{Object, set_at}
use Rattle.op_core.specs.InPlaceList.{Entry, silent, event, put_back, give_back, go_back, unseen}
use Rattle.op_core.specs.CleanCut.{kept_from, kept_by}
use Rattle.op_core.specs.Execution.{Leads, printed}
use Rattle.java_rows.specs.Start.{opening_of, start_of_program}
use Rattle.java_rows.specs.Thread.{Local, java_code, first_state}
use Rattle.thread_automaton.specs.declared.Bounds.{Bounds}
use Rattle.core_runs.specs.Cores.{Core}
use Rattle.core_runs.specs.Acts.{Act}
use Rattle.core_runs.specs.Reading.{ordinary}
use Rattle.row_soundness.specs.Runs.{IsThread, MayStand, ObjectFits, RunsLocal}
use Rattle.program_soundness.specs.SoundPrograms.{IsSound}
use Rattle.program_soundness.specs.Programs.{IsMainMethod}
use Rattle.program_accept.specs.Accepted.{Accepted, IsProgram}
use Rattle.accepted_runs.proofs.accepted_programs.MainMethods.{is_sound}
use Rattle.program_soundness.specs.Priorities.{StartsInRange}
use Rattle.program_soundness.proofs.PriorityLaws.{fit_from_start}
use Rattle.accepted_runs.proofs.java_cores.Whole.{core_states_fit}
use Rattle.program_soundness.specs.Seen.{IsPriority}
use Rattle.opening_cores.specs.KeptCores.{CoresAreKept}
use Rattle.heap_words.specs.declared.areas.Area.{Area}
use Rattle.heap_words.specs.Words.{tag_of}
use Rattle.section_laws.specs.Layout.{IsWordPlace}
use Rattle.first_law.proofs.grounded_monitors.RunLemmas.{free_runs_hold_monitors, free_runs_fit_objects}
use Rattle.written_words.specs.Tags.{IsWrittenRun}
use Rattle.plain_words.specs.Opening.{opening_words}
use Rattle.section_laws.specs.InRuns.{ActsOf}
use Rattle.section_laws.proofs.ActLemmas.{runs_have_acts}
use Rattle.core_law.specs.Erasure.{is_left_out, Erasure}
use Rattle.core_law.proofs.ErasureLemmas.{runs_are_erased}
use Rattle.opening_cores.specs.Openings.{CanBegin, opening_core}
use Rattle.opening_cores.proofs.OpeningLemmas.{openings_begin_runs, openings_are_ordinary, openings_have_no_tags}
use Rattle.word_runs.specs.Laws.{AreActs}
use Rattle.word_runs.proofs.TurnLemmas.{turns_are_acts}
use Rattle.accepted_runs.specs.Runs.{IsProgramRun, IsErasedRun, ProgramRunsAreErased, ProgramTurnsAreErased, main_birth, ProgramListsAreErased}
use Rattle.accepted_runs.proofs.OpeningLemmas.{can_begin}

-- ---- events that are left

-- what is so of each event that is left is so of each that isn't cut
left_is : (P : Op → Type 0) (cut : ℕ → Bool) (es : List Entry) (k : ℕ) (silents : ℕ → ℕ) → AllByRecursion (λ (e : Event). P e.op) (kept_from cut k silents es)
    → (j t : ℕ) (op : Op) (reply : Reply) → slice_get es j ≡ Some (event t op reply) → cut (k + j) ≡ false → P op
left_is P cut [] k silents all j t op reply at left = absurd cc
left_is P cut (event u o r ∷ es) k silents all j t op reply at left = by_place j at left (cut k) refl all (left_is P cut es (suc k))
  where
    same_op : event u o r ≡ event t op reply → o ≡ op
    same_op is = cc

    by_place : (j : ℕ) → slice_get (event u o r ∷ es) j ≡ Some (event t op reply) → cut (k + j) ≡ false → (z : Bool) → cut k ≡ z
        → AllByRecursion (λ (e : Event). P e.op) (if z then kept_from cut (suc k) silents es else (record { thread = u; silent = silents u; op = o; reply = r } ∷ kept_from cut (suc k) (set_at silents u 0) es))
        → ((z : ℕ → ℕ) → AllByRecursion (λ (e : Event). P e.op) (kept_from cut (suc k) z es) → (j t : ℕ) (op : Op) (reply : Reply) → slice_get es j ≡ Some (event t op reply) → cut (suc k + j) ≡ false → P op)
        → P op
    by_place zero at left true is all later = absurd (true≢false (sym is ∙ ap cut (omega arith) ∙ left))
    by_place zero at left false is all later = subst P (same_op (same_Some (event u o r) (event t op reply) at)) all.0
    by_place (suc j) at left true is all later = later silents all j t op reply at (ap cut (omega arith) ∙ left)
    by_place (suc j) at left false is all later = later (set_at silents u 0) all.1 j t op reply at (ap cut (omega arith) ∙ left)
left_is P cut (silent u ∷ es) k silents all zero t op reply at left = absurd cc
left_is P cut (silent u ∷ es) k silents all (suc j) t op reply at left =
    left_is P cut es (suc k) (if cut k then silents else set_at silents u (suc (silents u))) all j t op reply at (ap cut (omega arith) ∙ left)
left_is P cut (put_back r i v ∷ es) k silents all zero t op reply at left = absurd cc
left_is P cut (put_back r i v ∷ es) k silents all (suc j) t op reply at left = left_is P cut es (suc k) silents all j t op reply at (ap cut (omega arith) ∙ left)
left_is P cut (give_back u r n ∷ es) k silents all zero t op reply at left = absurd cc
left_is P cut (give_back u r n ∷ es) k silents all (suc j) t op reply at left = left_is P cut es (suc k) silents all j t op reply at (ap cut (omega arith) ∙ left)
left_is P cut (go_back u p ∷ es) k silents all zero t op reply at left = absurd cc
left_is P cut (go_back u p ∷ es) k silents all (suc j) t op reply at left = left_is P cut es (suc k) silents all j t op reply at (ap cut (omega arith) ∙ left)
left_is P cut (unseen ∷ es) k silents all zero t op reply at left = absurd cc
left_is P cut (unseen ∷ es) k silents all (suc j) t op reply at left = left_is P cut es (suc k) silents all j t op reply at (ap cut (omega arith) ∙ left)

-- ---- runs of a program

module _ (us : List ClassUnit) (order : List ℕ) (sound : IsSound us order) (room : first_free (program_names us) ≤ 2 ^ 32) (main : MethodId) (is_main : IsMainMethod us main)
    (b : Bounds) (c : ℕ → Core Local) (acts : List Act) (run : IsProgramRun us main b c acts) where
  abbrev pub classes : ℕ
  classes = suc (length (classes_of us))

  pub can : CanBegin (IsThread us) b (opening_of us)
  can = can_begin us order sound room main is_main b run.first run.heap (wide b.limits.sections run.sections)
    where
      wide : (n : ℕ) → n < 2 ^ 24 → n < 2 ^ 32
      wide n low = omega (arith, low)

  at_start : ordinary java_code (IsThread us) (c 0) ≡ start_of_program us main
  at_start = ap (ordinary java_code (IsThread us)) run.begins ∙ openings_are_ordinary java_code (IsThread us) b (opening_of us) can (first_state us main)

  pub kept : CoresAreKept java_code b (IsThread us) (first_state us main) classes c acts (RunsLocal us) (MayStand us) (ObjectFits us)
  kept = core_states_fit us order sound room main is_main b classes c acts (omega arith)
      (openings_begin_runs java_code (IsThread us) b (opening_of us) can (first_state us main) c acts run.begins run.leads) at_start

  erasure : Erasure java_code b (IsThread us) c acts
  erasure = runs_are_erased java_code b (IsThread us) (first_state us main) classes c acts kept.run run.sections

  execution : Leads java_code (start_of_program us main) (kept_by (is_left_out c acts) erasure.entries) erasure.last
  execution = subst (λ s. Leads java_code s (kept_by (is_left_out c acts) erasure.entries) erasure.last) at_start erasure.leads

  in_range : (k t r p n : ℕ) → slice_get erasure.entries k ≡ Some (event t (Start r p) (Number n)) → IsPriority p
  in_range k t r p n at = by_cut (is_left_out c acts k) refl
    where
      by_cut : (z : Bool) → is_left_out c acts k ≡ z → IsPriority p
      by_cut true out = absurd (erasure.lasting k t (Start r p) (Number n) at out)
      by_cut false left = left_is StartsInRange (is_left_out c acts) erasure.entries 0 (λ u. 0) ((fit_from_start us order sound room main is_main).events (kept_by (is_left_out c acts) erasure.entries) (erasure.last, execution))
          k t (Start r p) (Number n) at (ap (is_left_out c acts) (omega arith) ∙ left)

  pub written : IsWrittenRun java_code b (IsThread us) (first_state us main) classes c acts
  written = record {
    tagged = record {
      monitors = free_runs_hold_monitors java_code b (IsThread us) (first_state us main) classes c acts kept.run;
      laid = free_runs_fit_objects java_code b (IsThread us) (first_state us main) classes c acts kept.run;
      sections = run.sections;
    };
    begins = subst (λ (x : Core Local). (p : ℕ) → IsWordPlace (IsThread us) x.objects p → tag_of (x.words (Area.Object p)) ≡ 0) (sym run.begins)
        (openings_have_no_tags (IsThread us) b (opening_of us) can (first_state us main));
  }

  erased : IsErasedRun us main b classes c acts
  erased = record {
    erasure = erasure;
    execution = execution;
    priorities = in_range;
    written = written;
    kept = kept;
  }

pub program_runs_are_erased : (us : List ClassUnit) (order : List ℕ) (main : MethodId) → IsSound us order → first_free (program_names us) ≤ 2 ^ 32 → IsMainMethod us main → ProgramRunsAreErased us main
program_runs_are_erased us order main sound room is_main b c acts run = (suc (length (classes_of us)), erased us order sound room main is_main b c acts run)

pub program_turns_are_erased : (us : List ClassUnit) (order : List ℕ) (main : MethodId) → IsSound us order → first_free (program_names us) ≤ 2 ^ 32 → IsMainMethod us main → ProgramTurnsAreErased us main
program_turns_are_erased us order main sound room is_main b first heap sections rest keeps threads last follows = record {
  cores = are.cores;
  begins = are.begins;
  ends = are.ends;
  classes = all.0;
  erased = all.1;
  lines = ap (λ (x : Core Local). x.lines) (sym are.ends) ∙ all.1.erasure.lines
      ∙ ap (λ (x : Core Local). x.lines ++ printed (kept_by (is_left_out are.cores last.state.acts) all.1.erasure.entries)) are.begins;
}
  where
    are : AreActs java_code b (opening_core (opening_of us) (first_state us main)) last.state
    are = turns_are_acts java_code b (opening_core (opening_of us) (first_state us main)) rest keeps threads last follows

    all : (classes : ℕ) × IsErasedRun us main b classes are.cores last.state.acts
    all = program_runs_are_erased us order main sound room is_main b are.cores last.state.acts (record { first = first; heap = heap; sections = sections; begins = are.begins; leads = are.leads })

pub program_lists_are_erased : (us : List ClassUnit) (order : List ℕ) (main : MethodId) → IsSound us order → first_free (program_names us) ≤ 2 ^ 32 → IsMainMethod us main → ProgramListsAreErased us main
program_lists_are_erased us order main sound room is_main b places heap sections first main_is run is_run handed = record {
  cores = acts.cores;
  acts = acts.acts;
  steps = acts.steps;
  classes = all.0;
  erased = all.1;
}
  where
    objects : ℕ → Option Object
    objects = (opening_core (opening_of us) (first_state us main)).objects

    acts : ActsOf java_code b first (main_birth us) (opening_words (opening_of us)) objects run
    acts = runs_have_acts java_code b first (main_birth us) (opening_words (opening_of us)) run is_run (omega arith) handed objects

    begins : acts.cores 0 ≡ opening_core (opening_of us) (first_state us main)
    begins = acts.starts ∙ ap (λ th. record (opening_core (opening_of us) (first_state us main)) { threads = set_at (λ t. None) 1 (Some th) }) main_is

    all : (classes : ℕ) × IsErasedRun us main b classes acts.cores acts.acts
    all = program_runs_are_erased us order main sound room is_main b acts.cores acts.acts (record { first = places; heap = heap; sections = sections; begins = begins; leads = acts.is_run.leads })

pub accepted_are_erased : (p : Accepted) (files : List (List ℕ)) (name : List ℕ) → AreUnits p.units → (link_rules p.units).Hold → HasOrder p.units → IsProgram files name p → (first : ℕ) → first ≡ first_free (program_names p.units) → first < 2 ^ 30
    → ProgramRunsAreErased p.units p.main × ProgramTurnsAreErased p.units p.main × ProgramListsAreErased p.units p.main
accepted_are_erased p files name decoded hold order is first value small =
    let (places, sound, main) = is_sound p files name decoded hold order is in
    let below : first ≤ 2 ^ 32 = omega arith in
    let room : first_free (program_names p.units) ≤ 2 ^ 32 = subst (λ n. n ≤ 2 ^ 32) value below in
    (program_runs_are_erased p.units places p.main sound room main, program_turns_are_erased p.units places p.main sound room main, program_lists_are_erased p.units places p.main sound room main)
