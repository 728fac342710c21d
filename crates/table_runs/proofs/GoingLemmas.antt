-- Each thread of such a program can go on after each run, until it has ended.
use Rattle.std.proofs.Common.{◌≡◌, ◌≢◌, ◌⊎◌, inl, inr, ℕ, suc, ◌+◌, ◌≤◌, Bool, true, false, Option, None, Some, List, [], ◌∷◌, length, take, nat_eq, refl, sym, ◌∙◌, ap, subst, arith}
use Rattle.std.specs.Prelude.{Contains, if◌then◌else◌}
use Rattle.op_core.specs.ThreadCode.{Code, quiet_to, quiet_step}
use Rattle.op_core.specs.OrdinaryState.{Object}
use Rattle.op_core.specs.declared.Next.{Next}
use Rattle.op_core.specs.declared.Next.TheVariants.{Silent, Want, Ended}
use Rattle.heap_words.specs.Areas.{IsIn}
use Rattle.plain_words.specs.Table.{HasRoom}
use Rattle.step_port.specs.declared.answer.StepAnswer.{StepAnswer}
use Rattle.step_port.specs.declared.answer.StepAnswer.TheVariants.{Found}
use Rattle.step_port.specs.declared.step.Step.{Step}
use Rattle.step_port.specs.declared.step.Step.TheVariants.{Split}
use Rattle.step_port.specs.Steps.{place_of, effect_of}
use Rattle.step_port.specs.Words.{Words, answer_of}
use Rattle.thread_automaton.specs.declared.Move.{Move}
use Rattle.thread_automaton.specs.declared.Move.TheVariants.{Over, Quiet, Stop, Make}
use Rattle.thread_automaton.specs.ThreadState.{ThreadState, first_state}
use Rattle.thread_automaton.specs.NextMove.{next_move}
use Rattle.thread_automaton.specs.Told.{after_answer}
use Rattle.core_runs.specs.declared.Birth.{Birth}
use Rattle.core_runs.specs.WordRuns.{RunEntry, words_by, part_of}
use Rattle.core_runs.specs.OwnParts.{Quietly, OwnTo, births, births_after}
use Rattle.core_runs.specs.Cores.{Core}
use Rattle.section_laws.specs.InRuns.{StandsBehind, IsMaker, with_entries, IsPlaceIn, ActsOf, BeginsSo, BeginAsHandedOut}
use Rattle.section_laws.proofs.ActLemmas.{take_whole, runs_have_acts}
use Rattle.section_laws.proofs.CoreRunLemmas.{begun_later, begin_with_runs}
use Rattle.section_laws.specs.NextSteps.{after_move, next_quiet, state_after_part, step_made}
use Rattle.section_laws.proofs.run_parts.NextStepLemmas.{quiet_join, quiet_front, part_says}
use Rattle.thread_moves.specs.Thread.{CanBeAsked}
use Rattle.thread_moves.specs.Change.{NamesThread}
use Rattle.kept_states.specs.Kept.{Objects}
use Rattle.opening_cores.specs.Openings.{opening_core}
use Rattle.table_words.specs.declared.setup.Setup.{Setup}
use Rattle.table_words.specs.Setups.{setup_bounds, setup_areas, setup_words, first_birth}
use Rattle.table_words.specs.Parts.{local_at_birth, state_at_birth, IsSetupRun, IsOwnOf}
use Rattle.table_words.specs.Views.{born_by}
use Rattle.table_words.proofs.Births.{at_front, other_number}
use Rattle.table_words.proofs.Growing.{begins, single, new_number}
use Rattle.table_hosts.specs.Standing.{CanHaveTurn, ThreadsCanGoOn}
use Rattle.table_runs.specs.Programs.{CanRun}
use Rattle.table_runs.proofs.PathLemmas.{Apart, later, earlier, ways, EndsWith, goes_on_quietly}
use Rattle.table_runs.proofs.PlaceLemmas.{asked_last, steps_last, stands_last}

-- a silent step that can be made is one of a code that is silent
quiet_is_silent : {S : Type 0} (code : Code S) (next : Next) (l m : S) → quiet_to code l next ≡ Some m → next ≡ Silent
quiet_is_silent code Silent l m is = refl
quiet_is_silent code (Want op) l m is = absurd (none_some m is)
  where
    none_some : {A : Type 0} (m : A) → None ≡ Some m → ⊥
    none_some m e = cc
quiet_is_silent code Ended l m is = absurd (none_some m is)
  where
    none_some : {A : Type 0} (m : A) → None ≡ Some m → ⊥
    none_some m e = cc

module _ {C S : Type 0} (state : C → S) (code : Code S) (k : Setup C) (is_thread : ℕ → Bool) (classes : ℕ) (P : Objects → S → Type 0) (W : Objects → ℕ → ℕ → ℕ → Type 0) (O : ℕ → Object → Type 0)
    (may : CanRun state code k is_thread classes P W O) where
  abbrev Stands : List RunEntry → ℕ → ThreadState S → Type 0
  Stands run t th = StandsBehind code (setup_bounds k) (state_at_birth state code k) (first_birth k) run t th

  abbrev start : Core S
  start = opening_core k.opening (state k.code)

  abbrev Ends : List RunEntry → ℕ → ThreadState S → Type 0
  Ends run t th = EndsWith code (setup_bounds k) (opening_core k.opening (state k.code)) (words_by (setup_words k) run) t th

  shorter : (e : RunEntry) (run : List RunEntry) → IsSetupRun state code k (e ∷ run) → IsSetupRun state code k run
  shorter e run is = (begin_with_runs code (setup_bounds k) (state_at_birth state code k) (first_birth k) (setup_words k) e run (begins state code k (e ∷ run) is)).is_run

  -- ---- where a thread is after a run

  -- a thread that makes a silent move next
  IsQuietNow : ThreadState S → Type 0
  IsQuietNow th = (z : ThreadState S) × (next_quiet code (setup_bounds k) th ≡ Some z)

  -- at the end of a run act by act, or about to make a silent move
  placed : (run : List RunEntry) → IsSetupRun state code k run → BeginAsHandedOut code (setup_bounds k) (state_at_birth state code k) (first_birth k) run → (t : ℕ) (th : ThreadState S) → Stands run t th
      → Ends run t th ⊎ ((z : ThreadState S) × (next_quiet code (setup_bounds k) th ≡ Some z))
  placed run is handed t th at = elim (ways code (setup_bounds k) (there.moves + at_part.0) (at.moves + own_part.0) _ there_th th there_way own_way) [
    | later d quietly ↦ inl (goes_on_quietly code (setup_bounds k) start (words_by (setup_words k) run) t d there_th th quietly here)
    | earlier d quietly ↦ (let f = quiet_front code (setup_bounds k) d th there_th quietly in inr (f.0, f.1))
  ]
    where
      acts : ActsOf code (setup_bounds k) (state_at_birth state code k) (first_birth k) (setup_words k) (opening_core k.opening (state k.code)).objects run
      acts = runs_have_acts code (setup_bounds k) (state_at_birth state code k) (first_birth k) (setup_words k) run (begins state code k run is) (omega arith) handed (opening_core k.opening (state k.code)).objects

      whole : with_entries (take (length acts.acts) acts.acts) [] ≡ run
      whole = ap (λ xs. with_entries xs []) (take_whole acts.acts (length acts.acts) (omega arith)) ∙ acts.steps

      last : IsPlaceIn code (setup_bounds k) (state_at_birth state code k) (first_birth k) (setup_words k) run run (acts.cores (length acts.acts))
      last = subst (λ older. IsPlaceIn code (setup_bounds k) (state_at_birth state code k) (first_birth k) (setup_words k) run older (acts.cores (length acts.acts))) whole (acts.places (length acts.acts) (omega arith))

      found : (x : ThreadState S) × ((acts.cores (length acts.acts)).threads t ≡ Some x)
      found = subst (λ n. (x : ThreadState S) × ((acts.cores (length acts.acts)).threads n ≡ Some x)) at.number (last.begun at.birth at.begun)

      there_th : ThreadState S
      there_th = found.0

      here : Ends run t found.0
      here = record {
        cores = acts.cores;
        acts = acts.acts;
        starts = acts.starts;
        leads = acts.is_run.leads;
        words = last.words;
        stands = found.1;
      }

      there : Stands run t found.0
      there = last.threads t found.0 found.1

      same : there.birth ≡ at.birth
      same = single state code k run is there.birth at.birth there.begun at.begun (there.number ∙ sym at.number)

      own_part : (n : ℕ) × Quietly code (setup_bounds k) n (state_after_part code (setup_bounds k) (state_at_birth state code k at.birth) (part_of t run)) at.last
      own_part = part_says code (setup_bounds k) (state_at_birth state code k at.birth) (part_of t run) at.last at.own

      at_part : (n : ℕ) × Quietly code (setup_bounds k) n (state_after_part code (setup_bounds k) (state_at_birth state code k at.birth) (part_of t run)) there.last
      at_part = part_says code (setup_bounds k) (state_at_birth state code k at.birth) (part_of t run) there.last
          (subst (λ (x : Birth). OwnTo code (setup_bounds k) (state_at_birth state code k x) (part_of t run) there.last) same there.own)

      own_way : Quietly code (setup_bounds k) (at.moves + own_part.0) (state_after_part code (setup_bounds k) (state_at_birth state code k at.birth) (part_of t run)) th
      own_way = quiet_join code (setup_bounds k) at.moves own_part.0 _ at.last th own_part.1 at.quietly

      there_way : Quietly code (setup_bounds k) (there.moves + at_part.0) (state_after_part code (setup_bounds k) (state_at_birth state code k at.birth) (part_of t run)) found.0
      there_way = quiet_join code (setup_bounds k) there.moves at_part.0 _ there.last found.0 at_part.1 there.quietly

  -- ---- threads that are handed out begin as the program says

  main_there : (run : List RunEntry) → Contains (births (first_birth k) run) (first_birth k)
  main_there [] = at_front (first_birth k) []
  main_there (e ∷ run) = begun_later e.made.step (births (first_birth k) run) (first_birth k) (main_there run)

  quiet_makes_none : (th : ThreadState S) (z : ThreadState S) (step : Step) → next_quiet code (setup_bounds k) th ≡ Some z → next_move code (setup_bounds k) th ≡ Make step → ⊥
  quiet_makes_none th z step quiet makes = none_some (sym (ap (λ m. after_move th m (quiet_step code th.local)) makes) ∙ quiet)
    where
      none_some : None ≡ Some z → ⊥
      none_some e = cc

  child_so : (run : List RunEntry) → IsSetupRun state code k run → BeginAsHandedOut code (setup_bounds k) (state_at_birth state code k) (first_birth k) run → (t : ℕ) (th : ThreadState S) → Stands run t th
      → (n r p : ℕ) → next_move code (setup_bounds k) th ≡ Make (Split n r p) → code.child th.local r ≡ local_at_birth state code k (born_by (Split n r p))
  child_so run is handed t th at n r p makes = elim (placed run is handed t th at) [
    | inl ends ↦
        may.orderly.children th.local r (stands_last state code k is_thread classes P W O may ends.cores ends.acts ends.starts ends.leads t th ends.stands)
        ∙ sym (ap (λ (x : Bool). if x then state k.code else code.child (state k.code) r) (other_number n 1 other))
    | inr quiet ↦ absurd (quiet_makes_none th quiet.0 (Split n r p) quiet.1 makes)
  ]
    where
      own : IsOwnOf state code k at.birth (step_made (Split n r p) (Found 0) ∷ part_of at.birth.number run)
      own = subst (λ i. IsOwnOf state code k at.birth (step_made (Split n r p) (Found 0) ∷ part_of i run)) (sym at.number)
          (after_answer code (setup_bounds k) th (Split n r p) (Found 0), (at.last, th, at.moves, at.own, at.quietly, (makes, refl)))

      other : n ≢ 1
      other same = new_number state code k run is at.birth at.begun n r p (Found 0) own (first_birth k) (main_there run) same

  handed_out : (run : List RunEntry) → IsSetupRun state code k run → BeginAsHandedOut code (setup_bounds k) (state_at_birth state code k) (first_birth k) run
  handed_out [] is = tt
  handed_out (e ∷ run) is = (handed_out run (shorter e run is), so (handed_out run (shorter e run is)) e.made.step refl)
    where
      so : BeginAsHandedOut code (setup_bounds k) (state_at_birth state code k) (first_birth k) run → (step : Step) → e.made.step ≡ step
          → BeginsSo code (setup_bounds k) (state_at_birth state code k) (first_birth k) e run step
      so handed (Split n r p) is_step = λ th maker. sym (ap (λ l. first_state n p l) (child_so run (shorter e run is) handed e.thread th maker.stands n r p (maker.makes ∙ ap Make is_step)))
      so handed step is_step = tt

  pub threads_can_go_on : ThreadsCanGoOn state code k
  threads_can_go_on run is t th at going = elim (placed run is (handed_out run is) t th at) [
    | inl ends ↦
        let steps = steps_last state code k is_thread classes P W O may ends.cores ends.acts ends.starts ends.leads t th ends.stands in
        record {
          asked = asked_last state code k is_thread classes P W O may ends.cores ends.acts ends.starts ends.leads t th ends.stands going;
          there = λ step makes. (steps.allowed step makes).there;
          room = λ step makes. subst (λ (w : Words). HasRoom (effect_of step) (w (place_of step))) ends.words (steps.allowed step makes).room;
          names = λ step makes. subst (λ (w : Words). NamesThread step (answer_of w step)) ends.words (steps.names step makes);
          child = λ n r q makes. child_so run is (handed_out run is) t th at n r q makes;
        }
    | inr quiet ↦ record {
      asked = subst (CanBeAsked code th.local) (sym (silent_next quiet.0 quiet.1)) tt;
      there = λ step makes. absurd (quiet_makes_none th quiet.0 step quiet.1 makes);
      room = λ step makes. absurd (quiet_makes_none th quiet.0 step quiet.1 makes);
      names = λ step makes. absurd (quiet_makes_none th quiet.0 step quiet.1 makes);
      child = λ n r q makes. absurd (quiet_makes_none th quiet.0 (Split n r q) quiet.1 makes);
    }
  ]
    where
      step_some : (move : Move) (o : Option S) (z : ThreadState S) → after_move th move o ≡ Some z → (m : S) × (o ≡ Some m)
      step_some Quiet (Some m) z e = (m, refl)
      step_some Quiet None z e = cc
      step_some Over o z e = cc
      step_some (Stop limit) o z e = cc
      step_some (Make step) o z e = cc

      silent_next : (z : ThreadState S) → next_quiet code (setup_bounds k) th ≡ Some z → code.next th.local ≡ Silent
      silent_next z quiet = let some = step_some (next_move code (setup_bounds k) th) (quiet_step code th.local) z quiet in quiet_is_silent code (code.next th.local) (code.silent th.local) some.0 some.1
