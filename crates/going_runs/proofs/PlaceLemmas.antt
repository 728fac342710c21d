-- The place of a whole run at which its threads are.
use Rattle.std.proofs.Common.{◌≡◌, ℕ, zero, suc, ◌+◌, ◌<◌, ◌≤◌, Bool, true, false, Option, None, Some, List, [], ◌∷◌, length, nat_eq, refl, sym, ◌∙◌, ap, subst, arith}
use Rattle.std.specs.Prelude.{Contains, ◌^◌, if◌then◌else◌}
use Rattle.std.specs.List.{All}
use Rattle.std.proofs.lemmas.List.Elements.{All-nil, All-cons, Contains-append_right}
use Rattle.op_core.specs.ThreadCode.{Code}
use Rattle.op_core.proofs.PointwiseLemmas.{set_at-at}
use Rattle.heap_words.specs.declared.areas.Area.TheVariants.{Control}
use Rattle.step_port.specs.declared.answer.StepAnswer.{StepAnswer}
use Rattle.step_port.specs.declared.step.Step.{Step}
use Rattle.step_port.specs.declared.step.Step.TheVariants.{OpenSection, MarkUndone, Split}
use Rattle.step_port.specs.Words.{Words}
use Rattle.thread_automaton.specs.declared.Bounds.{Bounds}
use Rattle.thread_automaton.specs.declared.Move.TheVariants.{Over, Make}
use Rattle.thread_automaton.specs.ThreadState.{ThreadState, first_state}
use Rattle.thread_automaton.specs.NextMove.{next_move}
use Rattle.core_runs.specs.declared.Birth.{Birth}
use Rattle.core_runs.specs.WordRuns.{RunEntry, part_of}
use Rattle.core_runs.specs.OwnParts.{is_beside, OwnTo, births}
use Rattle.core_runs.specs.Cores.{Core}
use Rattle.core_runs.specs.Acts.{did}
use Rattle.section_laws.specs.Runs.{IsRun, IsBeginning}
use Rattle.section_laws.specs.InRuns.{StandsBehind, with_entries, IsPlaceIn, ActsTo, BeginsSo, BeginAsHandedOut}
use Rattle.section_laws.proofs.ActLemmas.{take_whole, runs_reach_states}
use Rattle.section_laws.proofs.CoreRunLemmas.{begin_with_runs}
use Rattle.section_laws.specs.Numbers.{AreNumbered}
use Rattle.section_laws.proofs.run_threads.NumberLemmas.{threads_are_numbered}
use Rattle.thread_moves.specs.Thread.{thread_of}
use Rattle.thread_moves.specs.declared.thread.JThread.{JThread}
use Rattle.opening_cores.specs.Openings.{opening_core}
use Rattle.table_words.specs.declared.setup.Setup.{Setup}
use Rattle.table_words.specs.declared.setup.ThreadPart.{ThreadPart}
use Rattle.table_words.specs.Setups.{setup_bounds, setup_words, first_birth}
use Rattle.table_words.specs.Parts.{state_at_birth, IsSetupRun, ArePartsOf}
use Rattle.table_words.specs.Rule.{sum_parts, one_if_numbered}
use Rattle.table_words.specs.Ends.{IsWholeRun}
use Rattle.table_words.proofs.Births.{flag, flagged, same_number}
use Rattle.table_words.proofs.Growing.{begins, single}
use Rattle.table_hosts.specs.Standing.{ThreadsCanGoOn}
use Rattle.table_hosts.specs.Tallies.{opened_by, undone_by, opened_in_steps, undone_in_steps}
use Rattle.word_runs.specs.WordTurns.{Progress}
use Rattle.word_runs.specs.Laws.{AreActs}
use Rattle.sched_core.specs.Counts.{is_opening, is_undoing}
use Rattle.going_runs.specs.Places.{AreAfterSteps, IsPlaceAfter, WholeRunsHavePlaces}
use Rattle.going_runs.proofs.CountLemmas.{all_count}
use Rattle.going_runs.proofs.MoveLemmas.{AreApart, rest_apart, later_apart, AreAtLast, AreNow, AllMoved, all_move}

-- ---- steps that are made beside the threads count for nothing

opens_own : (step : Step) → is_beside step ≡ true → opened_by step ≡ 0
opens_own (OpenSection s w) is = absurd (cc)
opens_own step is = refl

undoes_own : (step : Step) → is_beside step ≡ true → undone_by step ≡ 0
undoes_own (MarkUndone s w) is = absurd (cc)
undoes_own step is = refl

opening_did : (t : ℕ) (step : Step) (a : StepAnswer) → flag (is_opening (did t step a)) ≡ opened_by step
opening_did t (OpenSection s w) a = refl
opening_did t step a = refl

undoing_did : (t : ℕ) (step : Step) (a : StepAnswer) → flag (is_undoing (did t step a)) ≡ undone_by step
undoing_did t (MarkUndone s w) a = refl
undoing_did t step a = refl

module _ {C S : Type 0} (state : C → S) (saved : C → List S) (code : Code S) (k : Setup C) where
  abbrev b : Bounds
  b = setup_bounds k

  abbrev first : Birth → ThreadState S
  first x = state_at_birth state code k x

  abbrev main : Birth
  main = first_birth k

  abbrev start : Core S
  start = opening_core k.opening (state k.code)

  -- ---- threads that are handed out begin as the program says

  not_over : (th : ThreadState S) (step : Step) → next_move code b th ≡ Make step → th.over ≡ false
  not_over th step makes = by th.over refl
    where
      over_is : (th : ThreadState S) → th.over ≡ true → next_move code b th ≡ Over
      over_is th over = ap (λ o. next_move code b (record th { over = o })) over

      by : (over : Bool) → th.over ≡ over → over ≡ false
      by false is = refl
      by true is = let none : next_move code b th ≡ Over = over_is th is in absurd (cc)

  shorter : (e : RunEntry) (run : List RunEntry) → IsSetupRun state code k (e ∷ run) → IsSetupRun state code k run
  shorter e run is = (begin_with_runs code b (λ x. state_at_birth state code k x) main (setup_words k) e run (begins state code k (e ∷ run) is)).is_run

  handed_out : ThreadsCanGoOn state code k → (run : List RunEntry) → IsSetupRun state code k run → BeginAsHandedOut code b (state_at_birth state code k) main run
  handed_out can [] is = tt
  handed_out can (e ∷ run) is = (handed_out can run (shorter e run is), so e.made.step refl)
    where
      so : (step : Step) → e.made.step ≡ step → BeginsSo code b (state_at_birth state code k) main e run step
      so (Split n r p) is_step = λ th maker.
          let makes : next_move code b th ≡ Make (Split n r p) = maker.makes ∙ ap Make is_step in
          sym (ap (λ l. first_state n p l) ((can run (shorter e run is) e.thread th maker.stands (not_over th (Split n r p) makes)).child n r p makes))
      so step is_step = tt

  -- ---- the state of each thread right after its last step

  abbrev chosen : (ps : List (ThreadPart C)) (xs : List (JThread C)) → AreAfterSteps state saved code k ps xs → ℕ → ThreadState S
  chosen [] xs after n = state_at_birth state code k (first_birth k)
  chosen (p ∷ ps) [] after n = state_at_birth state code k (first_birth k)
  chosen (p ∷ ps) (x ∷ xs) after n = if nat_eq n p.birth.number then after.0.last else chosen ps xs after.1 n

  module _ (run : List RunEntry) (is : IsSetupRun state code k run) where
    -- the thread of a number that has a part
    part_born : (ps : List (ThreadPart C)) (n : ℕ) → ArePartsOf k run ps → 0 < sum_parts (one_if_numbered n) ps → (x : Birth) × Contains (births main run) x × (x.number ≡ n)
    part_born [] n are some = absurd (omega (arith, some))
    part_born (p ∷ ps) n are some = by (nat_eq n p.birth.number) refl (λ more. part_born ps n are.1 more) some
      where
        by : (t : Bool) → nat_eq n p.birth.number ≡ t → (0 < sum_parts (one_if_numbered n) ps → (x : Birth) × Contains (births main run) x × (x.number ≡ n))
            → 0 < flag t + sum_parts (one_if_numbered n) ps → (x : Birth) × Contains (births main run) x × (x.number ≡ n)
        by true same later some = (p.birth, are.0.born, sym (flagged n p.birth.number (let one : flag (nat_eq n p.birth.number) ≡ 1 = ap flag same in omega (arith, one))))
        by false other later some = later (omega (arith, some))

    chosen_owns : (ps : List (ThreadPart C)) (xs : List (JThread C)) (after : AreAfterSteps state saved code k ps xs) → ArePartsOf k run ps → (x : Birth) → Contains (births main run) x
        → 0 < sum_parts (one_if_numbered x.number) ps → OwnTo code b (state_at_birth state code k x) (part_of x.number run) (chosen ps xs after x.number)
    chosen_owns [] xs after are x there some = absurd (omega (arith, some))
    chosen_owns (p ∷ ps) [] after are x there some = absurd after
    chosen_owns (p ∷ ps) (y ∷ xs) after are x there some = by (nat_eq x.number p.birth.number) refl (λ more. chosen_owns ps xs after.1 are.1 x there more) some
      where
        by : (t : Bool) → nat_eq x.number p.birth.number ≡ t
            → (0 < sum_parts (one_if_numbered x.number) ps → OwnTo code b (state_at_birth state code k x) (part_of x.number run) (chosen ps xs after.1 x.number)) → 0 < flag t + sum_parts (one_if_numbered x.number) ps
            → OwnTo code b (state_at_birth state code k x) (part_of x.number run) (if t then after.0.last else chosen ps xs after.1 x.number)
        by true same later some =
            let number : x.number ≡ p.birth.number = flagged x.number p.birth.number (let one : flag (nat_eq x.number p.birth.number) ≡ 1 = ap flag same in omega (arith, one)) in
            let birth : p.birth ≡ x = single state code k run is p.birth x are.0.born there (sym number) in
            subst (λ part. OwnTo code b (state_at_birth state code k x) part after.0.last) (are.0.steps ∙ ap (λ (z : Birth). part_of z.number run) birth)
            (subst (λ (z : Birth). OwnTo code b (state_at_birth state code k z) p.steps after.0.last) birth after.0.own)
        by false other later some = later (omega (arith, some))

  chosen_last : (ps : List (ThreadPart C)) (xs : List (JThread C)) (after : AreAfterSteps state saved code k ps xs) (f : ℕ → Option (ThreadState S)) → AreApart ps
      → ((n : ℕ) → 0 < sum_parts (one_if_numbered n) ps → f n ≡ Some (chosen ps xs after n)) → AreAtLast state saved code k start ps xs after f
  chosen_last [] xs after f apart at = tt
  chosen_last (p ∷ ps) [] after f apart at = tt
  chosen_last (p ∷ ps) (x ∷ xs) after f apart at = (
    at p.birth.number (let one : flag (nat_eq p.birth.number p.birth.number) ≡ 1 = ap flag own in omega (arith, one)) ∙ ap (λ t. Some (if t then after.0.last else chosen ps xs after.1 p.birth.number)) own,
    chosen_last ps xs after.1 f (rest_apart p ps apart) (λ n some. at n (omega (arith, some))
        ∙ ap (λ t. Some (if t then after.0.last else chosen ps xs after.1 n)) (later_apart p ps apart n some)),
  )
    where
      own : nat_eq p.birth.number p.birth.number ≡ true
      own = same_number p.birth.number p.birth.number refl

  -- ---- all threads are there

  begin_numbered : AreNumbered start
  begin_numbered = record {
    own = λ t th. set_at-at (λ o. o ≡ Some th → th.number ≡ t) (λ u. None) 1 (Some (first_state 1 5 (state k.code))) t
        (λ here at. ap (λ (x : ThreadState S). x.number) (sym (some_same (first_state 1 5 (state k.code)) th at)) ∙ sym here) (λ other at. absurd (cc));
    drawn = λ t th. set_at-at (λ o. o ≡ Some th → t ≤ start.words (Control 4)) (λ u. None) 1 (Some (first_state 1 5 (state k.code))) t (λ here at. omega (arith, here)) (λ other at. absurd (cc));
    low = λ t th. set_at-at (λ o. o ≡ Some th → t < 2 ^ 8) (λ u. None) 1 (Some (first_state 1 5 (state k.code))) t (λ here at. omega (arith, here)) (λ other at. absurd (cc));
  }
    where
      some_same : {A : Type 0} (x y : A) → Some x ≡ Some y → x ≡ y
      some_same x y is = cc

  module _ (f : ℕ → Option (ThreadState S)) (numbered : (t : ℕ) (th : ThreadState S) → f t ≡ Some th → th.number ≡ t) where
    each_now : (ps : List (ThreadPart C)) (xs : List (JThread C)) → AreNow state saved code k start ps xs f → All (λ (x : JThread C). f x.own.number ≡ Some (thread_of state saved x)) xs
    each_now [] [] now = All-nil (λ (x : JThread C). f x.own.number ≡ Some (thread_of state saved x))
    each_now [] (x ∷ xs) now = absurd now
    each_now (p ∷ ps) [] now = absurd now
    each_now (p ∷ ps) (x ∷ xs) now = All-cons (λ (x : JThread C). f x.own.number ≡ Some (thread_of state saved x)) x xs
        (ap f (numbered p.birth.number (thread_of state saved x) now.0) ∙ now.0) (each_now ps xs now.1)

    found_now : (ps : List (ThreadPart C)) (xs : List (JThread C)) (n : ℕ) → AreNow state saved code k start ps xs f → 0 < sum_parts (one_if_numbered n) ps → (x : JThread C) × Contains xs x × (x.own.number ≡ n)
    found_now [] xs n now some = absurd (omega (arith, some))
    found_now (p ∷ ps) [] n now some = absurd now
    found_now (p ∷ ps) (x ∷ xs) n now some = by (nat_eq n p.birth.number) refl (λ more. found_now ps xs n now.1 more) some
      where
        by : (t : Bool) → nat_eq n p.birth.number ≡ t → (0 < sum_parts (one_if_numbered n) ps → (z : JThread C) × Contains xs z × (z.own.number ≡ n)) → 0 < flag t + sum_parts (one_if_numbered n) ps → (z : JThread C) × Contains (x ∷ xs) z × (z.own.number ≡ n)
        by true same later some = (
          x,
          (0, omega arith, refl),
          numbered p.birth.number (thread_of state saved x) now.0
              ∙ sym (flagged n p.birth.number (let one : flag (nat_eq n p.birth.number) ≡ 1 = ap flag same in omega (arith, one))),
        )
        by false other later some = let (z, there, number) = later (omega (arith, some)) in (z, Contains-append_right (x ∷ []) xs z there, number)

  module _ (can : ThreadsCanGoOn state code k) (w : Words) (ps : List (ThreadPart C)) (xs : List (JThread C)) (whole : IsWholeRun state code k w ps) (after : AreAfterSteps state saved code k ps xs) where
    reached : ActsTo code (setup_bounds k) (state_at_birth state code k) (first_birth k) (setup_words k) (opening_core k.opening (state k.code)).objects whole.run (chosen ps xs after)
    reached = runs_reach_states code b (state_at_birth state code k) main (setup_words k) whole.run (begins state code k whole.run whole.is_run) (omega arith) (handed_out can whole.run whole.is_run) start.objects
        (chosen ps xs after) (λ x there. chosen_owns whole.run whole.is_run ps xs after whole.parts x there (whole.all x there))

    -- right after the last step of each thread
    abbrev there : Progress S
    there = record { acts = reached.all.acts; core = reached.all.cores (length reached.all.acts); shown = 0; keeps = false }

    there_acts : AreActs code b start there
    there_acts = record { cores = reached.all.cores; begins = reached.all.starts; leads = reached.all.is_run.leads; ends = refl }

    there_place : IsPlaceIn code b (state_at_birth state code k) main (setup_words k) whole.run whole.run there.core
    there_place = subst (λ older. IsPlaceIn code b (state_at_birth state code k) main (setup_words k) whole.run older (reached.all.cores (length reached.all.acts)))
        (ap (λ acts. with_entries acts []) (take_whole reached.all.acts (length reached.all.acts) (omega arith)) ∙ reached.all.steps) (reached.all.places (length reached.all.acts) (omega arith))

    there_last : AreAtLast state saved code k start ps xs after there.core.threads
    there_last = chosen_last ps xs after there.core.threads whole.once (λ n some.
        let (x, born, number) = part_born whole.run whole.is_run ps n whole.parts some in
        subst (λ m. there.core.threads m ≡ Some (chosen ps xs after m)) number (reached.last x born))

    moved : AllMoved state saved code k start there ps xs
    moved = all_move state saved code k start ps xs after there there_acts whole.once there_last

    last_run : IsRun code b moved.onward.acts.cores moved.next.acts
    last_run = record {
      begins = subst IsBeginning (reached.all.starts ∙ sym moved.onward.acts.begins) reached.all.is_run.begins;
      leads = moved.onward.acts.leads;
    }

    last_numbered : AreNumbered moved.next.core
    last_numbered = subst AreNumbered moved.onward.acts.ends
        (threads_are_numbered code b moved.onward.acts.cores moved.next.acts last_run (subst AreNumbered (sym moved.onward.acts.begins) begin_numbered) (length moved.next.acts) (omega arith))

    every_now : (t : ℕ) (th : ThreadState S) → moved.next.core.threads t ≡ Some th → (x : JThread C) × Contains xs x × (x.own.number ≡ t)
    every_now t th at = by (sum_parts (one_if_numbered t) ps) refl
      where
        by : (n : ℕ) → sum_parts (one_if_numbered t) ps ≡ n → (x : JThread C) × Contains xs x × (x.own.number ≡ t)
        by (suc n) is = found_now moved.next.core.threads last_numbered.own ps xs t moved.now (omega (arith, is))
        by zero is =
            let stands : StandsBehind code b (state_at_birth state code k) main whole.run t th = there_place.threads t th (sym (moved.others t is) ∙ at) in
            let some : 0 < sum_parts (one_if_numbered t) ps = subst (λ n. 0 < sum_parts (one_if_numbered n) ps) stands.number (whole.all stands.birth stands.begun) in
            absurd (omega (arith, is, some))

    single_part : (x : Birth) → Contains (births main whole.run) x → sum_parts (one_if_numbered x.number) ps ≡ 1
    single_part x born = let some = whole.all x born in let most = whole.once x.number in omega (arith, some, most)

    after_place : IsPlaceAfter state saved code k w ps xs moved.next
    after_place = record {
      acts = moved.onward.acts;
      untold = moved.onward.keeps;
      words = moved.onward.words ∙ there_place.words ∙ sym whole.words;
      threads = record { each = each_now moved.next.core.threads last_numbered.own ps xs moved.now; every = every_now };
      opened = moved.onward.opened ∙ all_count is_opening opened_by opened_in_steps refl (λ m ms. refl) (λ t. refl) (λ t step a. refl) opening_did opens_own code b reached.all.cores reached.all.acts whole.run main k ps
          reached.all.is_run.leads reached.all.steps whole.is_run.begun whole.parts single_part;
      undone = moved.onward.undone ∙ all_count is_undoing undone_by undone_in_steps refl (λ m ms. refl) (λ t. refl) (λ t step a. refl) undoing_did undoes_own code b reached.all.cores reached.all.acts whole.run main k ps
          reached.all.is_run.leads reached.all.steps whole.is_run.begun whole.parts single_part;
    }

pub whole_runs_have_places : {C S : Type 0} (state : C → S) (saved : C → List S) (code : Code S) → WholeRunsHavePlaces state saved code
whole_runs_have_places state saved code k w ps xs can whole after = (_, after_place state saved code k can w ps xs whole after)
