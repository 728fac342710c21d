-- A turn in memory leads from a place of the run to the next one.
use Rattle.std.proofs.Common.{◌≡◌, ℕ, zero, suc, ◌+◌, ◌<◌, ◌≤◌, true, false, Option, None, Some, List, [], ◌∷◌, ◌++◌, length, refl, sym, ◌∙◌, ap, subst, arith}
use Rattle.std.specs.Prelude.{slice_get, if◌then◌else◌}
use Rattle.std.proofs.lemmas.Option.{same_Some}
use Rattle.op_core.specs.declared.thread_code.ThreadCode.{Ghosts}
use Rattle.op_core.specs.ThreadCode.{Code, quiet_step}
use Rattle.schedules.specs.declared.order.TurnEnd.{TurnEnd}
use Rattle.schedules.specs.Schedule.{Rest}
use Rattle.step_port.specs.declared.step.Step.{Step}
use Rattle.step_port.specs.declared.step.Step.TheVariants.{MarkUndone}
use Rattle.step_port.specs.Steps.{kind_of}
use Rattle.step_port.specs.Words.{answer_of}
use Rattle.thread_automaton.specs.declared.Bounds.{Bounds}
use Rattle.thread_automaton.specs.declared.Move.{Move}
use Rattle.thread_automaton.specs.declared.Move.TheVariants.{Over, Quiet, Stop, Make}
use Rattle.thread_automaton.specs.ThreadState.{ThreadState}
use Rattle.thread_automaton.specs.NextMove.{next_move}
use Rattle.thread_automaton.specs.Told.{told}
use Rattle.thread_moves.specs.declared.thread.JThread.{JThread}
use Rattle.core_runs.specs.Cores.{Core}
use Rattle.core_runs.specs.Acts.{Act, quiet, did, mover, ActFrom}
use Rattle.section_laws.specs.Runs.{IsBeginning}
use Rattle.word_runs.specs.WordTurns.{Progress, GivesQuiet, GivesBy, counts_for, last_mover, word_turns}
use Rattle.word_runs.specs.Laws.{AreActs}
use Rattle.word_machine.specs.declared.told_turn.ToldTurn.{ToldTurn}
use Rattle.word_machine.specs.ToldTurn.{ShowsStep, ShowsNoStep, ShowsMove, ShowsTurn, TellsTurn}
use Rattle.journal_rows.specs.Told.{RowsTold, after_row_calls}
use Rattle.journal_rows.specs.Rows.{AreRowsTold}
use Rattle.sched_core.specs.ScheduledRun.{opens_by, undoes_by}
use Rattle.sched_core.proofs.CountLemmas.{turns_count}
use Rattle.traced_runs.specs.declared.traced_run.TracedRun.{TracedRun}
use Rattle.traced_runs.specs.Calls.{calls_of_turn}
use Rattle.traced_runs.specs.Told.{calls_of_step, calls_of_act, told_at, AreRowsOfActs}
use Rattle.traced_runs.specs.TracedRun.{is_act, IsTracedPlace, GivesTraced}
use Rattle.traced_runs.proofs.CallLemmas.{step_tells, no_step_tells}
use Rattle.traced_runs.proofs.CoreLemmas.{leads_there, all_but_last, get_before, get_last, length_more, thread_fits}
use Rattle.traced_runs.proofs.ItemLemmas.{step_adds, marked_low}

-- ---- rows with an act more

module _ {S : Type 0} (code : Code S) (b : Bounds) (c : ℕ → Core S) (acts : List Act) (x : Act) where
  told_before : (k : ℕ) → k ≤ length acts → told_at code b c (acts ++ x ∷ []) k ≡ told_at code b c acts k
  told_before zero within = refl
  told_before (suc k) within =
      ap (after_row_calls (calls_of_act code b (c k) (slice_get (acts ++ x ∷ []) k))) (told_before k (omega (arith, within)))
      ∙ ap (λ o. after_row_calls (calls_of_act code b (c k) o) (told_at code b c acts k)) (get_before acts x k within)

  pub told_more : told_at code b c (acts ++ x ∷ []) (length (acts ++ x ∷ [])) ≡ after_row_calls (calls_of_act code b (c (length acts)) (Some x)) (told_at code b c acts (length acts))
  told_more = ap (told_at code b c (acts ++ x ∷ [])) (length_more acts x)
      ∙ ap (after_row_calls (calls_of_act code b (c (length acts)) (slice_get (acts ++ x ∷ []) (length acts)))) (told_before (length acts) (omega arith))
      ∙ ap (λ o. after_row_calls (calls_of_act code b (c (length acts)) o) (told_at code b c acts (length acts))) (get_last acts x)

last_is : (acts : List Act) (x : Act) → last_mover (acts ++ x ∷ []) ≡ mover (Some x)
last_is [] x = refl
last_is (y ∷ []) x = refl
last_is (y ∷ z ∷ acts) x = last_is (z ∷ acts) x

-- ---- a turn

module _ {C S : Type 0} {G : Ghosts C} (code : Code S) (meant : JThread C → ThreadState S) (b : Bounds) (old new : TracedRun C G) (t : ℕ) (turn : ToldTurn)
    (rows : (s : RowsTold) → AreRowsTold old.rows s → AreRowsTold new.rows (after_row_calls (calls_of_turn t turn) s))
    (last : new.last ≡ (if is_act turn then t else old.last))
    (core : Core S) (begins : IsBeginning core) (r : Progress S) (are : AreActs code b core r) (place : IsTracedPlace code meant b core old r) where
  -- what is so of the rows, and of the thread of the last act, at the next place
  record IsAfter (next : Progress S) : Type 0 where
    moved : new.last ≡ last_mover next.acts
    told_rows : AreRowsOfActs code b core next.acts new.rows
    counted : (c : ℕ → Core S) → c 0 ≡ core → ActFrom code b c 0 next.acts → next.shown ≡ length (told_at code b c next.acts (length next.acts)).items

  stays_after : (next : Progress S) → next ≡ r → is_act turn ≡ false → calls_of_turn t turn ≡ [] → IsAfter next
  stays_after next same none silent = subst IsAfter (sym same) (record {
    moved = last ∙ ap (λ acts. if acts then t else old.last) none ∙ place.mover;
    told_rows = λ c first leads. subst (λ calls. AreRowsTold new.rows (after_row_calls calls (told_at code b c r.acts (length r.acts)))) silent (rows _ (place.rows c first leads));
    counted = place.shown;
  })

  -- the next place has an act more, and as many items more as that act adds
  goes_after : (next : Progress S) (x : Act) (n : ℕ) → next.acts ≡ r.acts ++ x ∷ [] → next.shown ≡ r.shown + n → mover (Some x) ≡ t → is_act turn ≡ true → calls_of_act code b r.core (Some x) ≡ calls_of_turn t turn
      → ((s : RowsTold) → length (after_row_calls (calls_of_turn t turn) s).items ≡ length s.items + n) → IsAfter next
  goes_after next x n acts more its made tells adds = record {
    moved = last ∙ ap (λ acts. if acts then t else old.last) made ∙ sym its ∙ sym (last_is r.acts x) ∙ ap last_mover (sym acts);
    told_rows = λ c first leads. let one = with_act c first (subst (ActFrom code b c 0) acts leads) in
        subst (λ all. AreRowsTold new.rows (told_at code b c all (length all))) (sym acts) (subst (AreRowsTold new.rows) (sym (one.1)) (rows _ (place.rows c first one.0)));
    counted = λ c first leads. let one = with_act c first (subst (ActFrom code b c 0) acts leads) in
        more ∙ ap (λ k. k + n) (place.shown c first one.0) ∙ sym (adds _) ∙ ap (λ (s : RowsTold). length s.items) (sym one.1)
        ∙ ap (λ all. length (told_at code b c all (length all)).items) (sym acts);
  }
    where
      with_act : (c : ℕ → Core S) → c 0 ≡ core → ActFrom code b c 0 (r.acts ++ x ∷ [])
          → ActFrom code b c 0 r.acts × (told_at code b c (r.acts ++ x ∷ []) (length (r.acts ++ x ∷ [])) ≡ after_row_calls (calls_of_turn t turn) (told_at code b c r.acts (length r.acts)))
      with_act c first leads =
          let so : ActFrom code b c 0 r.acts = all_but_last code b c x r.acts 0 leads in (
            so,
            told_more code b c r.acts x ∙ ap (λ here. after_row_calls (calls_of_act code b here (Some x)) (told_at code b c r.acts (length r.acts))) (leads_there code b core r are c first so)
                ∙ ap (λ calls. after_row_calls calls (told_at code b c r.acts (length r.acts))) tells,
          )

  no_act : turn.kind ≡ 0 → (end : TurnEnd) → turn.end ≡ end → is_act (record turn { kind = 0; end = end }) ≡ false → is_act turn ≡ false
  no_act kind end is none = ap (λ k. is_act (record turn { kind = k })) kind ∙ ap (λ e. is_act (record turn { kind = 0; end = e })) is ∙ none

  quiet_after : (next : Progress S) (th : ThreadState S) (o : Option S) → GivesQuiet r t th o turn.end next → ShowsNoStep turn → IsAfter next
  quiet_after next th None (is, same) shows = stays_after next same (no_act shows.kind _ is refl) (no_step_tells t turn shows)
  quiet_after next th (Some l) (is, same) shows = goes_after next (quiet t) 0 (ap (λ (p : Progress S). p.acts) same) (ap (λ (p : Progress S). p.shown) same ∙ plus_none r.shown) refl
      (ap (λ k. is_act (record turn { kind = k })) shows.kind ∙ ap (λ e. is_act (record turn { kind = 0; end = e })) is) (sym (no_step_tells t turn shows))
      (λ s. ap (λ calls. length (after_row_calls calls s).items) (no_step_tells t turn shows) ∙ plus_none (length s.items))
    where
      plus_none : (n : ℕ) → n ≡ n + 0
      plus_none n = omega arith

  some_kind : (step : Step) → is_act (record turn { kind = kind_of step }) ≡ true
  some_kind (MarkUndone q v) = refl
  some_kind step = refl

  step_after : (next : Progress S) (th : ThreadState S) (step : Step) → r.core.threads t ≡ Some th → next_move code b th ≡ Make step → GivesBy code b r t th (Make step) turn.end next
      → ShowsStep code b t th turn step (answer_of r.core.words step) → IsAfter next
  step_after next th step there makes (is, same) shows =
      let tells : calls_of_act code b r.core (Some (did t step (answer_of r.core.words step))) ≡ calls_of_turn t turn =
      ap (λ o. calls_of_step code b t step (answer_of r.core.words step) o) there ∙ sym (step_tells code b t th turn step (answer_of r.core.words step) shows) in
      goes_after next (did t step (answer_of r.core.words step)) (counts_for step (told code b th step (answer_of r.core.words step))) (ap (λ (p : Progress S). p.acts) same) (ap (λ (p : Progress S). p.shown) same) refl
      (ap (λ k. is_act (record turn { kind = k })) shows.kind ∙ some_kind step) tells
      (λ s. ap (λ calls. length (after_row_calls calls s).items) (step_tells code b t th turn step (answer_of r.core.words step) shows)
      ∙ step_adds code b r.core.words t th step (thread_fits code b core r begins are t th there) makes r.core s)

  move_after : (next : Progress S) (th : ThreadState S) (move : Move) → r.core.threads t ≡ Some th → next_move code b th ≡ move → GivesBy code b r t th move turn.end next → ShowsMove code b r.core.words t th turn move → IsAfter next
  move_after next th Over there makes (is, same) shows = stays_after next same (no_act shows.kind _ is refl) (no_step_tells t turn shows)
  move_after next th (Stop limit) there makes (is, same) shows = stays_after next same (no_act shows.kind _ is refl) (no_step_tells t turn shows)
  move_after next th Quiet there makes gives shows = quiet_after next th (quiet_step code th.local) gives shows
  move_after next th (Make step) there makes gives shows = step_after next th step there makes gives shows

  turn_after : (next : Progress S) → (word_turns code b).gives r t turn.end next → ShowsTurn code b r.core t turn → IsAfter next
  turn_after next (th, there, gives) shows =
      let same : shows.thread ≡ th = same_Some shows.thread th (sym shows.there ∙ there) in
      move_after next th (next_move code b th) there refl gives (subst (λ x. ShowsMove code b r.core.words t x turn (next_move code b x)) same shows.shows)

  pub turn_leads : TellsTurn code meant b old.machine.words old.machine.seats.places.items t turn new.machine.words new.machine.seats.places.items
      → new.opened ≡ old.opened + opens_by turn.end → new.undone ≡ old.undone + undoes_by turn.end
      → (next : Progress S) × (word_turns code b).gives r t turn.end next × IsTracedPlace code meant b core new next
  turn_leads tells opened undone =
      let given = tells r place.now in
      let next = given.0 in
      let counts = turns_count code b r t turn.end next given.1 in
      let after = turn_after next given.1 given.3 in (
        next,
        given.1,
        record {
          now = given.2;
          keeps = counts.keeps ∙ place.keeps;
          opens = opened ∙ ap (λ n. n + opens_by turn.end) place.opens ∙ sym counts.opened;
          undoes = undone ∙ ap (λ n. n + undoes_by turn.end) place.undoes ∙ sym counts.undone;
          mover = after.moved;
          rows = after.told_rows;
          shown = after.counted;
        },
      )

-- what is left of the schedule is no part of a place
pub gives_left : {C S : Type 0} {G : Ghosts C} (code : Code S) (meant : JThread C → ThreadState S) (b : Bounds) (old new : TracedRun C G) (t : ℕ) (comes : TurnEnd) (left : Rest)
    → GivesTraced code meant b old t comes new → GivesTraced code meant b old t comes (record new { rest = left })
gives_left code meant b old new t comes left gives = λ core begins r are place.
    let given = gives core begins r are place in (
      given.0,
      given.1,
      record { now = given.2.now; keeps = given.2.keeps; opens = given.2.opens; undoes = given.2.undoes; mover = given.2.mover; rows = given.2.rows; shown = given.2.shown },
    )

-- nor is room for the threads that can go on
pub same_place : {C S : Type 0} {G : Ghosts C} (code : Code S) (meant : JThread C → ThreadState S) (b : Bounds) (core : Core S) (w : TracedRun C G) (r : Progress S) (left : Rest) (enabled : _)
    → IsTracedPlace code meant b core w r → IsTracedPlace code meant b core (record w { rest = left; enabled = enabled }) r
same_place code meant b core w r left enabled place =
    record { now = place.now; keeps = place.keeps; opens = place.opens; undoes = place.undoes; mover = place.mover; rows = place.rows; shown = place.shown }

-- where levels were marked as undone fewer than 255 are open
module _ {S : Type 0} (code : Code S) (b : Bounds) (core : Core S) (begins : IsBeginning core) (r : Progress S) (are : AreActs code b core r) (t : ℕ) (turn : ToldTurn) where
  is_mark : (step : Step) → kind_of step ≡ 10 → (q : ℕ) × (v : ℕ) × (step ≡ MarkUndone q v)
  is_mark (MarkUndone q v) is = (q, v, refl)
  is_mark step is = absurd (cc)

  move_low : (th : ThreadState S) (move : Move) → r.core.threads t ≡ Some th → next_move code b th ≡ move → ShowsMove code b r.core.words t th turn move → turn.kind ≡ 10 → turn.levels_after < 255
  move_low th (Make step) there makes shows is =
      let mark = is_mark step (sym shows.kind ∙ is) in
      subst (λ n. n < 255) (sym shows.after) (marked_low code b r.core.words t th step (thread_fits code b core r begins are t th there) makes mark.0 mark.1 mark.2)
  move_low th Over there makes shows is = let zero_is : turn.kind ≡ 0 = shows.kind in absurd (omega (arith, zero_is, is))
  move_low th Quiet there makes shows is = let zero_is : turn.kind ≡ 0 = shows.kind in absurd (omega (arith, zero_is, is))
  move_low th (Stop limit) there makes shows is = let zero_is : turn.kind ≡ 0 = shows.kind in absurd (omega (arith, zero_is, is))

  pub undone_low : ShowsTurn code b r.core t turn → turn.kind ≡ 10 → turn.levels_after < 255
  undone_low shows is = move_low shows.thread (next_move code b shows.thread) shows.there refl shows.shows is
