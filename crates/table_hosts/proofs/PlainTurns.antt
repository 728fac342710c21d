-- Plain turns of a slice.
use Rattle.std.proofs.Common.{◌≡◌, ℕ, zero, suc, ◌+◌, ◌≤◌, ◌<◌, ◌&&◌, Bool, true, false, None, Some, List, [], ◌∷◌, ◌++◌, length, refl, sym, ◌∙◌, ap, subst, inl, arith, append-nil}
use Rattle.std.specs.Prelude.{Contains}
use Rattle.std.proofs.lemmas.Bool.{true≢false}
use Rattle.op_core.specs.ThreadCode.{Code, quiet_step}
use Rattle.op_core.specs.declared.Next.{Next}
use Rattle.op_core.specs.declared.Next.TheVariants.{Silent, Want, Ended}
use Rattle.step_port.specs.declared.answer.StepAnswer.{StepAnswer}
use Rattle.step_port.specs.declared.step.Step.{Step}
use Rattle.step_port.specs.declared.step.Step.TheVariants.{LoadWord, SwapWord}
use Rattle.step_port.specs.Steps.{effect_of}
use Rattle.step_port.specs.Words.{CanAnswer}
use Rattle.thread_automaton.specs.declared.Bounds.{Bounds}
use Rattle.thread_automaton.specs.declared.Move.{Move}
use Rattle.thread_automaton.specs.declared.Move.TheVariants.{Quiet, Make}
use Rattle.thread_automaton.specs.ThreadState.{ThreadState}
use Rattle.thread_automaton.specs.NextMove.{next_move}
use Rattle.thread_automaton.specs.Told.{Told, probed, advanced, born, lost, blocked, told, after_answer, after_quiet}
use Rattle.thread_moves.specs.Thread.{thread_of}
use Rattle.thread_moves.specs.declared.thread.JThread.{JThread}
use Rattle.rollback_core.specs.Turn.{event_of, SaysPlainly, Says, Turned}
use Rattle.rollback_core.specs.declared.turned.Turn.{Turn}
use Rattle.turn_runs.specs.Turns as runs
use Rattle.turn_runs.specs.Turns.{TurnMove, silent, made, CanTurn}
use Rattle.port_turns.specs.Plain.{is_word_step, leaves_free, ArePlain, PlainTurns, CanGoOn}
use Rattle.section_laws.specs.NextSteps.{step_made}
use Rattle.table_words.specs.declared.setup.Setup.{Setup}
use Rattle.table_words.specs.declared.setup.ThreadPart.{ThreadPart}
use Rattle.table_words.specs.declared.seat.TableSeat.{TableSeat}
use Rattle.table_words.specs.declared.table.TableWords.{TableWords}
use Rattle.table_words.specs.declared.port.TablePort.{TablePort}
use Rattle.table_words.specs.Setups.{setup_bounds}
use Rattle.table_words.specs.Parts.{part_after, IsPartInRun}
use Rattle.table_words.specs.Plays.{SeatMayMake}
use Rattle.table_words.specs.Ports.{port_setup, port_view, MayStepAt, SteppedAt}
use Rattle.table_words.specs.Tables.{setup_in, parts_of_seat}
use Rattle.table_words.specs.Views.{first_after, FirstIsInRun}
use Rattle.table_words.specs.Ends.{handed_after, handed_numbers}
use Rattle.table_hosts.specs.declared.seated.SeatedThread.{SeatedThread}
use Rattle.table_hosts.specs.declared.tally.Pace.{Pace}
use Rattle.table_hosts.specs.declared.tally.Tally.{Tally}
use Rattle.table_hosts.specs.Standing.{ThreadsCanGoOn, IsAfterSteps, StandsAtView}
use Rattle.table_hosts.specs.Families.{Begot}
use Rattle.table_hosts.specs.Seated.{parts_of_threads}
use Rattle.table_hosts.specs.Turns.{goes_on, TakesTurn, TookTurn, TookTurns}
use Rattle.table_hosts.specs.Tallies.{opened_by, undone_by, opened_in_parts, undone_in_parts, tally_after_plain, TookPlainly, IsTallyOf, IsWithin}
use Rattle.table_hosts.proofs.Turns.{step_after, quiet_after, can_now, allowed, names_in}
use Rattle.table_hosts.proofs.Begetting.{begot_same, begot_join, begot_grown}
use Rattle.table_hosts.proofs.SliceSteps.{HasCome}

pub within_plain : (n m : ℕ) (before : Tally) → IsWithin n before → (turns counted : ℕ) → n + turns ≤ m → counted ≤ turns → (after : Tally) → after ≡ tally_after_plain before turns counted → IsWithin m after
within_plain n m before few turns counted most less after is = subst (IsWithin m) (sym is) (by_turns turns most less)
  where
    by_turns : (turns : ℕ) → n + turns ≤ m → counted ≤ turns → IsWithin m (tally_after_plain before turns counted)
    by_turns zero most less = (omega (arith, few.0, most), omega (arith, few.1, most), omega (arith, few.2, most), omega (arith, few.3, most))
    by_turns (suc t) most less = (omega (arith, few.0, most, less), omega arith, omega (arith, few.2, most), omega (arith, few.3, most))

-- ---- what a step on a word of an object doesn't do

opens_none : (step : Step) → is_word_step step ≡ true → opened_by step ≡ 0
opens_none (LoadWord at) is = refl
opens_none (SwapWord at old new) is = refl
opens_none step is = absurd (true≢false (sym is))

undoes_none : (step : Step) → is_word_step step ≡ true → undone_by step ≡ 0
undoes_none (LoadWord at) is = refl
undoes_none (SwapWord at old new) is = refl
undoes_none step is = absurd (true≢false (sym is))

hands_none : (step : Step) (ns : List ℕ) → is_word_step step ≡ true → handed_after step ns ≡ ns
hands_none (LoadWord at) ns is = refl
hands_none (SwapWord at old new) ns is = refl
hands_none step ns is = absurd (true≢false (sym is))

both_of : (t u : Bool) → (t && u) ≡ true → (t ≡ true) × (u ≡ true)
both_of true u is = (refl, is)
both_of false u is = absurd (true≢false (sym is))

-- ---- what a turn says

module _ (C : Type 0) where
  abbrev said : Told → ℕ → ℕ → Next → Turn C (TableSeat C)
  said probed number silents next = Turn.Probed
  said born number silents next = Turn.Probed
  said (blocked why) number silents next = Turn.Probed
  said (lost v) number silents next = Turn.Lost v
  said (advanced None) number silents next = Turn.Advanced None
  said (advanced (Some reply)) number silents (Want op) = Turn.Advanced (Some (event_of number silents op reply))
  said (advanced (Some reply)) number silents next = Turn.Advanced None

  says_plainly : (tells : Told) (number silents : ℕ) (next : Next) → leaves_free tells ≡ true → SaysPlainly number silents next (said tells number silents next) tells
  says_plainly probed number silents next is = refl
  says_plainly (advanced None) number silents Silent is = refl
  says_plainly (advanced None) number silents Ended is = refl
  says_plainly (advanced None) number silents (Want op) is = refl
  says_plainly (advanced (Some reply)) number silents (Want op) is = refl
  says_plainly (advanced (Some reply)) number silents Silent is = refl
  says_plainly (advanced (Some reply)) number silents Ended is = refl
  says_plainly (lost v) number silents next is = refl
  says_plainly (blocked why) number silents next is = absurd (true≢false (sym is))
  says_plainly born number silents next is = absurd (true≢false (sym is))

  more_follow_it : (tells : Told) (number silents : ℕ) (next : Next) → leaves_free tells ≡ true → goes_on Pace.WhileFree (said tells number silents next) ≡ true
  more_follow_it probed number silents next is = refl
  more_follow_it (advanced None) number silents next is = refl
  more_follow_it (advanced (Some reply)) number silents (Want op) is = refl
  more_follow_it (advanced (Some reply)) number silents Silent is = refl
  more_follow_it (advanced (Some reply)) number silents Ended is = refl
  more_follow_it (lost v) number silents next is = refl
  more_follow_it (blocked why) number silents next is = absurd (true≢false (sym is))
  more_follow_it born number silents next is = absurd (true≢false (sym is))

  says_so : {S : Type 0} (meant : JThread C → ThreadState S) (code : Code S) (b : Bounds) (th : ThreadState S) (step : Step) (handed : TableSeat C → Type 0) (tells : Told) → leaves_free tells ≡ true
      → Says meant code b th step handed (said tells th.number th.silents (code.next th.local)) tells
  says_so meant code b th step handed probed is = refl
  says_so meant code b th step handed (advanced reply) is = says_plainly (advanced reply) th.number th.silents (code.next th.local) is
  says_so meant code b th step handed (lost v) is = says_plainly (lost v) th.number th.silents (code.next th.local) is
  says_so meant code b th step handed (blocked why) is = absurd (true≢false (sym is))
  says_so meant code b th step handed born is = absurd (true≢false (sym is))

-- ---- where plain turns lead

module _ {C S : Type 0} (state : C → S) (saved : C → List S) (code : Code S) (table : TableWords C) where
  abbrev k : Setup C
  k = setup_in table

  -- the thread is where the part of the port's seat says, and the port is one of the table
  record IsBy (th : ThreadState S) (x : TablePort C) : Type 0 where
    same : x.table.now ≡ table
    part : ThreadPart C
    one : port_view x ≡ part ∷ []
    in_run : IsPartInRun state code k part
    after : IsAfterSteps state code k part th

  setup_is : (x : TablePort C) → x.table.now ≡ table → port_setup x ≡ k
  setup_is x same = ap setup_in same

  grown_by : (th : ThreadState S) (x z : TablePort C) (by : IsBy th x) (step : Step) (a : StepAnswer) → SteppedAt state code x step a z → port_view z ≡ part_after by.part (step_made step a) ∷ []
  grown_by th x z by step a stepped = stepped.grown ∙ ap (λ v. first_after v (step_made step a)) by.one

  by_step : (th : ThreadState S) (x z : TablePort C) (by : IsBy th x) (step : Step) (a : StepAnswer) → next_move code (setup_bounds k) th ≡ Make step → SteppedAt state code x step a z
      → IsBy (after_answer code (setup_bounds k) th step a) z
  by_step th x z by step a makes stepped = record {
    same = stepped.table ∙ by.same;
    part = part_after by.part (step_made step a);
    one = grown_by th x z by step a stepped;
    in_run = subst (FirstIsInRun state code k) (grown_by th x z by step a stepped)
        (subst (λ (j : Setup C). FirstIsInRun state code j (port_view z)) (setup_is x by.same) stepped.in_run);
    after = step_after state code k by.part th by.after by.in_run step a makes;
  }

  by_silent : (th : ThreadState S) (x : TablePort C) (by : IsBy th x) (l : S) → next_move code (setup_bounds k) th ≡ Quiet → quiet_step code th.local ≡ Some l → IsBy (after_quiet th l) x
  by_silent th x by l move steps = record {
    same = by.same;
    part = by.part;
    one = by.one;
    in_run = by.in_run;
    after = quiet_after state code k by.part th by.after l move steps;
  }

  by_turns : (moves : List TurnMove) (th last : ThreadState S) (x y : TablePort C) → runs.Turns code (setup_bounds k) (SteppedAt state code) th x moves last y → IsBy th x → IsBy last y
  by_turns [] th last x y (same, port) by = subst (λ z. IsBy last z) (sym port) (subst (λ o. IsBy o x) (sym same) by)
  by_turns (silent ∷ moves) th last x y (l, is, steps, turns) by = by_turns moves (after_quiet th l) last x y turns (by_silent th x by l is steps)
  by_turns (made next step answer tells ∷ moves) th last x y (z, wants, is, stepped_to, can, tells_is, turns) by =
      by_turns moves (after_answer code (setup_bounds k) th step answer) last z y turns (by_step th x z by step answer is stepped_to)

  can_turn : ThreadsCanGoOn state code k → (th : ThreadState S) (x : TablePort C) → IsBy th x → th.over ≡ false → CanTurn code (setup_bounds k) (MayStepAt state code) (SteppedAt state code) th x
  can_turn can th x by going = record {
    range = (can_now state code k by.part th by.after by.in_run can going).asked;
    allowed = λ step makes.
        subst (λ (j : Setup C). SeatMayMake state code j (port_view x) step) (sym (setup_is x by.same))
        (subst (λ v. SeatMayMake state code k v step) (sym by.one) (allowed state code k by.part th by.after by.in_run can going step makes));
    names = λ step a y makes stepped.
        names_in state code k by.part th by.after can going step a makes
        (subst (FirstIsInRun state code k) (grown_by th x y by step a stepped)
        (subst (λ (j : Setup C). FirstIsInRun state code j (port_view y)) (setup_is x by.same) stepped.in_run));
  }

  can_go_on : ThreadsCanGoOn state code k → (th : ThreadState S) (x : TablePort C) → IsBy th x → CanGoOn code (setup_bounds k) (MayStepAt state code) (SteppedAt state code) th x
  can_go_on can th x by = λ moves last y turns going. can_turn can last y (by_turns moves th last x y turns by) going

  -- ---- as turns of a slice

  takes_silent : (th : ThreadState S) (v : List (ThreadPart C)) (l : S) → next_move code (setup_bounds k) th ≡ Quiet → quiet_step code th.local ≡ Some l → TakesTurn state saved code k th v (after_quiet th l) v Turn.Silent
  takes_silent th v l is steps = subst (λ (m : Move). Turned {Pass = TableSeat C} (thread_of state saved) code (setup_bounds k) th (after_quiet th l) (λ step a. v ≡ first_after v (step_made step a)) (λ step pass. Unit {0}) (v ≡ v) Turn.Silent m) (sym is)
      (refl, inl (record { local = l; quiet = steps; goes = refl; says = refl }))

  takes_step : (th : ThreadState S) (v w : List (ThreadPart C)) (step : Step) (a : StepAnswer) → next_move code (setup_bounds k) th ≡ Make step → CanAnswer (effect_of step) a
      → w ≡ first_after v (step_made step a) → leaves_free (told code (setup_bounds k) th step a) ≡ true
      → TakesTurn state saved code k th v (after_answer code (setup_bounds k) th step a) w (said C (told code (setup_bounds k) th step a) th.number th.silents (code.next th.local))
  takes_step th v w step a is can grown free =
      subst (λ (m : Move). Turned (thread_of state saved) code (setup_bounds k) th (after_answer code (setup_bounds k) th step a) (λ step a. w ≡ first_after v (step_made step a)) (λ step pass. Unit {0}) (w ≡ v)
      (said C (told code (setup_bounds k) th step a) th.number th.silents (code.next th.local)) m) (sym is)
      (record {
        answer = a;
        made = grown;
        kind = can;
        goes = refl;
        says = says_so C (thread_of state saved) code (setup_bounds k) th step (λ pass. Unit {0}) (told code (setup_bounds k) th step a) free;
      })

  -- what plain turns come to, so far
  record CameSo (n : ℕ) (th : ThreadState S) (x : TablePort C) (last : ThreadState S) (y : TablePort C) : Type 0 where
    by : IsBy last y
    took : TookPlainly state saved code k n th (port_view x) last (port_view y)
    begot : Begot (port_view x) (port_view y) []

  came_more : (n : ℕ) (th mid last : ThreadState S) (x y z : TablePort C) → CameSo n th x mid y → (turn : Turn C (TableSeat C)) → TakesTurn state saved code k mid (port_view y) last (port_view z) turn
      → goes_on Pace.WhileFree turn ≡ true → opened_in_parts (port_view z) ≡ opened_in_parts (port_view y) → undone_in_parts (port_view z) ≡ undone_in_parts (port_view y)
      → Begot (port_view y) (port_view z) [] → IsBy last z → CameSo (suc n) th x last z
  came_more n th mid last x y z came turn takes more opened undone begot by = record {
    by = by;
    took = record {
      took = (mid, port_view y, came.took.took, record { turn = turn; takes = takes; is = more });
      opened = opened ∙ came.took.opened;
      undone = undone ∙ came.took.undone;
    };
    begot = begot_join (port_view x) (port_view y) (port_view z) [] [] came.begot begot;
  }

  came_by : (moves : List TurnMove) (n : ℕ) (th mid last : ThreadState S) (x y z : TablePort C) → CameSo n th x mid y → runs.Turns code (setup_bounds k) (SteppedAt state code) mid y moves last z
      → ArePlain moves → CameSo (n + length moves) th x last z
  came_by [] n th mid last x y z came (same, port) plain =
      let none : n ≡ n + 0 = omega arith in
      subst (λ m. CameSo m th x last z) none (subst (λ y. CameSo n th x last y) (sym port) (subst (λ o. CameSo n th x o y) (sym same) came))
  came_by (silent ∷ moves) n th mid last x y z came (l, is, steps, turns) plain =
      let one_more : suc n + length moves ≡ n + suc (length moves) = omega arith in
      subst (λ m. CameSo m th x last z) one_more
      (came_by moves (suc n) th (after_quiet mid l) last x y z
      (came_more n th mid (after_quiet mid l) x y y came Turn.Silent (takes_silent mid (port_view y) l is steps) refl refl refl (begot_same (port_view y) (port_view y) [] refl) (by_silent mid y came.by l is steps))
      turns plain.1)
  came_by (made next step answer tells ∷ moves) n th mid last x y z came (u, wants, is, stepped_to, can, tells_is, turns) plain =
      let one_more : suc n + length moves ≡ n + suc (length moves) = omega arith in
      let both = both_of (is_word_step step) (leaves_free tells) plain.0 in
      let free : leaves_free (told code (setup_bounds k) mid step answer) ≡ true = subst (λ tells. leaves_free tells ≡ true) tells_is both.1 in
      let grown = grown_by mid y u came.by step answer stepped_to in
      let opens = opens_none step both.0 in
      let undoes = undoes_none step both.0 in
      let opened_is = ap (λ (v : List (ThreadPart C)). opened_in_parts v) grown in
      let opened_was = ap (λ (v : List (ThreadPart C)). opened_in_parts v) came.by.one in
      let undone_is = ap (λ (v : List (ThreadPart C)). undone_in_parts v) grown in
      let undone_was = ap (λ (v : List (ThreadPart C)). undone_in_parts v) came.by.one in
      subst (λ m. CameSo m th x last z) one_more
      (came_by moves (suc n) th (after_answer code (setup_bounds k) mid step answer) last x u z
      (came_more n th mid (after_answer code (setup_bounds k) mid step answer) x y u came
      (said C (told code (setup_bounds k) mid step answer) mid.number mid.silents (code.next mid.local))
      (takes_step mid (port_view y) (port_view u) step answer is can stepped_to.grown free)
      (more_follow_it C (told code (setup_bounds k) mid step answer) mid.number mid.silents (code.next mid.local) free)
      (omega (arith, opens, opened_is, opened_was)) (omega (arith, undoes, undone_is, undone_was))
      (subst (λ v. Begot v (port_view u) []) (sym came.by.one) (subst (λ v. Begot (came.by.part ∷ []) v []) (sym grown)
      (begot_grown came.by.part (step_made step answer) [] (λ m there. inl (subst (λ ns. Contains ns m) (hands_none step (handed_numbers came.by.part.steps) both.0) there)))))
      (by_step mid y u came.by step answer is stepped_to))
      turns plain.1)

  -- ---- of a thread in memory

  by_of : (t : JThread C) (x : TablePort C) → x.table.now ≡ table → StandsAtView state saved code k t (port_view x) → IsBy (thread_of state saved t) x
  by_of t x same st = record { same = same; part = st.part; one = st.one; in_run = st.in_run; after = st.after }

  pub can_run : ThreadsCanGoOn state code k → (t : JThread C) (x : TablePort C) → x.table.now ≡ table → StandsAtView state saved code k t (port_view x)
      → CanGoOn code t.own.bounds (MayStepAt state code) (SteppedAt state code) (thread_of state saved t) x
  can_run can t x same st = subst (λ (b : Bounds). CanGoOn code b (MayStepAt state code) (SteppedAt state code) (thread_of state saved t) x) (sym st.bounds) (can_go_on can (thread_of state saved t) x (by_of t x same st))

  pub record RanPlainly (n : ℕ) (t u : JThread C) (x y : TablePort C) : Type 0 where
    pub same : y.table.now ≡ table
    pub stands : StandsAtView state saved code k u (port_view y)
    pub took : TookPlainly state saved code k n (thread_of state saved t) (port_view x) (thread_of state saved u) (port_view y)
    pub begot : Begot (port_view x) (port_view y) []

  pub ran_plainly : (t u : JThread C) (x y : TablePort C) (j n l : ℕ) → x.table.now ≡ table → StandsAtView state saved code k t (port_view x) → u.own.bounds ≡ t.own.bounds
      → PlainTurns code t.own.bounds (SteppedAt state code) (thread_of state saved t) x j n (thread_of state saved u) y l → RanPlainly n t u x y
  ran_plainly t u x y j n l same st bounds plain =
      let start : CameSo 0 (thread_of state saved t) x (thread_of state saved t) x = record {
        by = by_of t x same st;
        took = record { took = (refl, refl); opened = refl; undone = refl };
        begot = begot_same (port_view x) (port_view x) [] refl;
      } in
      let count = plain.count in
      let all : 0 + length plain.moves ≡ n = omega (arith, count) in
      let came = came_by plain.moves 0 (thread_of state saved t) (thread_of state saved t) (thread_of state saved u) x x y start
      (subst (λ (b : Bounds). runs.Turns code b (SteppedAt state code) (thread_of state saved t) x plain.moves (thread_of state saved u) y) st.bounds plain.turns) plain.plain in
      record {
        same = came.by.same;
        stands = record { part = came.by.part; one = came.by.one; in_run = came.by.in_run; after = came.by.after; bounds = bounds ∙ st.bounds };
        took = subst (λ m. TookPlainly state saved code k m (thread_of state saved t) (port_view x) (thread_of state saved u) (port_view y)) all came.took;
        begot = came.begot;
      }

-- ---- in a slice

module _ {C S : Type 0} (state : C → S) (saved : C → List S) (code : Code S) (k : Setup C) where
  took_more : (pace : Pace) (m n i : ℕ) → i ≡ n + m → (th : ThreadState S) (v : List (ThreadPart C)) (last : ThreadState S) (u : List (ThreadPart C)) (next : ThreadState S) (w : List (ThreadPart C))
      → TookTurns state saved code k (λ turn. goes_on pace turn ≡ true) m th v last u → TookTurns state saved code k (λ turn. goes_on pace turn ≡ true) n last u next w
      → TookTurns state saved code k (λ turn. goes_on pace turn ≡ true) i th v next w
  took_more pace m zero i is th v last u next w took (same, parts) =
      let none : m ≡ i = omega (arith, is) in
      subst (λ (j : ℕ). TookTurns state saved code k (λ turn. goes_on pace turn ≡ true) j th v next w) none
      (subst (λ (x : ThreadState S). TookTurns state saved code k (λ turn. goes_on pace turn ≡ true) m th v x w) (sym same)
      (subst (λ (x : List (ThreadPart C)). TookTurns state saved code k (λ turn. goes_on pace turn ≡ true) m th v last x) (sym parts) took))
  took_more pace m (suc n) zero is th v last u next w took turns = absurd (no is)
    where
      no : 0 ≡ suc n + m → ⊥
      no is = omega (arith, is)
  took_more pace m (suc n) (suc i) is th v last u next w took (before, mid, turns, one) =
      (before, mid, took_more pace m n i (omega (arith, is)) th v last u before mid took turns, one)

  -- so they are at each pace at which there are some
  took_at_pace : (pace : Pace) (m n : ℕ) → (0 < n → pace ≡ Pace.WhileFree) → (th : ThreadState S) (v : List (ThreadPart C)) (last : ThreadState S) (u : List (ThreadPart C)) (next : ThreadState S) (w : List (ThreadPart C))
      → TookTurns state saved code k (λ turn. goes_on pace turn ≡ true) m th v last u → TookPlainly state saved code k n last u next w
      → TookTurns state saved code k (λ turn. goes_on pace turn ≡ true) (m + n) th v next w
  took_at_pace pace m n free th v last u next w took plainly = by_number n (m + n) (omega arith) free plainly.took
    where
      by_number : (n i : ℕ) → i ≡ n + m → (0 < n → pace ≡ Pace.WhileFree) → TookTurns state saved code k (λ turn. goes_on Pace.WhileFree turn ≡ true) n last u next w
          → TookTurns state saved code k (λ turn. goes_on pace turn ≡ true) i th v next w
      by_number zero i is free none = took_more pace m zero i is th v last u next w took none
      by_number (suc n) i is free turns =
          took_more pace m (suc n) i is th v last u next w took
          (subst (λ (p : Pace). TookTurns state saved code k (λ turn. goes_on p turn ≡ true) (suc n) last u next w) (sym (free (omega arith))) turns)

  tallied_plain : (th : ThreadState S) (v : List (ThreadPart C)) (last : ThreadState S) (u : List (ThreadPart C)) (next : ThreadState S) (w : List (ThreadPart C)) (tally : Tally) (n counted : ℕ)
      → IsTallyOf state saved code k th v last u tally → TookPlainly state saved code k n last u next w → next.counted ≡ last.counted + counted
      → IsTallyOf state saved code k th v next w (tally_after_plain tally n counted)
  tallied_plain th v last u next w tally zero counted before plainly counts =
      subst (λ (x : ThreadState S). IsTallyOf state saved code k th v x w tally) (sym plainly.took.0)
      (subst (λ (x : List (ThreadPart C)). IsTallyOf state saved code k th v last x tally) (sym plainly.took.1) before)
  tallied_plain th v last u next w tally (suc n) counted before plainly counts = record {
    counted = let so = before.counted in omega (arith, counts, so);
    idle = (next, w, (refl, refl));
    opened = plainly.opened ∙ before.opened;
    undone = plainly.undone ∙ before.undone;
    limit = tt;
  }

module _ {C S : Type 0} (state : C → S) (saved : C → List S) (code : Code S) (table : TableWords C) (seated : SeatedThread C) where
  -- the slice so far, and plain turns
  come_plain : (x y : JThread C) (v w : List (ThreadPart C)) (children : List (SeatedThread C)) (tally after : Tally) (n counted : ℕ) → HasCome state saved code table seated x v children tally
      → StandsAtView state saved code (setup_in table) y w → Begot v w [] → TookPlainly state saved code (setup_in table) n (thread_of state saved x) v (thread_of state saved y) w
      → y.own.counted ≡ x.own.counted + counted → after ≡ tally_after_plain tally n counted → HasCome state saved code table seated y w children after
  come_plain x y v w children tally after n counted come stands begot took counts is = record {
    stands = stands;
    begin = come.begin;
    begot = subst (Begot (parts_of_seat seated.seat) w) (append-nil (parts_of_threads children)) (begot_join (parts_of_seat seated.seat) v w (parts_of_threads children) [] come.begot begot);
    tallies = subst (IsTallyOf state saved code (setup_in table) (thread_of state saved seated.thread) (parts_of_seat seated.seat) (thread_of state saved y) w) (sym is)
        (tallied_plain state saved code (setup_in table) (thread_of state saved seated.thread) (parts_of_seat seated.seat) (thread_of state saved x) v (thread_of state saved y) w tally n counted
        come.tallies took counts);
  }

-- ---- .. of a port whose table's program is the same

pub took_in_setup : {C S : Type 0} (state : C → S) (saved : C → List S) (code : Code S) (j k : Setup C) → j ≡ k → (pace : Pace) (m n : ℕ) → (0 < n → pace ≡ Pace.WhileFree) → (th : ThreadState S) (v : List (ThreadPart C))
    (last : ThreadState S) (u : List (ThreadPart C)) (next : ThreadState S) (w : List (ThreadPart C)) → TookTurns state saved code k (λ turn. goes_on pace turn ≡ true) m th v last u
    → TookPlainly state saved code j n last u next w → TookTurns state saved code k (λ turn. goes_on pace turn ≡ true) (m + n) th v next w
took_in_setup {C = C} state saved code j k is pace m n free th v last u next w took plainly =
    took_at_pace state saved code k pace m n free th v last u next w took (subst (λ (i : Setup C). TookPlainly state saved code i n last u next w) is plainly)

pub come_in_slice : {C S : Type 0} (state : C → S) (saved : C → List S) (code : Code S) (table : TableWords C) (seated : SeatedThread C) (x y : JThread C) (v w : List (ThreadPart C))
    (children : List (SeatedThread C)) (tally after : Tally) (n counted : ℕ) (j : Setup C) → j ≡ setup_in table → HasCome state saved code table seated x v children tally
    → StandsAtView state saved code j y w → Begot v w [] → TookPlainly state saved code j n (thread_of state saved x) v (thread_of state saved y) w
    → y.own.counted ≡ x.own.counted + counted → after ≡ tally_after_plain tally n counted → HasCome state saved code table seated y w children after
come_in_slice {C = C} state saved code table seated x y v w children tally after n counted j is come stands begot took counts same =
    come_plain state saved code table seated x y v w children tally after n counted come (subst (λ (i : Setup C). StandsAtView state saved code i y w) is stands) begot
    (subst (λ (i : Setup C). TookPlainly state saved code i n (thread_of state saved x) v (thread_of state saved y) w) is took) counts same
