-- What a turn makes of a thread and its seat.
use Rattle.std.proofs.Common.{◌≡◌, inl, inr, ℕ, Some, None, List, [], ◌∷◌, Result, Ok, Err, refl, sym, ◌∙◌, ap, subst}
use Rattle.std.specs.Prelude.{IfOk}
use Rattle.op_core.specs.ThreadCode.{Code}
use Rattle.op_core.specs.declared.Next.{Next}
use Rattle.op_core.specs.declared.Next.TheVariants.{Silent, Want, Ended}
use Rattle.step_port.specs.declared.answer.StepAnswer.{StepAnswer}
use Rattle.step_port.specs.declared.step.Step.{Step}
use Rattle.step_port.specs.declared.step.Step.TheVariants.{Split}
use Rattle.thread_automaton.specs.declared.Bounds.{Bounds}
use Rattle.thread_automaton.specs.declared.Move.{Move}
use Rattle.thread_automaton.specs.declared.Move.TheVariants.{Over, Quiet, Stop, Make}
use Rattle.thread_automaton.specs.ThreadState.{ThreadState, first_state}
use Rattle.thread_automaton.specs.NextMove.{next_move}
use Rattle.thread_automaton.specs.Told.{Told, probed, advanced, born, lost, blocked, told}
use Rattle.thread_moves.specs.Thread.{thread_of}
use Rattle.rollback_core.specs.Turn.{IsChild, SaysPlainly, Says, Turned}
use Rattle.thread_moves.specs.declared.thread.JThread.{JThread}
use Rattle.rollback_core.specs.declared.turned.Turn.{Turn}
use Rattle.section_laws.specs.NextSteps.{step_made}
use Rattle.table_words.specs.declared.setup.Setup.{Setup}
use Rattle.table_words.specs.declared.setup.ThreadPart.{ThreadPart}
use Rattle.table_words.specs.declared.seat.TableSeat.{TableSeat}
use Rattle.table_words.specs.declared.table.TableWords.{TableWords}
use Rattle.table_words.specs.Setups.{setup_bounds, first_birth}
use Rattle.table_words.specs.Parts.{fresh_part, part_after, local_at_birth, state_at_birth, IsPartInRun}
use Rattle.table_words.specs.Views.{born_by, FirstIsInRun}
use Rattle.table_words.specs.Tables.{setup_in, parts_of_seat, IsSeatOf}
use Rattle.table_words.proofs.Births.{at_front}
use Rattle.table_words.proofs.Growing.{nothing_yet}
use Rattle.table_hosts.specs.Standing.{IsAfterSteps, StandsAtView}
use Rattle.table_hosts.specs.Seated.{BornStandsOn}
use Rattle.table_hosts.proofs.Turns.{step_after, quiet_after}
use Rattle.table_hosts.proofs.Families.{fresh_no_steps}

pub if_ok : {A E : Type 0} {P Q : A → Type 0} → ((r : A) → P r → Q r) → (o : Result A E) → IfOk o P → IfOk o Q
if_ok f (Ok r) h = f r h
if_ok f (Err e) h = tt

module _ {C S : Type 0} (state : C → S) (saved : C → List S) (code : Code S) (k : Setup C) (p : ThreadPart C) (th : ThreadState S)
    (r : IsPartInRun state code k p) (after : IsAfterSteps state code k p th) where
  -- the seat's part after a turn, and the thread, which is then `next`
  pub record AfterTurn (next : ThreadState S) (v : List (ThreadPart C)) : Type 0 where
    pub part : ThreadPart C
    pub one : v ≡ part ∷ []
    pub in_run : IsPartInRun state code k part
    pub stands : IsAfterSteps state code k part next

  module _ (next : ThreadState S) (v : List (ThreadPart C)) {C' Pass : Type 0} (meant : JThread C' → ThreadState S) (stepped : Step → StepAnswer → Type 0) (handed : Step → Pass → Type 0) (still : Type 0)
      (grows : (step : Step) (a : StepAnswer) → stepped step a → (v ≡ part_after p (step_made step a) ∷ []) × FirstIsInRun state code k v) (stays : still → v ≡ p ∷ []) where
    unmoved : next ≡ th → still → AfterTurn next v
    unmoved same quiet = record { part = p; one = stays quiet; in_run = r; stands = subst (IsAfterSteps state code k p) (sym same) after }

    goes_by : (turn : Turn C' Pass) (move : Move) → next_move code (setup_bounds k) th ≡ move → Turned meant code (setup_bounds k) th next stepped handed still turn move → AfterTurn next v
    goes_by turn Over is (quiet, at) = unmoved at.thread quiet
    goes_by turn (Stop limit) is (quiet, at) = unmoved at.thread quiet
    goes_by turn Quiet is (quiet, inl silent) = record {
      part = p;
      one = stays quiet;
      in_run = r;
      stands = subst (IsAfterSteps state code k p) (sym silent.goes) (quiet_after state code k p th after silent.local is silent.quiet);
    }
    goes_by turn Quiet is (quiet, inr (frames, at)) = unmoved at.thread quiet
    goes_by turn (Make step) is at =
        let grown = grows step at.answer at.made in
        record {
          part = part_after p (step_made step at.answer);
          one = grown.0;
          in_run = subst (FirstIsInRun state code k) grown.0 grown.1;
          stands = subst (IsAfterSteps state code k (part_after p (step_made step at.answer))) (sym at.goes) (step_after state code k p th after r step at.answer is);
        }

    pub goes : (b : Bounds) → b ≡ setup_bounds k → (turn : Turn C' Pass) → Turned meant code b th next stepped handed still turn (next_move code b th) → AfterTurn next v
    goes b is turn turned = goes_by turn (next_move code (setup_bounds k) th) refl
        (subst (λ (d : Bounds). Turned meant code d th next stepped handed still turn (next_move code d th)) is turned)

-- ---- who is handed out

module _ {C S : Type 0} (state : C → S) (saved : C → List S) (code : Code S) (table : TableWords C) (th : ThreadState S) where
  abbrev k : Setup C
  k = setup_in table

  abbrev Stands : Turn C (TableSeat C) → Type 0
  Stands turn = BornStandsOn state saved code table turn

  plainly : (number silents : ℕ) (next : Next) (turn : Turn C (TableSeat C)) (tells : Told) → SaysPlainly number silents next turn tells → Stands turn
  plainly number silents next turn probed is = subst Stands (sym is) tt
  plainly number silents (Want op) turn (advanced (Some reply)) is = subst Stands (sym is) tt
  plainly number silents Silent turn (advanced (Some reply)) is = subst Stands (sym is) tt
  plainly number silents Ended turn (advanced (Some reply)) is = subst Stands (sym is) tt
  plainly number silents (Want op) turn (advanced None) is = subst Stands (sym is) tt
  plainly number silents Silent turn (advanced None) is = subst Stands (sym is) tt
  plainly number silents Ended turn (advanced None) is = subst Stands (sym is) tt
  plainly number silents next turn (lost v) is = subst Stands (sym is) tt
  plainly number silents next turn (blocked why) is = subst Stands (sym is) tt
  plainly number silents next turn born is = absurd is

  module _ (handed : Step → TableSeat C → Type 0) (given : (step : Step) (pass : TableSeat C) → handed step pass
      → IsSeatOf table pass × (parts_of_seat pass ≡ fresh_part k (born_by step) ∷ []) × FirstIsInRun state code k (parts_of_seat pass)) where
    abbrev BeginsSo : Step → Type 0
    BeginsSo step = (n r q : ℕ) → step ≡ Split n r q → code.child th.local r ≡ local_at_birth state code k (born_by (Split n r q))

    child_stands : (step : Step) → BeginsSo step → (child : JThread C) (pass : TableSeat C) → IsChild code th step (thread_of state saved child) → handed step pass
        → child.own.bounds ≡ setup_bounds k → StandsAtView state saved code k child (parts_of_seat pass)
    child_stands (Split n r q) begins child pass first passed bounds =
        let g = given (Split n r q) pass passed in
        record {
          part = fresh_part k (born_by (Split n r q));
          one = g.1;
          in_run = subst (FirstIsInRun state code k) g.1 g.2;
          after = record {
            last = state_at_birth state code k (born_by (Split n r q));
            own = refl;
            moves = 0;
            quietly = sym (first ∙ ap (λ l. first_state n q l) (begins n r q refl));
          };
          bounds = bounds;
        }
    child_stands step begins child pass first passed bounds = absurd first

    made_stands : (step : Step) → BeginsSo step → (turn : Turn C (TableSeat C)) (tells : Told) → Says (thread_of state saved) code (setup_bounds k) th step (handed step) turn tells → Stands turn
    made_stands step begins turn born says =
        let g = given step says.pass says.passed in
        subst Stands (sym says.says) (
          (g.0, child_stands step begins says.child.value says.pass says.first says.passed says.bounds),
          fresh_no_steps k (born_by step) (parts_of_seat says.pass) g.1,
        )
    made_stands step begins turn probed says = plainly th.number th.silents (code.next th.local) turn probed says
    made_stands step begins turn (advanced reply) says = plainly th.number th.silents (code.next th.local) turn (advanced reply) says
    made_stands step begins turn (lost v) says = plainly th.number th.silents (code.next th.local) turn (lost v) says
    made_stands step begins turn (blocked why) says = plainly th.number th.silents (code.next th.local) turn (blocked why) says

    module _ (next : ThreadState S) (stepped : Step → StepAnswer → Type 0) (still : Type 0) (begins : (step : Step) → next_move code (setup_bounds k) th ≡ Make step → BeginsSo step) where
      bears_by : (turn : Turn C (TableSeat C)) (move : Move) → next_move code (setup_bounds k) th ≡ move
          → Turned (thread_of state saved) code (setup_bounds k) th next stepped handed still turn move → Stands turn
      bears_by turn Over is (quiet, at) = subst Stands (sym at.says) tt
      bears_by turn (Stop limit) is (quiet, at) = subst Stands (sym at.says) tt
      bears_by turn Quiet is (quiet, inl silent) = subst Stands (sym silent.says) tt
      bears_by turn Quiet is (quiet, inr (frames, at)) = subst Stands (sym at.says) tt
      bears_by turn (Make step) is at = made_stands step (begins step is) turn (told code (setup_bounds k) th step at.answer) at.says

      pub bears : (b : Bounds) → b ≡ setup_bounds k → (turn : Turn C (TableSeat C)) → Turned (thread_of state saved) code b th next stepped handed still turn (next_move code b th) → Stands turn
      bears b is turn turned = bears_by turn (next_move code (setup_bounds k) th) refl
          (subst (λ (d : Bounds). Turned (thread_of state saved) code d th next stepped handed still turn (next_move code d th)) is turned)

-- ---- the first thread

pub first_stands : {C S : Type 0} (state : C → S) (saved : C → List S) (code : Code S) (k : Setup C) (x : JThread C) (v : List (ThreadPart C)) → v ≡ fresh_part k (first_birth k) ∷ []
    → thread_of state saved x ≡ first_state 1 5 (state k.code) → x.own.bounds ≡ setup_bounds k → StandsAtView state saved code k x v
first_stands state saved code k x v one first bounds = record {
  part = fresh_part k (first_birth k);
  one = one;
  in_run = record {
    run = [];
    is_run = record { words = tt; begun = tt; own = λ y there. nothing_yet state code k y };
    is_part = record { setup = refl; steps = refl; born = at_front (first_birth k) [] };
  };
  after = record { last = state_at_birth state code k (first_birth k); own = refl; moves = 0; quietly = sym first };
  bounds = bounds;
}

pub moved : {C S : Type 0} (state : C → S) (saved : C → List S) (code : Code S) (j k : Setup C) → j ≡ k → (x y : JThread C) → x ≡ y → (v w : List (ThreadPart C)) → v ≡ w
    → StandsAtView state saved code j x v → StandsAtView state saved code k y w
moved {C = C} {S = S} state saved code j k is x y same v w also stands =
    subst (λ (i : Setup C). StandsAtView state saved code i y w) is
    (subst (λ u. StandsAtView state saved code j y u) also (subst (λ (z : JThread C). StandsAtView state saved code j z v) same stands))
