-- What is counted of a turn is what its step and its report say.
use Rattle.std.proofs.Common.{◌≡◌, inl, inr, ℕ, ◌+◌, Bool, true, false, Option, None, Some, List, [], ◌∷◌, refl, sym, ◌∙◌, ap, subst, arith}
use Rattle.std.specs.Prelude.{nat_eq, if◌then◌else◌, IfSome}
use Rattle.op_core.specs.declared.Limit.{Limit}
use Rattle.op_core.specs.declared.Next.{Next}
use Rattle.op_core.specs.declared.Next.TheVariants.{Silent, Want, Ended}
use Rattle.op_core.specs.ThreadCode.{Code, quiet_step}
use Rattle.step_port.specs.declared.answer.StepAnswer.{StepAnswer}
use Rattle.step_port.specs.declared.step.Step.{Step}
use Rattle.step_port.specs.declared.step.Step.TheVariants.{OpenSection, MarkUndone}
use Rattle.step_port.specs.Steps.{kind_of}
use Rattle.thread_automaton.specs.declared.Move.{Move}
use Rattle.thread_automaton.specs.declared.Move.TheVariants.{Over, Quiet, Stop, Make}
use Rattle.thread_automaton.specs.ThreadState.{ThreadState}
use Rattle.thread_automaton.specs.NextMove.{next_move}
use Rattle.thread_automaton.specs.Changes.{changed}
use Rattle.thread_automaton.specs.Answers.{change_of}
use Rattle.thread_automaton.specs.Told.{Told, probed, advanced, born, lost, blocked, told, counted_for, after_answer}
use Rattle.thread_moves.specs.Thread.{thread_of}
use Rattle.rollback_core.specs.Turn.{SaysPlainly, Says, Turned, kind_made}
use Rattle.rollback_core.specs.declared.turned.Turn.{Turn}
use Rattle.section_laws.specs.NextSteps.{step_made}
use Rattle.turn_runs.proofs.KeptLemmas.{changed_counts, counted_by_told, told_counts}
use Rattle.table_words.specs.declared.setup.Setup.{Setup}
use Rattle.table_words.specs.declared.setup.ThreadPart.{ThreadPart}
use Rattle.table_words.specs.declared.seat.TableSeat.{TableSeat}
use Rattle.table_words.specs.Setups.{setup_bounds}
use Rattle.table_words.specs.Views.{first_after}
use Rattle.table_hosts.specs.declared.tally.Tally.{Tally}
use Rattle.table_hosts.specs.Turns.{is_idle, TakesTurn, TookTurn}
use Rattle.table_hosts.specs.Tallies.{opened_by, undone_by, opened_in_parts, undone_in_parts, MeetsBy, MeetsLimit, limit_of_turn, counted_by_turn, idle_by_turn, tally_of_turn, idle_after, tally_after, EndsIdly, IsTallyOf}

-- ---- kinds

pub opening_kind : (step : Step) → opened_by step ≡ (if nat_eq (kind_of step) 5 then 1 else 0)
opening_kind (OpenSection s word) = refl
opening_kind step = refl

pub undoing_kind : (step : Step) → undone_by step ≡ (if nat_eq (kind_of step) 10 then 1 else 0)
undoing_kind (MarkUndone s word) = refl
undoing_kind step = refl

-- ---- one turn

-- a turn that says this counts where the thread does, and meets no limit
record Reports {C : Type 0} (turn : Turn C (TableSeat C)) (counts : ℕ) : Type 0 where
  counted : counted_by_turn turn ≡ counts
  limit : limit_of_turn turn ≡ None

reported : {C : Type 0} (turn said : Turn C (TableSeat C)) → turn ≡ said → limit_of_turn said ≡ None → Reports turn (counted_by_turn said)
reported turn said is none = record { counted = ap counted_by_turn is; limit = ap limit_of_turn is ∙ none }

reports_plainly : {C S : Type 0} (code : Code S) (number silents : ℕ) (next : Next) (turn : Turn C (TableSeat C)) (tells : Told) → SaysPlainly number silents next turn tells
    → Reports turn (counted_by_told code tells)
reports_plainly code number silents next turn probed is = reported turn _ is refl
reports_plainly code number silents (Want op) turn (advanced (Some reply)) is = reported turn _ is refl
reports_plainly code number silents Silent turn (advanced (Some reply)) is = reported turn _ is refl
reports_plainly code number silents Ended turn (advanced (Some reply)) is = reported turn _ is refl
reports_plainly code number silents (Want op) turn (advanced None) is = reported turn _ is refl
reports_plainly code number silents Silent turn (advanced None) is = reported turn _ is refl
reports_plainly code number silents Ended turn (advanced None) is = reported turn _ is refl
reports_plainly code number silents next turn (lost v) is = reported turn _ is refl
reports_plainly code number silents next turn (blocked why) is = reported turn _ is refl
reports_plainly code number silents next turn born is = absurd is

module _ {C S : Type 0} (state : C → S) (saved : C → List S) (code : Code S) (k : Setup C) (th : ThreadState S) (p : ThreadPart C) (next : ThreadState S) (w : List (ThreadPart C)) where
  says_reports : (step : Step) (turn : Turn C (TableSeat C)) (tells : Told) → Says (thread_of state saved) code (setup_bounds k) th step (λ pass. Unit {0}) turn tells → Reports turn (counted_by_told code tells)
  says_reports step turn born says = reported turn _ says.says refl
  says_reports step turn probed says = reports_plainly code th.number th.silents (code.next th.local) turn probed says
  says_reports step turn (advanced reply) says = reports_plainly code th.number th.silents (code.next th.local) turn (advanced reply) says
  says_reports step turn (lost u) says = reports_plainly code th.number th.silents (code.next th.local) turn (lost u) says
  says_reports step turn (blocked why) says = reports_plainly code th.number th.silents (code.next th.local) turn (blocked why) says

  -- what one turn of this kind comes to
  record IsOneTurn (turn : Turn C (TableSeat C)) (kind : ℕ) : Type 0 where
    counted : next.counted ≡ th.counted + counted_by_turn turn
    opened : opened_in_parts w ≡ opened_in_parts (p ∷ []) + (if nat_eq kind 5 then 1 else 0)
    undone : undone_in_parts w ≡ undone_in_parts (p ∷ []) + (if nat_eq kind 10 then 1 else 0)
    limit : IfSome (limit_of_turn turn) (MeetsLimit code k next)

  stays_one : (turn said : Turn C (TableSeat C)) → turn ≡ said → next ≡ th → w ≡ p ∷ [] → counted_by_turn said ≡ 0 → IfSome (limit_of_turn said) (MeetsLimit code k th) → IsOneTurn turn 0
  stays_one turn said says stays quiet none meets = record {
    counted = let same = ap (λ (x : ThreadState S). x.counted) stays in let counts = ap counted_by_turn says ∙ none in omega (arith, same, counts);
    opened = let same = ap (λ (u : List (ThreadPart C)). opened_in_parts u) quiet in omega (arith, same);
    undone = let same = ap (λ (u : List (ThreadPart C)). undone_in_parts u) quiet in omega (arith, same);
    limit = subst (λ (x : ThreadState S). IfSome (limit_of_turn turn) (MeetsLimit code k x)) (sym stays)
        (subst (λ (o : Option Limit). IfSome o (MeetsLimit code k th)) (sym (ap limit_of_turn says)) meets);
  }

  none_met : (o : Option Limit) → o ≡ None → IfSome o (MeetsLimit code k next)
  none_met o none = subst (λ (x : Option Limit). IfSome x (MeetsLimit code k next)) (sym none) tt

  made_one : (step : Step) (a : StepAnswer) (turn : Turn C (TableSeat C)) → next ≡ after_answer code (setup_bounds k) th step a → w ≡ first_after (p ∷ []) (step_made step a)
      → Reports turn (counted_by_told code (told code (setup_bounds k) th step a)) → IsOneTurn turn (kind_of step)
  made_one step a turn moves grown reports = record {
    counted =
        let tells = told code (setup_bounds k) th step a in
        let after = changed code th (change_of code (setup_bounds k) th (code.next th.local) step a) in
        let same = ap (λ (x : ThreadState S). x.counted) moves in
        let by_told = told_counts code tells after in
        let by_change = changed_counts code th (change_of code (setup_bounds k) th (code.next th.local) step a) in
        same ∙ by_told ∙ ap (λ n. n + counted_by_told code tells) by_change ∙ ap (λ n. th.counted + n) (sym reports.counted);
    opened = let same = ap (λ (u : List (ThreadPart C)). opened_in_parts u) grown in let kind = opening_kind step in omega (arith, same, kind);
    undone = let same = ap (λ (u : List (ThreadPart C)). undone_in_parts u) grown in let kind = undoing_kind step in omega (arith, same, kind);
    limit = none_met (limit_of_turn turn) reports.limit;
  }

  one_by : (turn : Turn C (TableSeat C)) (move : Move) → next_move code (setup_bounds k) th ≡ move
      → Turned (thread_of state saved) code (setup_bounds k) th next (λ step a. w ≡ first_after (p ∷ []) (step_made step a)) (λ step pass. Unit {0}) (w ≡ p ∷ []) turn move → IsOneTurn turn (kind_made move)
  one_by turn Over is (quiet, at) = stays_one turn _ at.says at.thread quiet refl tt
  one_by turn (Stop limit) is (quiet, at) = stays_one turn _ at.says at.thread quiet refl (subst (λ (m : Move). MeetsBy m (quiet_step code th.local) limit) (sym is) refl)
  one_by turn Quiet is (quiet, inl silent) = record {
    counted = let same = ap (λ (x : ThreadState S). x.counted) silent.goes in let counts = ap counted_by_turn silent.says in omega (arith, same, counts);
    opened = let same = ap (λ (u : List (ThreadPart C)). opened_in_parts u) quiet in omega (arith, same);
    undone = let same = ap (λ (u : List (ThreadPart C)). undone_in_parts u) quiet in omega (arith, same);
    limit = none_met (limit_of_turn turn) (ap limit_of_turn silent.says);
  }
  one_by turn Quiet is (quiet, inr (frames, at)) = stays_one turn _ at.says at.thread quiet refl
      (subst (λ (m : Move). MeetsBy m (quiet_step code th.local) Limit.Frames) (sym is) (subst (λ (o : Option S). MeetsBy Quiet o Limit.Frames) (sym frames) refl))
  one_by turn (Make step) is at = made_one step at.answer turn at.goes at.made (says_reports step turn (told code (setup_bounds k) th step at.answer) at.says)

  one_turn : (turn : Turn C (TableSeat C)) → TakesTurn state saved code k th (p ∷ []) next w turn → IsOneTurn turn (kind_made (next_move code (setup_bounds k) th))
  one_turn turn by = one_by turn (next_move code (setup_bounds k) th) refl by

-- ---- turns, and one more

module _ {C S : Type 0} (state : C → S) (saved : C → List S) (code : Code S) (k : Setup C) where
  -- no turn
  pub none_yet : (th : ThreadState S) (v w : List (ThreadPart C)) → w ≡ v → (none : Tally) → none ≡ record { limit = None; counted = 0; idle = 0; opened = 0; undone = 0 }
      → IsTallyOf state saved code k th v th w none
  none_yet th v w same none is = subst (IsTallyOf state saved code k th v th w) (sym is) (record {
    counted = omega arith;
    idle = (th, w, (refl, refl));
    opened = let parts = ap (λ (u : List (ThreadPart C)). opened_in_parts u) same in omega (arith, parts);
    undone = let parts = ap (λ (u : List (ThreadPart C)). undone_in_parts u) same in omega (arith, parts);
    limit = tt;
  })

  module _ (th : ThreadState S) (v : List (ThreadPart C)) (last : ThreadState S) (u : List (ThreadPart C)) (next : ThreadState S) (w : List (ThreadPart C)) where
    idle_more : (n : ℕ) → EndsIdly state saved code k n last u → (turn : Turn C (TableSeat C)) → TakesTurn state saved code k last u next w turn → EndsIdly state saved code k (idle_after n (idle_by_turn turn)) next w
    idle_more n before turn by = by_test (is_idle turn) refl
      where
        by_test : (t : Bool) → is_idle turn ≡ t → EndsIdly state saved code k (idle_after n (if t then 1 else 0)) next w
        by_test true is = (before.0, before.1, (last, u, before.2, record { turn = turn; takes = by; is = is }))
        by_test false is = (next, w, (refl, refl))

    -- a turn of a thread whose seat has one part
    pub tallied : (p : ThreadPart C) → u ≡ p ∷ [] → (before one : Tally) (kind : ℕ) → kind ≡ kind_made (next_move code (setup_bounds k) last) → IsTallyOf state saved code k th v last u before
        → TookTurn state saved code k (λ turn. one ≡ tally_of_turn turn kind) last u next w → IsTallyOf state saved code k th v next w (tally_after before one)
    tallied p is before one kind kinds tally took =
        let t = one_turn state saved code k last p next w took.turn (subst (λ (x : List (ThreadPart C)). TakesTurn state saved code k last x next w took.turn) is took.takes) in
        let made : one ≡ tally_of_turn took.turn (kind_made (next_move code (setup_bounds k) last)) = took.is ∙ ap (tally_of_turn took.turn) kinds in
        subst (λ (x : Tally). IsTallyOf state saved code k th v next w (tally_after before x)) (sym made) (record {
          counted = let a = tally.counted in let b = t.counted in omega (arith, a, b);
          idle = idle_more before.idle tally.idle took.turn took.takes;
          opened = let a = tally.opened in let b = t.opened in let c = ap (λ (x : List (ThreadPart C)). opened_in_parts x) is in omega (arith, a, b, c);
          undone = let a = tally.undone in let b = t.undone in let c = ap (λ (x : List (ThreadPart C)). undone_in_parts x) is in omega (arith, a, b, c);
          limit = t.limit;
        })
