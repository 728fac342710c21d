-- Plain turns, one after another, and what they keep.
use Rattle.std.proofs.Common.{◌≡◌, ℕ, zero, suc, ◌+◌, ◌≤◌, ◌&&◌, true, false, Some, List, [], ◌∷◌, ◌++◌, length, refl, sym, ◌∙◌, ap, subst, arith, length-append}
use Rattle.std.specs.Prelude.{nat_le, if◌then◌else◌}
use Rattle.op_core.specs.declared.Limit.TheVariants.{Turns}
use Rattle.op_core.specs.declared.Next.{Next}
use Rattle.op_core.specs.declared.Next.TheVariants.{Silent}
use Rattle.op_core.specs.ThreadCode.{Code, leaves_any, quiet_step, quiet_steps, LeavesNoSave}
use Rattle.step_port.specs.declared.answer.StepAnswer.{StepAnswer}
use Rattle.step_port.specs.declared.step.Step.{Step}
use Rattle.step_port.specs.declared.step.Step.TheVariants.{LoadSection}
use Rattle.step_port.specs.Steps.{effect_of, kind_of}
use Rattle.step_port.specs.Words.{CanAnswer}
use Rattle.thread_automaton.specs.declared.Attempt.TheVariants.{Begin}
use Rattle.thread_automaton.specs.declared.Bounds.{Bounds}
use Rattle.thread_automaton.specs.declared.Move.TheVariants.{Over, Quiet, Stop, Make}
use Rattle.thread_automaton.specs.ThreadState.{ThreadState, is_open}
use Rattle.thread_automaton.specs.NextMove.{move_of, next_move}
use Rattle.thread_automaton.specs.Told.{Told, told, after_answer, after_quiet}
use Rattle.rollback_core.proofs.QuietLemmas.{silent_by}
use Rattle.thread_moves.specs.declared.thread.Own.{Own}
use Rattle.turn_runs.specs.Turns as runs
use Rattle.turn_runs.specs.Turns.{TurnMove, silent, made, last_kind}
use Rattle.turn_runs.proofs.TurnLemmas.{joined}
use Rattle.turn_runs.proofs.HostLemmas.{never_both, last_kind_joined, and_then_some, one_more_quiet, counted_quiet, lives_quiet}
use Rattle.port_turns.specs.Plain.{is_word_step, leaves_free, ArePlain, PlainTurns, CanGoOn}
use Rattle.turn_runs.specs.Own.{thread_at, own_quiet}

are_joined : (moves others : List TurnMove) → ArePlain moves → ArePlain others → ArePlain (moves ++ others)
are_joined [] others are more = more
are_joined (move ∷ moves) others are more = (are.0, are_joined moves others are.1 more)

module _ {S P : Type 0} (code : Code S) (b : Bounds) (stepped : P → Step → StepAnswer → P → Type 0) where
  -- ---- one turn

  pub no_turns : (th : ThreadState S) (x : P) (k : ℕ) → PlainTurns code b stepped th x k 0 th x k
  no_turns th x k = record { moves = []; turns = (refl, refl); count = refl; plain = tt; kind = refl }

  pub one_made : (th last : ThreadState S) (x y : P) (k : ℕ) (next : Next) (step : Step) (answer : StepAnswer) (tells : Told) → code.next th.local ≡ next
      → next_move code b th ≡ Make step → stepped x step answer y → CanAnswer (effect_of step) answer → told code b th step answer ≡ tells
      → (is_word_step step && leaves_free tells) ≡ true → after_answer code b th step answer ≡ last → PlainTurns code b stepped th x k 1 last y (kind_of step)
  one_made th last x y k next step answer tells wants makes stepped_to can tells_is plain is = record {
    moves = made next step answer tells ∷ [];
    turns = (y, sym wants, makes, stepped_to, can, sym tells_is, (sym is, refl));
    count = refl;
    plain = (plain, tt);
    kind = refl;
  }

  -- ---- end to end

  pub plain_joined : (th mid last : ThreadState S) (x y z : P) (j k l n m : ℕ) → PlainTurns code b stepped th x j n mid y k → PlainTurns code b stepped mid y k m last z l
      → PlainTurns code b stepped th x j (n + m) last z l
  plain_joined th mid last x y z j k l n m first second = record {
    moves = first.moves ++ second.moves;
    turns = joined code b stepped mid last y z first.moves second.moves th x first.turns second.turns;
    count = ap (λ n. n + m) first.count ∙ ap (λ m. length first.moves + m) second.count ∙ sym (length-append first.moves second.moves);
    plain = are_joined first.moves second.moves first.plain second.plain;
    kind = second.kind ∙ ap (λ k. last_kind k second.moves) first.kind ∙ sym (last_kind_joined j first.moves second.moves);
  }

  pub can_go_on : (allows : P → Step → Type 0) (moves : List TurnMove) (th last : ThreadState S) (x y : P) → CanGoOn code b allows stepped th x
      → runs.Turns code b stepped th x moves last y → CanGoOn code b allows stepped last y
  can_go_on allows moves th last x y ready turns = λ others end z further. ready (moves ++ others) end z (joined code b stepped last end y z moves others th x turns further)

  -- ---- silent turns

  one_silent : (th last : ThreadState S) (x : P) (k : ℕ) (l : S) → th.over ≡ false → nat_le b.limits.turns th.counted ≡ false → th.attempt ≡ Begin
      → leaves_any code th.saved th.local ≡ false → quiet_step code th.local ≡ Some l → after_quiet th l ≡ last → PlainTurns code b stepped th x k 1 last x 0
  one_silent th last x k l lives left begins stays steps is =
      let silent_next : code.next th.local ≡ Silent = silent_by code (code.silent th.local) l (code.next th.local) steps in
      record {
        moves = silent ∷ [];
        turns = (
          l,
          ap (λ over. if over then Over else if nat_le b.limits.turns th.counted then Stop Turns else move_of code th (code.next th.local) th.attempt) lives
              ∙ ap (λ full. if full then Stop Turns else move_of code th (code.next th.local) th.attempt) left
              ∙ ap (λ next. move_of code th next th.attempt) silent_next ∙ ap (move_of code th Silent) begins
              ∙ ap (λ t. if t then Make (LoadSection th.section) else Quiet) (never_both (is_open th) (leaves_any code th.saved th.local) stays),
          steps,
          (sym is, refl),
        );
        count = refl;
        plain = (refl, tt);
        kind = refl;
      }

  pub quiet_plain : (own : Own) (saves : List S) (x : P) (l : S) (n : ℕ) (m : S) → own.over ≡ false → own.counted + n ≤ b.limits.turns → quiet_steps code n l ≡ Some m
      → LeavesNoSave code saves n l
      → PlainTurns code b stepped (thread_at own Begin l saves) x own.last_kind n (thread_at (own_quiet own n) Begin m saves) x (own_quiet own n).last_kind
  quiet_plain own saves x l zero m lives left steps stays =
      let same : l ≡ m = cc in
      subst (λ m. PlainTurns code b stepped (thread_at own Begin l saves) x own.last_kind 0 (thread_at own Begin m saves) x own.last_kind) same
      (no_turns (thread_at own Begin l saves) x own.last_kind)
  quiet_plain own saves x l (suc n) m lives left steps stays =
      let (mid, before, step) = and_then_some (quiet_step code) (quiet_steps code n l) m steps in
      let counts : n + 1 ≡ suc n = omega arith in
      subst (λ k. PlainTurns code b stepped (thread_at own Begin l saves) x own.last_kind k (thread_at (own_quiet own (suc n)) Begin m saves) x 0) counts
      (plain_joined (thread_at own Begin l saves) (thread_at (own_quiet own n) Begin mid saves) (thread_at (own_quiet own (suc n)) Begin m saves) x x x
      own.last_kind (own_quiet own n).last_kind 0 n 1
      (quiet_plain own saves x l n mid lives (omega (arith, left)) before (λ k y below. stays k y (omega (arith, below))))
      (one_silent (thread_at (own_quiet own n) Begin mid saves) (thread_at (own_quiet own (suc n)) Begin m saves) x (own_quiet own n).last_kind m
      (lives_quiet own n lives) (counted_quiet own n b.limits.turns (omega (arith, left))) refl (stays n mid (omega arith) before) step (one_more_quiet own saves n mid m)))
